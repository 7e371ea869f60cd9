use Rattle.std.proofs.Common.{inl, refl, ◌∙◌}
use Rattle.tw_journal.proofs.OneStep.{one_call, then_sync}
use Rattle.tw_journal.proofs.append.make_room.Goals as goal

pub returns-in_err-set_len-clause-any_moment : goal.returns-in_err-set_len-clause-any_moment
returns-in_err-set_len-clause-any_moment g c = λ tells settled.
    one_call g.D.Disk.model g.met.D.Disk.counts_now g.met.D.Disk.only_now c.args.disk.now _ _ (inl refl) (λ f is. is) tells settled c.set_len.new.self c.set_len.ensures.steps

pub returns-in_err-sync-clause-any_moment : goal.returns-in_err-sync-clause-any_moment
returns-in_err-sync-clause-any_moment g c = λ tells settled.
    then_sync g.D.Disk.model g.met.D.Disk.counts_now g.met.D.Disk.only_now c.args.disk.now _ _ (inl refl) (λ f is. is) tells settled c.set_len.new.self c.sync.new.self c.set_len.ensures.steps c.sync.ensures.steps

pub returns-clause-any_moment : goal.returns-clause-any_moment
returns-clause-any_moment g c = λ tells settled.
    then_sync g.D.Disk.model g.met.D.Disk.counts_now g.met.D.Disk.only_now c.args.disk.now _ _ (inl refl) (λ f is. is) tells settled c.set_len.new.self c.sync.new.self c.set_len.ensures.steps c.sync.ensures.steps

pub returns-clause-done : goal.returns-clause-done
returns-clause-done g c = λ tells.
    let told = c.set_len.ensures.steps.tells ∙ tells in
    (c.sync.ensures.seen told ∙ c.in_ok-set_len.ensures.resized tells, c.in_ok-sync.ensures.settled told)
