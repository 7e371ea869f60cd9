use Rattle.std.proofs.Common.{List, ℕ, refl, ap, ◌∙◌}
use Rattle.tw_world.specs.Disk.{overwritten}
use Rattle.tw_journal.proofs.OneStep.{one_call, then_sync}
use Rattle.tw_journal.proofs.create.write_slots.Goals as goal

pub returns-in_err-write_at-clause-any_moment : goal.returns-in_err-write_at-clause-any_moment
returns-in_err-write_at-clause-any_moment g c = λ tells settled.
    one_call g.D.Disk.model g.met.D.Disk.counts_now g.met.D.Disk.only_now c.args.disk.now _ _ (record { front = refl; long = refl }) (λ f torn. record { front = torn.before; long = torn.same_length }) tells settled c.write_at.new.self c.write_at.ensures.steps

pub returns-in_err-sync-clause-any_moment : goal.returns-in_err-sync-clause-any_moment
returns-in_err-sync-clause-any_moment g c = λ tells settled.
    then_sync g.D.Disk.model g.met.D.Disk.counts_now g.met.D.Disk.only_now c.args.disk.now _ _ (record { front = refl; long = refl }) (λ f torn. record { front = torn.before; long = torn.same_length }) tells settled c.write_at.new.self c.sync.new.self c.write_at.ensures.steps c.sync.ensures.steps

pub returns-clause-any_moment : goal.returns-clause-any_moment
returns-clause-any_moment g c = λ tells settled.
    then_sync g.D.Disk.model g.met.D.Disk.counts_now g.met.D.Disk.only_now c.args.disk.now _ _ (record { front = refl; long = refl }) (λ f torn. record { front = torn.before; long = torn.same_length }) tells settled c.write_at.new.self c.sync.new.self c.write_at.ensures.steps c.sync.ensures.steps

pub returns-clause-done : goal.returns-clause-done
returns-clause-done g c = λ tells.
    let m = g.D.Disk.model in
    let told = c.write_at.ensures.steps.tells ∙ tells in
    (c.sync.ensures.seen told ∙ c.in_ok-write_at.ensures.written tells ∙ ap (λ (b : List ℕ). overwritten 1 b (m.seen c.args.disk.now)) c.behind_selector-bytes.ensures, c.in_ok-sync.ensures.settled told)
