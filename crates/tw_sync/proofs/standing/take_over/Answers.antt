use Rattle.std.proofs.Common.{◌≡◌, ◌∙◌, false, ap, refl, sym}
use Rattle.tw_protocol.specs.Chain.{same_id}
use Rattle.tw_state.specs.Core.{state_of}
use Rattle.tw_replica.proofs.RecordAdded.{nothing_written}
use Rattle.tw_bodies.specs.Body.{body_of}
use Rattle.tw_replica.specs.Replica.{taking_over}
use Rattle.tw_sync.specs.Ends.Moved.{taken_step, moved_by}
use Rattle.tw_sync.proofs.Results.{on_ok, all_on_ok, if_err, either}
use Rattle.tw_sync.proofs.StepTaken.{same_grown, row_grown, syncing_grown, taking_leaves, taking_moves, taking_refused}
use Rattle.tw_sync.proofs.standing.take_over.Goals as goal

pub returns-then-eq-clause-any_moment : goal.returns-then-eq-clause-any_moment
returns-then-eq-clause-any_moment g c = λ r stands leads bodies on.
    nothing_written g.D.Disk.model g.met.D.Disk.only_now c.args.replica.now c.args.disk.now bodies (moved_by r.at (taken_step (state_of c.args.replica.now.core) r) (state_of c.args.replica.now.core)) on

pub returns-in_err-apply_synced-clause-any_moment : goal.returns-in_err-apply_synced-clause-any_moment
returns-in_err-apply_synced-clause-any_moment g c = λ r stands leads bodies on.
    nothing_written g.D.Disk.model g.met.D.Disk.only_now c.args.replica.now c.args.disk.now bodies (moved_by r.at (taken_step (state_of c.args.replica.now.core) r) (state_of c.args.replica.now.core)) on

pub returns-clause-any_moment : goal.returns-clause-any_moment
returns-clause-any_moment g c = λ r stands leads.
    let far : same_id c.at-base.result c.args.replica.now.core.base ≡ false = ap (same_id c.at-base.result) (sym c.base.ensures) ∙ sym c.eq.ensures ∙ c.if-eq.false in
    taking_leaves g.D.Disk.model c.args.replica.now c.finish_from.new.self c.args.disk.now c.finish_from.new.disk c.at-base.result c.args.tasks c.apply_synced.new.tasks c.into_carried-carried.result c.in_ok-apply_synced.ensures r
    (c.at-base.ensures ∙ stands.at) (c.into_carried-carried.ensures ∙ stands.carried) leads far c.finish_from.ensures.any_moment

pub returns-clause-moved : goal.returns-clause-moved
returns-clause-moved g c =
    let far : same_id c.at-base.result c.args.replica.now.core.base ≡ false = ap (same_id c.at-base.result) (sym c.base.ensures) ∙ sym c.eq.ensures ∙ c.if-eq.false in
    all_on_ok c.finish_from.result c.finish_from.ensures.state c.finish_from.ensures.stands c.finish_from.ensures.within (λ state adds within r stands leads.
    taking_moves g.D.Disk.model c.args.replica.now c.finish_from.new.self c.args.disk.now c.finish_from.new.disk c.at-base.result c.args.tasks c.apply_synced.new.tasks c.into_carried-carried.result c.in_ok-apply_synced.ensures r
    (c.at-base.ensures ∙ stands.at) (c.into_carried-carried.ensures ∙ stands.carried) leads far state adds (within _ refl))

pub returns-clause-refused : goal.returns-clause-refused
returns-clause-refused g c =
    let far : same_id c.at-base.result c.args.replica.now.core.base ≡ false = ap (same_id c.at-base.result) (sym c.base.ensures) ∙ sym c.eq.ensures ∙ c.if-eq.false in
    if_err c.finish_from.result c.finish_from.ensures.refused (λ e refused r stands leads.
    taking_refused g.D.Disk.model c.args.replica.now c.finish_from.new.self c.args.disk.now c.finish_from.new.disk c.at-base.result c.args.tasks c.apply_synced.new.tasks c.into_carried-carried.result c.in_ok-apply_synced.ensures r
    (c.at-base.ensures ∙ stands.at) (c.into_carried-carried.ensures ∙ stands.carried) leads far e refused)

-- ---- how much the disk grows

pub returns-then-eq-clause-growth : goal.returns-then-eq-clause-growth
returns-then-eq-clause-growth g c = λ bodies on. same_grown g.D.Disk.model g.met.D.Disk.only_now c.args.disk.now c.args.disk.now refl

pub returns-in_err-apply_synced-clause-growth : goal.returns-in_err-apply_synced-clause-growth
returns-in_err-apply_synced-clause-growth g c = λ bodies on. same_grown g.D.Disk.model g.met.D.Disk.only_now c.args.disk.now c.args.disk.now refl

pub returns-clause-growth : goal.returns-clause-growth
returns-clause-growth g c = λ bodies on.
    let body = body_of (taking_over c.at-base.result c.apply_synced.new.tasks c.args.replica.now) in
    either c.finish_from.result
    (on_ok c.finish_from.result c.finish_from.ensures.within (λ within. row_grown g.D.Disk.model g.met.D.Disk.only_now c.args.disk.now c.finish_from.new.disk body (within _ refl) (c.finish_from.ensures.growth bodies on)))
    (if_err c.finish_from.result c.finish_from.ensures.refused (λ e refused. syncing_grown g.D.Disk.model g.met.D.Disk.only_now c.args.disk.now c.finish_from.new.disk c.args.replica.now c.finish_from.new.self body e refused (c.finish_from.ensures.growth bodies on)))
