use Rattle.std.proofs.Common.{◌≡◌, ◌∙◌, ℕ, List, false, ap, refl, sym, subst}
use Rattle.tw_protocol.specs.Chain.{same_id}
use Rattle.tw_bodies.specs.Body.{Step, body_of, body_size}
use Rattle.tw_bodies.specs.Body.Step.{Carried}
use Rattle.tw_state.specs.Core.{state_of}
use Rattle.tw_replica.specs.Replica.{CarryingRefused}
use Rattle.tw_replica.specs.declared.error.CommitError.TheVariants as commits
use Rattle.tw_replica.proofs.RecordAdded.{nothing_written}
use Rattle.tw_sync.specs.Ends.Moved.{done_step, moved_by}
use Rattle.tw_sync.proofs.StepTaken.{leaves_move, same_grown, row_grown, refused_grown}
use Rattle.tw_sync.proofs.standing.end_at.Goals as goal

pub returns-then-eq-clause-any_moment : goal.returns-then-eq-clause-any_moment
returns-then-eq-clause-any_moment g c = λ hand r stands bodies on. nothing_written g.D.Disk.model g.met.D.Disk.only_now c.args.replica.now c.args.disk.now bodies (moved_by r.at (done_step r) (state_of c.args.replica.now.core)) on

pub returns-in-Ok-clause-any_moment : goal.returns-in-Ok-clause-any_moment
returns-in-Ok-clause-any_moment g c = λ hand r stands.
    let far : same_id r.at c.args.replica.now.core.base ≡ false = ap (λ (h : List ℕ). same_id h c.args.replica.now.core.base) (sym stands.at ∙ sym c.at-base.ensures) ∙ ap (same_id c.at-base.result) (sym c.base.ensures) ∙ sym c.eq.ensures ∙ c.if-eq.false in
    let at_is : c.at-base.result ≡ r.at = c.at-base.ensures ∙ stands.at in
    let ops_are : c.into_carried-carried.result ≡ r.carried = c.into_carried-carried.ensures ∙ stands.carried in
    let taken : Step = Carried c.at-base.result c.into_carried-carried.result in
    let is : taken ≡ done_step r = (λ i. Carried (at_is i) (ops_are i)) in
    leaves_move g.D.Disk.model c.args.replica.now c.finish_carried.new.self c.args.disk.now c.finish_carried.new.disk r.at taken (done_step r) is far c.finish_carried.ensures.any_moment

pub returns-in-Err-Journal-clause-any_moment : goal.returns-in-Err-Journal-clause-any_moment
returns-in-Err-Journal-clause-any_moment g c = λ hand r stands.
    let far : same_id r.at c.args.replica.now.core.base ≡ false = ap (λ (h : List ℕ). same_id h c.args.replica.now.core.base) (sym stands.at ∙ sym c.at-base.ensures) ∙ ap (same_id c.at-base.result) (sym c.base.ensures) ∙ sym c.eq.ensures ∙ c.if-eq.false in
    let at_is : c.at-base.result ≡ r.at = c.at-base.ensures ∙ stands.at in
    let ops_are : c.into_carried-carried.result ≡ r.carried = c.into_carried-carried.ensures ∙ stands.carried in
    let taken : Step = Carried c.at-base.result c.into_carried-carried.result in
    let is : taken ≡ done_step r = (λ i. Carried (at_is i) (ops_are i)) in
    leaves_move g.D.Disk.model c.args.replica.now c.finish_carried.new.self c.args.disk.now c.finish_carried.new.disk r.at taken (done_step r) is far c.finish_carried.ensures.any_moment

pub returns-in-Err-Memory-clause-any_moment : goal.returns-in-Err-Memory-clause-any_moment
returns-in-Err-Memory-clause-any_moment g c = λ hand r stands.
    let far : same_id r.at c.args.replica.now.core.base ≡ false = ap (λ (h : List ℕ). same_id h c.args.replica.now.core.base) (sym stands.at ∙ sym c.at-base.ensures) ∙ ap (same_id c.at-base.result) (sym c.base.ensures) ∙ sym c.eq.ensures ∙ c.if-eq.false in
    let at_is : c.at-base.result ≡ r.at = c.at-base.ensures ∙ stands.at in
    let ops_are : c.into_carried-carried.result ≡ r.carried = c.into_carried-carried.ensures ∙ stands.carried in
    let taken : Step = Carried c.at-base.result c.into_carried-carried.result in
    let is : taken ≡ done_step r = (λ i. Carried (at_is i) (ops_are i)) in
    leaves_move g.D.Disk.model c.args.replica.now c.finish_carried.new.self c.args.disk.now c.finish_carried.new.disk r.at taken (done_step r) is far c.finish_carried.ensures.any_moment

-- ---- how much the disk grows

pub returns-then-eq-clause-growth : goal.returns-then-eq-clause-growth
returns-then-eq-clause-growth g c = λ bodies on. same_grown g.D.Disk.model g.met.D.Disk.only_now c.args.disk.now c.args.disk.now refl

pub returns-in-Ok-clause-growth : goal.returns-in-Ok-clause-growth
returns-in-Ok-clause-growth g c = λ bodies on. row_grown g.D.Disk.model g.met.D.Disk.only_now c.args.disk.now c.finish_carried.new.disk (body_of (Carried c.at-base.result c.into_carried-carried.result)) (c.in-Ok.ensures.within _ refl) (c.finish_carried.ensures.growth bodies on)

pub returns-in-Err-Journal-clause-growth : goal.returns-in-Err-Journal-clause-growth
returns-in-Err-Journal-clause-growth g c = λ bodies on.
    let refused : CarryingRefused g.D.Disk.model c.args.replica.now c.finish_carried.new.self c.args.disk.now c.finish_carried.new.disk c.into_carried-carried.result (body_size (Carried c.at-base.result c.into_carried-carried.result)) (commits.Journal c.in-Err-Journal.error) = subst (CarryingRefused g.D.Disk.model c.args.replica.now c.finish_carried.new.self c.args.disk.now c.finish_carried.new.disk c.into_carried-carried.result (body_size (Carried c.at-base.result c.into_carried-carried.result))) c.in-Err-Journal.field-0-is c.in-Err-Journal.ensures.refused in
    refused_grown g.D.Disk.model g.met.D.Disk.only_now c.args.disk.now c.finish_carried.new.disk c.args.replica.now c.finish_carried.new.self (body_of (Carried c.at-base.result c.into_carried-carried.result)) c.in-Err-Journal.error refused.0 (c.finish_carried.ensures.growth bodies on)

pub returns-in-Err-Memory-clause-growth : goal.returns-in-Err-Memory-clause-growth
returns-in-Err-Memory-clause-growth g c = λ bodies on.
    let refused : CarryingRefused g.D.Disk.model c.args.replica.now c.finish_carried.new.self c.args.disk.now c.finish_carried.new.disk c.into_carried-carried.result (body_size (Carried c.at-base.result c.into_carried-carried.result)) commits.Memory = subst (CarryingRefused g.D.Disk.model c.args.replica.now c.finish_carried.new.self c.args.disk.now c.finish_carried.new.disk c.into_carried-carried.result (body_size (Carried c.at-base.result c.into_carried-carried.result))) c.in-Err-Memory.field-0-is c.in-Err-Memory.ensures.refused in
    same_grown g.D.Disk.model g.met.D.Disk.only_now c.args.disk.now c.finish_carried.new.disk refused.1.disk
