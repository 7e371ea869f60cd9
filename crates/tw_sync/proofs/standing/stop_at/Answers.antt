use Rattle.std.proofs.Common.{◌≡◌, ◌∙◌, ℕ, List, true, false, ap, refl, sym, subst}
use Rattle.tw_protocol.specs.Chain.{same_id}
use Rattle.tw_bodies.specs.Body.{Step, body_of}
use Rattle.tw_bodies.specs.Body.Step.{Partial}
use Rattle.tw_state.specs.Core.{state_of}
use Rattle.tw_replica.proofs.RecordAdded.{nothing_written}
use Rattle.tw_replica.specs.Replica.{PartialRefused}
use Rattle.tw_replica.specs.declared.error.CommitError.TheVariants as commits
use Rattle.tw_replica.specs.declared.error.RecordError.TheVariants as records
use Rattle.tw_model.specs.Ops.{apply_all}
use Rattle.tw_model.specs.declared.Op.{Op}
use Rattle.tw_model.specs.declared.SyncOp.{SyncOp}
use Rattle.tw_state.specs.State.{may_pend}
use Rattle.tw_groups.specs.Groups.{pending_on}
use Rattle.tw_sync.specs.Ends.Moved.{stopped_step, moved_by}
use Rattle.tw_sync.proofs.StepTaken.{leaves_move, moves_by, not_moved, same_grown, row_grown, refused_grown}
use Rattle.tw_sync.proofs.standing.stop_at.Goals as goal

pub returns-then-eq-clause-any_moment : goal.returns-then-eq-clause-any_moment
returns-then-eq-clause-any_moment g c = λ hand r stands bodies on. nothing_written g.D.Disk.model g.met.D.Disk.only_now c.args.replica.now c.args.disk.now bodies (moved_by r.at (stopped_step r) (state_of c.args.replica.now.core)) on

pub returns-in_err-pending-clause-any_moment : goal.returns-in_err-pending-clause-any_moment
returns-in_err-pending-clause-any_moment g c = λ hand r stands bodies on. nothing_written g.D.Disk.model g.met.D.Disk.only_now c.args.replica.now c.args.disk.now bodies (moved_by r.at (stopped_step r) (state_of c.args.replica.now.core)) on

-- what is left may be pending once what is carried is applied
pub finish_partial-requires-clause-pends : goal.finish_partial-requires-clause-pends
finish_partial-requires-clause-pends g c = λ none.
    let hand = c.requires.pends.0 in
    let r = c.requires.pends.1 in
    let stands = c.requires.pends.2 in
    let ops_are : c.into_carried-carried.result ≡ r.carried = c.into_carried-carried.ensures ∙ c.in_ok-pending.ensures.carried ∙ stands.carried in
    let pending_is : c.in_ok-pending.pending.items ≡ pending_on r.tasks r.left = c.in_ok-pending.ensures.pending hand r stands in
    subst (λ (ops : List SyncOp). may_pend (apply_all c.args.replica.now.core.tasks ops) c.in_ok-pending.pending.items ≡ true) (sym ops_are)
    (subst (λ (pending : List Op). may_pend (apply_all c.args.replica.now.core.tasks r.carried) pending ≡ true) (sym pending_is) c.requires.pends.3)

pub returns-in-Ok-clause-any_moment : goal.returns-in-Ok-clause-any_moment
returns-in-Ok-clause-any_moment g c = λ hand r stands.
    let far : same_id r.at c.args.replica.now.core.base ≡ false = ap (λ (h : List ℕ). same_id h c.args.replica.now.core.base) (sym stands.at ∙ sym c.at-base.ensures) ∙ ap (same_id c.at-base.result) (sym c.base.ensures) ∙ sym c.eq.ensures ∙ c.if-eq.false in
    let at_is : c.at-base.result ≡ r.at = c.at-base.ensures ∙ stands.at in
    let ops_are : c.into_carried-carried.result ≡ r.carried = c.into_carried-carried.ensures ∙ c.in_ok-pending.ensures.carried ∙ stands.carried in
    let pending_is : c.in_ok-pending.pending.items ≡ pending_on r.tasks r.left = c.in_ok-pending.ensures.pending hand r stands in
    let taken : Step = Partial c.at-base.result c.into_carried-carried.result c.in_ok-pending.pending.items in
    let is : taken ≡ stopped_step r = (λ i. Partial (at_is i) (ops_are i) (pending_is i)) in
    leaves_move g.D.Disk.model c.args.replica.now c.finish_partial.new.self c.args.disk.now c.finish_partial.new.disk r.at taken (stopped_step r) is far c.finish_partial.ensures.any_moment

pub returns-in-Err-Journal-clause-any_moment : goal.returns-in-Err-Journal-clause-any_moment
returns-in-Err-Journal-clause-any_moment g c = λ hand r stands.
    let far : same_id r.at c.args.replica.now.core.base ≡ false = ap (λ (h : List ℕ). same_id h c.args.replica.now.core.base) (sym stands.at ∙ sym c.at-base.ensures) ∙ ap (same_id c.at-base.result) (sym c.base.ensures) ∙ sym c.eq.ensures ∙ c.if-eq.false in
    let at_is : c.at-base.result ≡ r.at = c.at-base.ensures ∙ stands.at in
    let ops_are : c.into_carried-carried.result ≡ r.carried = c.into_carried-carried.ensures ∙ c.in_ok-pending.ensures.carried ∙ stands.carried in
    let pending_is : c.in_ok-pending.pending.items ≡ pending_on r.tasks r.left = c.in_ok-pending.ensures.pending hand r stands in
    let taken : Step = Partial c.at-base.result c.into_carried-carried.result c.in_ok-pending.pending.items in
    let is : taken ≡ stopped_step r = (λ i. Partial (at_is i) (ops_are i) (pending_is i)) in
    leaves_move g.D.Disk.model c.args.replica.now c.finish_partial.new.self c.args.disk.now c.finish_partial.new.disk r.at taken (stopped_step r) is far c.finish_partial.ensures.any_moment

pub returns-in-Err-Memory-clause-any_moment : goal.returns-in-Err-Memory-clause-any_moment
returns-in-Err-Memory-clause-any_moment g c = λ hand r stands.
    let far : same_id r.at c.args.replica.now.core.base ≡ false = ap (λ (h : List ℕ). same_id h c.args.replica.now.core.base) (sym stands.at ∙ sym c.at-base.ensures) ∙ ap (same_id c.at-base.result) (sym c.base.ensures) ∙ sym c.eq.ensures ∙ c.if-eq.false in
    let at_is : c.at-base.result ≡ r.at = c.at-base.ensures ∙ stands.at in
    let ops_are : c.into_carried-carried.result ≡ r.carried = c.into_carried-carried.ensures ∙ c.in_ok-pending.ensures.carried ∙ stands.carried in
    let pending_is : c.in_ok-pending.pending.items ≡ pending_on r.tasks r.left = c.in_ok-pending.ensures.pending hand r stands in
    let taken : Step = Partial c.at-base.result c.into_carried-carried.result c.in_ok-pending.pending.items in
    let is : taken ≡ stopped_step r = (λ i. Partial (at_is i) (ops_are i) (pending_is i)) in
    leaves_move g.D.Disk.model c.args.replica.now c.finish_partial.new.self c.args.disk.now c.finish_partial.new.disk r.at taken (stopped_step r) is far c.finish_partial.ensures.any_moment

pub returns-in-Ok-clause-moved : goal.returns-in-Ok-clause-moved
returns-in-Ok-clause-moved g c = λ hand r stands.
    let far : same_id r.at c.args.replica.now.core.base ≡ false = ap (λ (h : List ℕ). same_id h c.args.replica.now.core.base) (sym stands.at ∙ sym c.at-base.ensures) ∙ ap (same_id c.at-base.result) (sym c.base.ensures) ∙ sym c.eq.ensures ∙ c.if-eq.false in
    let at_is : c.at-base.result ≡ r.at = c.at-base.ensures ∙ stands.at in
    let ops_are : c.into_carried-carried.result ≡ r.carried = c.into_carried-carried.ensures ∙ c.in_ok-pending.ensures.carried ∙ stands.carried in
    let pending_is : c.in_ok-pending.pending.items ≡ pending_on r.tasks r.left = c.in_ok-pending.ensures.pending hand r stands in
    let taken : Step = Partial c.at-base.result c.into_carried-carried.result c.in_ok-pending.pending.items in
    let is : taken ≡ stopped_step r = (λ i. Partial (at_is i) (ops_are i) (pending_is i)) in
    moves_by g.D.Disk.model c.args.replica.now c.finish_partial.new.self c.args.disk.now c.finish_partial.new.disk r.at taken (stopped_step r) is far c.in-Ok.ensures.partly c.in-Ok.ensures.stands (c.in-Ok.ensures.within _ refl)

pub returns-in-Err-Journal-clause-refused : goal.returns-in-Err-Journal-clause-refused
returns-in-Err-Journal-clause-refused g c = λ hand r stands.
    let far : same_id r.at c.args.replica.now.core.base ≡ false = ap (λ (h : List ℕ). same_id h c.args.replica.now.core.base) (sym stands.at ∙ sym c.at-base.ensures) ∙ ap (same_id c.at-base.result) (sym c.base.ensures) ∙ sym c.eq.ensures ∙ c.if-eq.false in
    let at_is : c.at-base.result ≡ r.at = c.at-base.ensures ∙ stands.at in
    let ops_are : c.into_carried-carried.result ≡ r.carried = c.into_carried-carried.ensures ∙ c.in_ok-pending.ensures.carried ∙ stands.carried in
    let pending_is : c.in_ok-pending.pending.items ≡ pending_on r.tasks r.left = c.in_ok-pending.ensures.pending hand r stands in
    let taken : Step = Partial c.at-base.result c.into_carried-carried.result c.in_ok-pending.pending.items in
    let is : taken ≡ stopped_step r = (λ i. Partial (at_is i) (ops_are i) (pending_is i)) in
    let refused : PartialRefused g.D.Disk.model c.args.replica.now c.finish_partial.new.self c.args.disk.now c.finish_partial.new.disk c.at-base.result c.into_carried-carried.result c.in_ok-pending.pending.items (commits.Journal c.in-Err-Journal.error)
    = subst (PartialRefused g.D.Disk.model c.args.replica.now c.finish_partial.new.self c.args.disk.now c.finish_partial.new.disk c.at-base.result c.into_carried-carried.result c.in_ok-pending.pending.items) c.in-Err-Journal.field-0-is c.in-Err-Journal.ensures.refused in
    not_moved g.D.Disk.model c.args.replica.now c.finish_partial.new.self c.args.disk.now c.finish_partial.new.disk r.at taken (stopped_step r) is far (records.Journal c.in-Err-Journal.error) refused.0

-- ---- how much the disk grows

pub returns-then-eq-clause-growth : goal.returns-then-eq-clause-growth
returns-then-eq-clause-growth g c = λ bodies on. same_grown g.D.Disk.model g.met.D.Disk.only_now c.args.disk.now c.args.disk.now refl

pub returns-in_err-pending-clause-growth : goal.returns-in_err-pending-clause-growth
returns-in_err-pending-clause-growth g c = λ bodies on. same_grown g.D.Disk.model g.met.D.Disk.only_now c.args.disk.now c.args.disk.now refl

pub returns-in-Ok-clause-growth : goal.returns-in-Ok-clause-growth
returns-in-Ok-clause-growth g c = λ bodies on. row_grown g.D.Disk.model g.met.D.Disk.only_now c.args.disk.now c.finish_partial.new.disk (body_of (Partial c.at-base.result c.into_carried-carried.result c.in_ok-pending.pending.items)) (c.in-Ok.ensures.within _ refl) (c.finish_partial.ensures.growth bodies on)

pub returns-in-Err-Journal-clause-growth : goal.returns-in-Err-Journal-clause-growth
returns-in-Err-Journal-clause-growth g c = λ bodies on.
    let refused : PartialRefused g.D.Disk.model c.args.replica.now c.finish_partial.new.self c.args.disk.now c.finish_partial.new.disk c.at-base.result c.into_carried-carried.result c.in_ok-pending.pending.items (commits.Journal c.in-Err-Journal.error) = subst (PartialRefused g.D.Disk.model c.args.replica.now c.finish_partial.new.self c.args.disk.now c.finish_partial.new.disk c.at-base.result c.into_carried-carried.result c.in_ok-pending.pending.items) c.in-Err-Journal.field-0-is c.in-Err-Journal.ensures.refused in
    refused_grown g.D.Disk.model g.met.D.Disk.only_now c.args.disk.now c.finish_partial.new.disk c.args.replica.now c.finish_partial.new.self (body_of (Partial c.at-base.result c.into_carried-carried.result c.in_ok-pending.pending.items)) c.in-Err-Journal.error refused.0 (c.finish_partial.ensures.growth bodies on)

pub returns-in-Err-Memory-clause-growth : goal.returns-in-Err-Memory-clause-growth
returns-in-Err-Memory-clause-growth g c = λ bodies on.
    let refused : PartialRefused g.D.Disk.model c.args.replica.now c.finish_partial.new.self c.args.disk.now c.finish_partial.new.disk c.at-base.result c.into_carried-carried.result c.in_ok-pending.pending.items commits.Memory = subst (PartialRefused g.D.Disk.model c.args.replica.now c.finish_partial.new.self c.args.disk.now c.finish_partial.new.disk c.at-base.result c.into_carried-carried.result c.in_ok-pending.pending.items) c.in-Err-Memory.field-0-is c.in-Err-Memory.ensures.refused in
    same_grown g.D.Disk.model g.met.D.Disk.only_now c.args.disk.now c.finish_partial.new.disk refused.1.disk
