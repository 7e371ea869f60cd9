-- Syncs that leave the tasks at hand in place, as their records are read.
use Rattle.std.proofs.Common.{◌≡◌, ℕ, Bool, true, false, if◌then◌else◌, List, [], length, Option, Some, None, refl, ap, subst, ◌∙◌}
use Rattle.std.specs.Prelude.{◌==◌}
use Rattle.tw_model.specs.Ops.{TasksValue, apply_all}
use Rattle.tw_model.specs.declared.Op.{Op}
use Rattle.tw_model.specs.declared.SyncOp.{SyncOp}
use Rattle.tw_bodies.specs.Body.Step.{Carried, Partial}
use Rattle.tw_bodies.specs.Reading.{sync_op_at, all_ops_of}
use Rattle.tw_fields.specs.Reading.{◌>>=◌, many_at}
use Rattle.tw_state.specs.Applied.{FitsAll, NoneFit, AppliesFitting, carried_by, partly_by}
use Rattle.tw_state.specs.State.{State, misfit_synced, unless, at_base, carried, partly, applied}
use Rattle.tw_state.proofs.StatesReached.{not_carried}

-- ---- all of it was carried

-- the operations end with the bytes, or not
pub carried_at : (base : List ℕ) (count : ℕ) (bytes rest : List ℕ) (ops : List SyncOp) (old : State) → many_at sync_op_at count bytes ≡ Some (ops, rest) → (length rest == 0) ≡ true → carried_by base count bytes old ≡ carried base ops old
carried_at base count bytes rest ops old read ends =
    ap (λ (r : Option (List SyncOp × List ℕ)). (r >>= λ o. if length o.1 == 0 then Some (Carried base o.0) else None) >>= applied old) read ∙ ap (λ b. (if b then Some (Carried base ops) else None) >>= applied old) ends

pub goes_past : (base : List ℕ) (count : ℕ) (bytes rest : List ℕ) (ops : List SyncOp) (old : State) → many_at sync_op_at count bytes ≡ Some (ops, rest) → (length rest == 0) ≡ false → carried_by base count bytes old ≡ None
goes_past base count bytes rest ops old read more =
    ap (λ (r : Option (List SyncOp × List ℕ)). (r >>= λ o. if length o.1 == 0 then Some (Carried base o.0) else None) >>= applied old) read ∙ ap (λ b. (if b then Some (Carried base ops) else None) >>= applied old) more

module _ (base : List ℕ) (count : ℕ) (bytes : List ℕ) (old : State) (unfit : NoneFit count bytes old.tasks) where
  pub not_carried_by : carried_by base count bytes old ≡ None
  not_carried_by = by (many_at sync_op_at count bytes) refl
    where
      no_state : (ops : List SyncOp) (rest : List ℕ) → many_at sync_op_at count bytes ≡ Some (ops, rest) → (o : Option ℕ) → misfit_synced 0 old.tasks ops ≡ o → unless o (at_base base (apply_all old.tasks ops) old) ≡ None
      no_state ops rest e None fits = absurd (unfit ops rest e fits)
      no_state ops rest e (Some n) some = refl

      ended : (ops : List SyncOp) (rest : List ℕ) → many_at sync_op_at count bytes ≡ Some (ops, rest) → (b : Bool) → (if b then Some (Carried base ops) else None) >>= applied old ≡ None
      ended ops rest e true = no_state ops rest e (misfit_synced 0 old.tasks ops) refl
      ended ops rest e false = refl

      by : (r : Option (List SyncOp × List ℕ)) → many_at sync_op_at count bytes ≡ r → (r >>= λ o. if length o.1 == 0 then Some (Carried base o.0) else None) >>= applied old ≡ None
      by None e = refl
      by (Some r) e = ended r.0 r.1 e (length r.1 == 0)

  pub not_partly_by : partly_by base count bytes old ≡ None
  not_partly_by = by (many_at sync_op_at count bytes) refl
    where
      no_state : (ops : List SyncOp) (rest : List ℕ) (pending : List Op) → many_at sync_op_at count bytes ≡ Some (ops, rest) → (o : Option ℕ) → misfit_synced 0 old.tasks ops ≡ o → partly base ops pending old ≡ None
      no_state ops rest pending e None fits = absurd (unfit ops rest e fits)
      no_state ops rest pending e (Some n) some = not_carried base ops pending old n some

      held : (ops : List SyncOp) (rest : List ℕ) → many_at sync_op_at count bytes ≡ Some (ops, rest) → (p : Option (List Op)) → (p >>= λ pending. Some (Partial base ops pending)) >>= applied old ≡ None
      held ops rest e None = refl
      held ops rest e (Some pending) = no_state ops rest pending e (misfit_synced 0 old.tasks ops) refl

      by : (r : Option (List SyncOp × List ℕ)) → many_at sync_op_at count bytes ≡ r → (r >>= λ o. all_ops_of o.1 >>= λ pending. Some (Partial base o.0 pending)) >>= applied old ≡ None
      by None e = refl
      by (Some r) e = held r.0 r.1 e (all_ops_of r.1)

-- ---- something is pending

pub partly_at : (base : List ℕ) (count : ℕ) (bytes rest : List ℕ) (ops : List SyncOp) (pending : List Op) (old : State) → many_at sync_op_at count bytes ≡ Some (ops, rest) → all_ops_of rest ≡ Some pending → partly_by base count bytes old ≡ partly base ops pending old
partly_at base count bytes rest ops pending old read held =
    ap (λ (r : Option (List SyncOp × List ℕ)). (r >>= λ o. all_ops_of o.1 >>= λ p. Some (Partial base o.0 p)) >>= applied old) read ∙ ap (λ (r : Option (List Op)). (r >>= λ p. Some (Partial base ops p)) >>= applied old) held

pub nothing_held : (base : List ℕ) (count : ℕ) (bytes rest : List ℕ) (ops : List SyncOp) (old : State) → many_at sync_op_at count bytes ≡ Some (ops, rest) → all_ops_of rest ≡ None → partly_by base count bytes old ≡ None
nothing_held base count bytes rest ops old read none =
    ap (λ (r : Option (List SyncOp × List ℕ)). (r >>= λ o. all_ops_of o.1 >>= λ p. Some (Partial base o.0 p)) >>= applied old) read ∙ ap (λ (r : Option (List Op)). (r >>= λ p. Some (Partial base ops p)) >>= applied old) none

-- what was read and applied
pub fits_all : (o : Option (List ℕ)) (count : ℕ) (bytes rest : List ℕ) (old new : TasksValue) (before after : List (List ℕ)) → o ≡ Some rest → before ≡ [] → AppliesFitting o count bytes old new before after → FitsAll count bytes rest old new [] after
fits_all o count bytes rest old new before after is none all = subst (λ (us : List (List ℕ)). FitsAll count bytes rest old new us after) none (subst (λ (p : Option (List ℕ)). AppliesFitting p count bytes old new before after) is all)

pub fits_none : (o : Option (List ℕ)) (count : ℕ) (bytes : List ℕ) (old new : TasksValue) (before after : List (List ℕ)) → o ≡ None → AppliesFitting o count bytes old new before after → NoneFit count bytes old
fits_none o count bytes old new before after is all = subst (λ (p : Option (List ℕ)). AppliesFitting p count bytes old new before after) is all
