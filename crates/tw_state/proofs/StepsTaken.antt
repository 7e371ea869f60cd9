-- What holds of a replica in memory from step to step.
use Rattle.std.proofs.Common.{◌≡◌, ℕ, Bool, true, false, cond, ◌||◌, List, [], ◌∷◌, Option, Some, None, refl, sym, ap, subst, ◌∙◌}
use Rattle.std.specs.Prelude.{IfNone, is_none}
use Rattle.std.specs.Ordering.{eq_by_cmp}
use Rattle.std.specs.Cmp.Lexicographic.{texts_ties}
use Rattle.std.specs.FinMap.{get, empty, get-empty}
use Rattle.tw_model.specs.Maps.{bytes_cmp, same_bytes}
use Rattle.tw_model.specs.Ops.{TaskValue, TasksValue, apply_all}
use Rattle.tw_model.specs.LocalOps.{apply_all_local, take_back_all}
use Rattle.tw_model.specs.declared.Op.{Op}
use Rattle.tw_model.specs.declared.Op.TheVariants.{Create, UndoPoint}
use Rattle.tw_model.specs.declared.SyncOp.{SyncOp}
use Rattle.tw_model.specs.Places.{Places}
use Rattle.tw_numbers.specs.Numbering.{assigned, is_open, is_placed}
use Rattle.tw_state.specs.Indexed.{MakesOne}
use Rattle.tw_numbers.specs.Assigned.{IsAssignedIn, IsAssignedExcept, is_among}
use Rattle.tw_state.specs.Touched.{is_touched, is_touched_by_synced}
use Rattle.tw_state.specs.State.{packed_if, misfit}
use Rattle.tw_state.proofs.OthersUnchanged.{not_first, not_second, all_applied_apart, all_taken_back_apart, all_synced_apart}
use Rattle.tw_numbers.proofs.PlacedAfter.{assigned_in, packed_if_in}

pub if_none : {P : Type 0} (o : Option ℕ) → IfNone o P → o ≡ None → P
if_none None p e = p
if_none (Some n) p e = absurd cc

pub applied_ready : (places : Places) (old new : TasksValue) (ops : List Op) (us : List (List ℕ)) → IsAssignedIn places old → new ≡ apply_all_local old ops → ((u : List ℕ) → is_among us u ≡ is_touched ops u) → IsAssignedExcept places new us
applied_ready places old new ops us is made touched = record { before = old; assigned = is; same = λ u out. ap (λ (t : TasksValue). get t u) made ∙ all_applied_apart old ops u (sym (touched u) ∙ out) }

pub taken_back_ready : (places : Places) (old new : TasksValue) (ops : List Op) (us : List (List ℕ)) → IsAssignedIn places old → new ≡ take_back_all old ops → ((u : List ℕ) → is_among us u ≡ is_touched ops u) → IsAssignedExcept places new us
taken_back_ready places old new ops us is made touched = record { before = old; assigned = is; same = λ u out. ap (λ (t : TasksValue). get t u) made ∙ all_taken_back_apart old ops u (sym (touched u) ∙ out) }

pub synced_ready : (places : Places) (old back new : TasksValue) (pending : List Op) (ops : List SyncOp) (us : List (List ℕ)) → IsAssignedIn places old → back ≡ take_back_all old pending → new ≡ apply_all back ops
    → ((u : List ℕ) → is_among us u ≡ (is_touched pending u || is_touched_by_synced ops u)) → IsAssignedExcept places new us
synced_ready places old back new pending ops us is taken made touched = record {
  before = old;
  assigned = is;
  same = λ u out.
      let none = sym (touched u) ∙ out in
      ap (λ (t : TasksValue). get t u) made ∙ all_synced_apart back ops u (not_second (is_touched pending u) (is_touched_by_synced ops u) none)
      ∙ ap (λ (t : TasksValue). get t u) taken ∙ all_taken_back_apart old pending u (not_first (is_touched pending u) (is_touched_by_synced ops u) none);
}

pub carried_ready : (places : Places) (old new : TasksValue) (ops : List SyncOp) (us : List (List ℕ)) → IsAssignedIn places old → new ≡ apply_all old ops → ((u : List ℕ) → is_among us u ≡ is_touched_by_synced ops u) → IsAssignedExcept places new us
carried_ready places old new ops us is made touched = record { before = old; assigned = is; same = λ u out. ap (λ (t : TasksValue). get t u) made ∙ all_synced_apart old ops u (sym (touched u) ∙ out) }

-- the places after a step have the tasks assigned
pub assigned_then : (renumber : Bool) (places looked new : Places) (old tasks : TasksValue) → IsAssignedIn places old → looked ≡ assigned places tasks → new ≡ packed_if renumber looked → IsAssignedIn new tasks
assigned_then renumber places looked new old tasks is look pack =
    subst (λ (ps : Places). IsAssignedIn ps tasks) (sym (pack ∙ ap (packed_if renumber) look)) (packed_if_in renumber (assigned places tasks) tasks (assigned_in places tasks is.once))

-- operations that make one task change that alone
pub made_ready : (places : Places) (old new : TasksValue) (ops : List Op) (u : List ℕ) → IsAssignedIn places old → new ≡ apply_all_local old ops → MakesOne u ops → IsAssignedExcept places new (u ∷ [])
made_ready places old new ops u is made one = applied_ready places old new ops (u ∷ []) is made (λ v. alone (eq_by_cmp bytes_cmp v u) ∙ sym (texts_ties v u) ∙ sym (one.touched v))
  where
    alone : (b : Bool) → b || false ≡ b
    alone true = refl
    alone false = refl

-- and it had no place
pub made_free : (places : Places) (old : TasksValue) (ops : List Op) (u : List ℕ) → IsAssignedIn places old → misfit 0 old ops ≡ None → MakesOne u ops → is_placed places u ≡ false
made_free places old ops u is fit one = is.same u ∙ ap is_open (one.fresh old fit)

-- a task that is made, and operations about no other
pub makes_one : (u : List ℕ) (rest : List Op) → ((v : List ℕ) → is_touched rest v ≡ true → same_bytes v u ≡ true) → MakesOne u (UndoPoint ∷ Create u ∷ rest)
makes_one u rest about = record { touched = λ v. both (same_bytes v u) (is_touched rest v) (about v); fresh = λ tasks fit. none (get tasks u) _ fit; some = refl }
  where
    both : (s r : Bool) → (r ≡ true → s ≡ true) → s || r ≡ s
    both true r h = refl
    both false true h = absurd (no (h refl))
      where
        no : false ≡ true → ⊥
        no e = absurd cc
    both false false h = refl

    none : (o : Option TaskValue) (x : Option ℕ) → cond (is_none o) x (Some 1) ≡ None → o ≡ None
    none None x e = refl
    none (Some t) x e = absurd (no 1 e)
      where
        no : (n : ℕ) → Some n ≡ None → ⊥
        no n e = absurd cc

pub empty_assigned : (places : Places) (tasks : TasksValue) → places ≡ [] → tasks ≡ empty → IsAssignedIn places tasks
empty_assigned places tasks bare none =
    subst (λ (ps : Places). IsAssignedIn ps tasks) (sym bare) (record { same = λ u. sym (ap is_open (ap (λ (t : TasksValue). get t u) none ∙ get-empty bytes_cmp u)); once = tt })
