-- Whether places are assigned to tasks, as it is tested.
use Rattle.std.proofs.Common.{◌≡◌, Bool, true, false, not, cond, ◌&&◌, ◌||◌, List, ℕ, suc, [], ◌∷◌, ◌++◌, length, take, drop, get_or, ◌<◌, ◌+◌, Option, Some, None, is_some, refl, sym, ap, subst, ◌∙◌, append_assoc, T, arith}
use Rattle.std.proofs.lemmas.List.{append-nil}
use Rattle.std.specs.Ordering.{eq_by_cmp}
use Rattle.std.specs.Cmp.{both_ways}
use Rattle.std.specs.BTreeMap as tree
use Rattle.std.specs.List.{list_all}
use Rattle.std.specs.FinMap.{get, get-entries, entries, entries_sorted}
use Rattle.std.specs.FinMap.Entries.{find}
use Rattle.tw_model.specs.Maps.{bytes_cmp, same_bytes}
use Rattle.tw_model.specs.Ops.{TaskValue, TasksValue}
use Rattle.tw_model.proofs.Sorted.{find_found}
use Rattle.tw_model.specs.Places.{Places}
use Rattle.tw_numbers.specs.Numbering.{is_open, is_placed}
use Rattle.tw_numbers.specs.Assigned.{IsOnce, IsAssignedIn, IsIndex, fits_behind, all_fit, has_its_place, is_assigned}
use Rattle.tw_numbers.proofs.Basics.{both_hold}
use Rattle.tw_numbers.proofs.Ranks.{same_uuid, same_key, itself, equal_from}
use Rattle.tw_numbers.proofs.PlacedAfter.{placed-append, once-append}
use Rattle.tw_numbers.proofs.IndexedPlaces.{same_itself, once_front, indexed_is_placed, index_push}

not_true : (b : Bool) → not b ≡ true → b ≡ false
not_true true e = absurd cc
not_true false e = refl

pub both_true : (a b : Bool) → a ≡ true → b ≡ true → a && b ≡ true
both_true true b p q = q
both_true false b p q = absurd cc

never : (b : Bool) → b ≡ true → b ≡ false → ⊥
never true p q = absurd cc
never false p q = absurd cc

or_nil : (b : Bool) → b || false ≡ b
or_nil true = refl
or_nil false = refl

all_at : {X : Type 0} (test : X → Bool) (xs : List X) → ((i : ℕ) (d : X) → i < length xs → test (get_or xs i d) ≡ true) → list_all test xs ≡ true
all_at test [] at = refl
all_at test (x ∷ xs) at = both_true _ _ (at 0 x (omega arith)) (all_at test xs (λ i d lt. at (suc i) d (omega arith)))

-- ---- what is tested holds

module _ (tasks : TasksValue) where
  -- no uuid has two of these places, and each that has one has an open task
  record Fits (places : Places) : Type 0 where
    once : IsOnce places
    opened : (u : List ℕ) → is_placed places u ≡ true → is_open (get tasks u) ≡ true

  one_more : (before : Places) (place : Option (List ℕ)) → Fits before → fits_behind before tasks place ≡ true → Fits (before ++ place ∷ [])
  one_more before None is e = record {
    once = once-append before (None ∷ []) is.once tt (λ u p. refl);
    opened = λ u p. is.opened u (sym (placed-append before (None ∷ []) u ∙ or_nil (is_placed before u)) ∙ p);
  }
  one_more before (Some v) is e =
      let tests = both_hold (not (is_placed before v)) (is_open (get tasks v)) e in
      let free : is_placed before v ≡ false = not_true _ tests.0 in
      let last : IsOnce (Some v ∷ []) = (refl, tt) in
      record {
        once = once-append before (Some v ∷ []) is.once last (λ u p. apart u p free);
        opened = λ u p. by u (is_placed before u) refl (sym (placed-append before (Some v ∷ []) u) ∙ p) tests.1;
      }
    where
      apart : (u : List ℕ) → is_placed before u ≡ true → is_placed before v ≡ false → same_bytes u v || false ≡ false
      apart u p free = elim (same_bytes u v) as (λ b. same_bytes u v ≡ b → b || false ≡ false) [
        | true ↦ λ t. absurd (never (is_placed before u) p (ap (is_placed before) (same_uuid u v t) ∙ free))
        | false ↦ λ t. refl
      ] refl

      by : (u : List ℕ) (b : Bool) → is_placed before u ≡ b → b || (same_bytes u v || false) ≡ true → is_open (get tasks v) ≡ true → is_open (get tasks u) ≡ true
      by u true p q opens = is.opened u p
      by u false p q opens = ap (λ w. is_open (get tasks w)) (same_uuid u v (sym (or_nil (same_bytes u v)) ∙ q)) ∙ opens

  all_more : (before places : Places) → Fits before → all_fit before tasks places ≡ true → Fits (before ++ places)
  all_more before [] is e = subst Fits (sym (append-nil before)) is
  all_more before (place ∷ places) is e =
      let tests = both_hold (fits_behind before tasks place) (all_fit (before ++ place ∷ []) tasks places) e in
      subst Fits (append_assoc before (place ∷ []) places) (all_more (before ++ place ∷ []) places (one_more before place is tests.0) tests.1)

  none_fit : Fits []
  none_fit = record { once = tt; opened = λ u p. absurd (none p) }
    where
      none : false ≡ true → ⊥
      none p = absurd cc

  open_placed : (places : Places) (es : List (List ℕ × TaskValue)) (u : List ℕ) → list_all (has_its_place places) es ≡ true → is_open (find bytes_cmp u es) ≡ true → is_placed places u ≡ true
  open_placed places [] u e opens = absurd cc
  open_placed places (x ∷ es) u e opens =
      let tests = both_hold (has_its_place places x) (list_all (has_its_place places) es) e in
      by (eq_by_cmp bytes_cmp u x.0) refl opens (open_placed places es u tests.1) tests.0
    where
      placed : (o p : Bool) → not o || p ≡ true → o ≡ true → p ≡ true
      placed true p t f = t
      placed false p t f = absurd cc

      by : (b : Bool) → eq_by_cmp bytes_cmp u x.0 ≡ b → is_open (cond b (Some x.1) (find bytes_cmp u es)) ≡ true → (is_open (find bytes_cmp u es) ≡ true → is_placed places u ≡ true) → has_its_place places x ≡ true → is_placed places u ≡ true
      by true t f rest here = ap (is_placed places) (same_key u x.0 t) ∙ placed (is_open (Some x.1)) (is_placed places x.0) here f
      by false t f rest here = rest f

  pub assigned_if : (places : Places) → is_assigned places tasks ≡ true → IsAssignedIn places tasks
  assigned_if places e =
      let tests = both_hold (all_fit [] tasks places) (list_all (has_its_place places) (entries tasks)) e in
      let fits : Fits places = all_more [] places none_fit tests.0 in
      record { same = λ u. both_ways _ _ (fits.opened u) (λ e. open_placed places (entries tasks) u tests.1 (ap is_open (sym (get-entries tasks u)) ∙ e)); once = fits.once }

  -- ---- what holds is tested

  fits_there : (before places : Places) (place : Option (List ℕ)) → IsOnce (before ++ place ∷ places) → ((u : List ℕ) → is_placed (before ++ place ∷ places) u ≡ true → is_open (get tasks u) ≡ true) → fits_behind before tasks place ≡ true
  fits_there before places None once opened = refl
  fits_there before places (Some u) once opened =
      both_true _ _ (ap not (once_front before places u once)) (opened u (placed-append before (Some u ∷ places) u ∙ there (is_placed before u) (same_bytes u u) (is_placed places u) (same_itself u)))
    where
      there : (a b c : Bool) → b ≡ true → a || (b || c) ≡ true
      there true b c p = refl
      there false true c p = refl
      there false false c p = absurd cc

  all_there : (before places : Places) → IsOnce (before ++ places) → ((u : List ℕ) → is_placed (before ++ places) u ≡ true → is_open (get tasks u) ≡ true) → all_fit before tasks places ≡ true
  all_there before [] once opened = refl
  all_there before (place ∷ places) once opened =
      let regroup : before ++ place ∷ places ≡ (before ++ place ∷ []) ++ places = sym (append_assoc before (place ∷ []) places) in
      both_true _ _ (fits_there before places place once opened)
      (all_there (before ++ place ∷ []) places (subst IsOnce regroup once) (λ u p. opened u (ap (λ (l : Places). is_placed l u) regroup ∙ p)))

  each_has : (places : Places) (x : List ℕ × TaskValue) → get tasks x.0 ≡ Some x.1 → ((u : List ℕ) → is_open (get tasks u) ≡ true → is_placed places u ≡ true) → has_its_place places x ≡ true
  each_has places x here placed = by (is_open (Some x.1)) refl
    where
      by : (o : Bool) → is_open (Some x.1) ≡ o → not o || is_placed places x.0 ≡ true
      by true f = placed x.0 (ap is_open here ∙ f)
      by false f = refl

  pub assigned_is : (places : Places) → IsAssignedIn places tasks → is_assigned places tasks ≡ true
  assigned_is places is =
      both_true _ _ (all_there [] places is.once (λ u p. sym (is.same u) ∙ p))
      (all_at (has_its_place places) (entries tasks) (λ i d lt. each_has places (get_or (entries tasks) i d) (get-entries tasks (get_or (entries tasks) i d).0 ∙ find_found (get_or (entries tasks) i d).0 (entries tasks) i d (entries_sorted tasks) lt (equal_from _ (itself (get_or (entries tasks) i d).0))) (λ u o. is.same u ∙ o)))
