-- The uuids that have a place are those of the open tasks: as it is tested with both in byte order.
use lib.Pointwise.{pointwise, pointwise_decides}
use Rattle.std.proofs.Common.{◌≡◌, ℕ, zero, suc, ◌+◌, ◌<◌, ◌≤◌, Bool, true, false, cond, ◌&&◌, ◌||◌, T, List, [], ◌∷◌, length, get_or, drop, Option, Some, None, refl, sym, ap, subst, ◌∙◌, ⊎_elim, arith}
use Rattle.std.specs.Prelude.{nat_eq, ◌≢◌}
use Rattle.std.specs.List.{AllByRecursion, IsDistinct, list_any}
use Rattle.std.specs.List.Sorted.{IsPermutation, IsSorted, IsStrictlySortedBy}
use Rattle.std.specs.Ordering.{eq_by_cmp, is_eq, is_lt, ordering_reverse}
use Rattle.std.specs.declared.cmp.Ordering.{Ordering}
use Rattle.std.specs.declared.cmp.Ordering.TheVariants.{Less, Equal, Greater}
use Rattle.std.specs.Cmp.{both_ways}
use Rattle.std.specs.Cmp.Lexicographic.{nat_list_cmp_total, texts_ties}
use Rattle.std.specs.FinMap.{get, get-entries, entries, entries_sorted}
use Rattle.std.specs.FinMap.Entries.{find, below_all, is_sorted}
use Rattle.std.specs.BTreeSet as set
use Rattle.std.proofs.lemmas.List.Sorted.{IsPermutation-sym, list_any-IsPermutation}
use Rattle.std.proofs.lemmas.Map.Keys.{IsDistinct-from_sorted, IsDistinct-head, IsDistinct-tail, IsDistinct-cons, IsDistinct-IsPermutation, apart_from_distinct, sorted_from_all_adjacent}
use Rattle.std.proofs.lemmas.Map.Lookups.{btree_set_from_contains, exact_bytes}
use Rattle.std.proofs.lemmas.Bool.Decides.{eqb_tells}
use Rattle.std.proofs.lemmas.List.{drop_all, drop_more}
use Rattle.tw_model.specs.Maps.{bytes_cmp, same_bytes}
use Rattle.tw_model.specs.Ops.{TaskValue, TasksValue}
use Rattle.tw_model.specs.Places.{Places}
use Rattle.tw_model.proofs.Sorted.{first, second, less}
use Rattle.tw_numbers.specs.Numbering.{is_open, is_placed}
use Rattle.tw_numbers.specs.Assigned.{IsOnce, IsAssignedIn, is_among, is_assigned}
use Rattle.tw_numbers.specs.Placed.{placed_uuids, open_uuids, begins_with}
use Rattle.tw_numbers.proofs.Ranks.{same_uuid, same_key}
use Rattle.tw_numbers.proofs.IndexedPlaces.{same_itself}
use Rattle.tw_numbers.proofs.TestedAssigned.{assigned_if, assigned_is}

abbrev Uuids : Type 0
Uuids = List (List ℕ)

abbrev Entries : Type 0
Entries = List (List ℕ × TaskValue)

abbrev same_key_as : List ℕ → List ℕ → Bool
same_key_as = eq_by_cmp bytes_cmp

-- ---- lists of uuids that are the same

decides : (u v : List ℕ) → (same_bytes u v ≡ true → u ≡ v) × (u ≡ v → same_bytes u v ≡ true)
decides u v = (same_uuid u v, λ e. subst (λ w. same_bytes u w ≡ true) e (same_itself u))

same_lists : (us vs : Uuids) → pointwise same_bytes us vs ≡ true → us ≡ vs
same_lists us vs = (pointwise_decides decides us vs).0

lists_same : (us : Uuids) → pointwise same_bytes us us ≡ true
lists_same us = (pointwise_decides decides us us).1 refl

-- ---- the uuids that have a place

neither : (a b : Bool) → a || b ≡ false → (a ≡ false) × (b ≡ false)
neither true b e = absurd cc
neither false b e = (refl, e)

none_among : (u : List ℕ) (us : Uuids) → AllByRecursion (λ v. same_key_as u v ≡ false) us → is_among us u ≡ false
none_among u [] all = refl
none_among u (v ∷ us) all = ap (λ b. b || is_among us u) all.0 ∙ none_among u us all.1

all_apart : (u : List ℕ) (us : Uuids) → is_among us u ≡ false → AllByRecursion (λ v. same_key_as u v ≡ false) us
all_apart u [] e = tt
all_apart u (v ∷ us) e = let b = neither (same_key_as u v) (is_among us u) e in (b.0, all_apart u us b.1)

placed_among : (places : Places) (u : List ℕ) → is_placed places u ≡ is_among (placed_uuids places) u
placed_among [] u = refl
placed_among (None ∷ places) u = placed_among places u
placed_among (Some v ∷ places) u = ap (λ b. b || is_placed places u) (texts_ties u v) ∙ ap (λ b. same_key_as u v || b) (placed_among places u)

once_if : (places : Places) → IsDistinct same_key_as (placed_uuids places) → IsOnce places
once_if [] apart = tt
once_if (None ∷ places) apart = once_if places apart
once_if (Some u ∷ places) apart = (placed_among places u ∙ none_among u (placed_uuids places) (IsDistinct-head same_key_as u (placed_uuids places) apart), once_if places (IsDistinct-tail same_key_as u (placed_uuids places) apart))

once_is : (places : Places) → IsOnce places → IsDistinct same_key_as (placed_uuids places)
unfolding IsDistinct
once_is [] once = tt
once_is (None ∷ places) once = once_is places once
once_is (Some u ∷ places) once = (all_apart u (placed_uuids places) (sym (placed_among places u) ∙ once.0), once_is places once.1)

-- ---- the uuids of open tasks

all_below : (k : List ℕ) (es : Entries) → T (below_all bytes_cmp k es) → AllByRecursion (λ v. bytes_cmp k v ≡ Less) (open_uuids es)
all_below k [] h = tt
all_below k (e ∷ es) h = by (is_open (Some e.1)) (all_below k es (second _ _ h))
  where
    by : (b : Bool) → AllByRecursion (λ v. bytes_cmp k v ≡ Less) (open_uuids es) → AllByRecursion (λ v. bytes_cmp k v ≡ Less) (cond b (e.0 ∷ open_uuids es) (open_uuids es))
    by true rest = (less _ (first _ _ h), rest)
    by false rest = rest

open_rise : (es : Entries) → T (is_sorted bytes_cmp es) → IsStrictlySortedBy bytes_cmp (open_uuids es)
unfolding IsStrictlySortedBy
open_rise [] h = tt
open_rise (e ∷ es) h = by (is_open (Some e.1)) (open_rise es (second _ _ h))
  where
    by : (b : Bool) → IsStrictlySortedBy bytes_cmp (open_uuids es) → IsStrictlySortedBy bytes_cmp (cond b (e.0 ∷ open_uuids es) (open_uuids es))
    by true rest = (all_below e.0 es (first _ _ h), rest)
    by false rest = rest

none_open : (k : List ℕ) (es : Entries) → T (below_all bytes_cmp k es) → is_among (open_uuids es) k ≡ false
none_open k [] h = refl
none_open k (e ∷ es) h = by (is_open (Some e.1)) (none_open k es (second _ _ h))
  where
    by : (b : Bool) → is_among (open_uuids es) k ≡ false → is_among (cond b (e.0 ∷ open_uuids es) (open_uuids es)) k ≡ false
    by true rest = ap (λ (o : Ordering). is_eq o || is_among (open_uuids es) k) (less _ (first _ _ h)) ∙ rest
    by false rest = rest

open_among : (es : Entries) (u : List ℕ) → T (is_sorted bytes_cmp es) → is_among (open_uuids es) u ≡ is_open (find bytes_cmp u es)
open_among [] u h = refl
open_among (e ∷ es) u h = by (same_key_as u e.0) refl (open_among es u (second _ _ h))
  where
    here : same_key_as u e.0 ≡ true → (o : Bool) → is_among (cond o (e.0 ∷ open_uuids es) (open_uuids es)) u ≡ o
    here t true = ap (λ b. b || is_among (open_uuids es) u) t
    here t false = subst (λ (v : List ℕ). is_among (open_uuids es) v ≡ false) (sym (same_key u e.0 t)) (none_open e.0 es (first _ _ h))

    there : same_key_as u e.0 ≡ false → (o : Bool) → is_among (cond o (e.0 ∷ open_uuids es) (open_uuids es)) u ≡ is_among (open_uuids es) u
    there f true = ap (λ b. b || is_among (open_uuids es) u) f
    there f false = refl

    by : (b : Bool) → same_key_as u e.0 ≡ b → is_among (open_uuids es) u ≡ is_open (find bytes_cmp u es) → is_among (open_uuids (e ∷ es)) u ≡ is_open (cond b (Some e.1) (find bytes_cmp u es))
    by true t rest = here t (is_open (Some e.1))
    by false f rest = there f (is_open (Some e.1)) ∙ rest

-- ---- in byte order

rise_from : (r s : Ordering) → r ≡ ordering_reverse s → is_eq r ≡ false → is_lt s ≡ false → r ≡ Less
rise_from r Less turned e l = absurd cc
rise_from r Equal turned e l = absurd (no_tie r turned e)
  where
    no_tie : (r : Ordering) → r ≡ Equal → is_eq r ≡ false → ⊥
    no_tie r t f = absurd cc
rise_from r Greater turned e l = turned

rise : (us : Uuids) → IsSorted bytes_cmp us → IsDistinct same_key_as us → IsStrictlySortedBy bytes_cmp us
rise us sorted apart =
    sorted_from_all_adjacent nat_list_cmp_total us [] (λ k lt.
    rise_from (bytes_cmp (get_or us k []) (get_or us (k + 1) [])) (bytes_cmp (get_or us (k + 1) []) (get_or us k []))
    (nat_list_cmp_total.antisymm (get_or us k []) (get_or us (k + 1) [])) (apart_from_distinct same_key_as us k (k + 1) [] apart (omega arith) lt) (sorted k [] (omega arith) lt))

same_rising : (us vs : Uuids) → IsStrictlySortedBy bytes_cmp us → IsStrictlySortedBy bytes_cmp vs → ((u : List ℕ) → is_among us u ≡ is_among vs u) → us ≡ vs
same_rising us vs a b same = btree_set_from_contains nat_list_cmp_total (record { keys = us }) (record { keys = vs }) a b same exact_bytes

flips : (u v : List ℕ) → same_key_as u v ≡ same_key_as v u
flips u v = ap is_eq (nat_list_cmp_total.antisymm u v) ∙ by (bytes_cmp v u)
  where
    by : (o : Ordering) → is_eq (ordering_reverse o) ≡ is_eq o
    by Less = refl
    by Equal = refl
    by Greater = refl

-- sorted, the uuids that have a place are those of the open tasks exactly where the places are assigned to the tasks
pub sorted_tells : (places : Places) (tasks : TasksValue) (us : Uuids) → IsPermutation (placed_uuids places) us → IsSorted bytes_cmp us → pointwise same_bytes us (open_uuids (entries tasks)) ≡ is_assigned places tasks
sorted_tells places tasks us moved sorted = both_ways _ _ there back
  where
    opens : Uuids
    opens = open_uuids (entries tasks)

    among : (u : List ℕ) → is_placed places u ≡ is_among us u
    among u = placed_among places u ∙ list_any-IsPermutation (same_key_as u) (placed_uuids places) us moved

    opened : (u : List ℕ) → is_among (open_uuids (entries tasks)) u ≡ is_open (get tasks u)
    opened u = open_among (entries tasks) u (entries_sorted tasks) ∙ ap is_open (sym (get-entries tasks u))

    there : pointwise same_bytes us (open_uuids (entries tasks)) ≡ true → is_assigned places tasks ≡ true
    there e =
        let is : us ≡ open_uuids (entries tasks) = same_lists us (open_uuids (entries tasks)) e in
        let apart : IsDistinct same_key_as us = subst (IsDistinct same_key_as) (sym is) (IsDistinct-from_sorted bytes_cmp (open_uuids (entries tasks)) (open_rise (entries tasks) (entries_sorted tasks))) in
        assigned_is tasks places (record {
          same = λ u. among u ∙ ap (λ (l : Uuids). is_among l u) is ∙ opened u;
          once = once_if places (IsDistinct-IsPermutation same_key_as flips us (placed_uuids places) (IsPermutation-sym (placed_uuids places) us moved) apart);
        })

    back : is_assigned places tasks ≡ true → pointwise same_bytes us (open_uuids (entries tasks)) ≡ true
    back e =
        let a : IsAssignedIn places tasks = assigned_if tasks places e in
        let apart : IsDistinct same_key_as us = IsDistinct-IsPermutation same_key_as flips (placed_uuids places) us moved (once_is places a.once) in
        let is : us ≡ open_uuids (entries tasks) = same_rising us (open_uuids (entries tasks)) (rise us sorted apart) (open_rise (entries tasks) (entries_sorted tasks)) (λ u. sym (among u) ∙ a.same u ∙ sym (opened u)) in
        subst (λ (l : Uuids). pointwise same_bytes us l ≡ true) is (lists_same us)

-- ---- one task after the other

pub passed_over : (us : Uuids) (e : List ℕ × TaskValue) (es : Entries) → is_open (Some e.1) ≡ false → pointwise same_bytes us (open_uuids (e ∷ es)) ≡ pointwise same_bytes us (open_uuids es)
passed_over us e es closed = ap (λ b. pointwise same_bytes us (cond b (e.0 ∷ open_uuids es) (open_uuids es))) closed

next_is : (front : Uuids) (e : List ℕ × TaskValue) (es : Entries) → is_open (Some e.1) ≡ true → pointwise same_bytes front (open_uuids (e ∷ es)) ≡ pointwise same_bytes front (e.0 ∷ open_uuids es)
next_is front e es opens = ap (λ b. pointwise same_bytes front (cond b (e.0 ∷ open_uuids es) (open_uuids es))) opens

no_other : (front : Uuids) (u : List ℕ) (vs : Uuids) → begins_with u front ≡ false → pointwise same_bytes front (u ∷ vs) ≡ false
no_other [] u vs e = refl
no_other (v ∷ front) u vs e = ap (λ b. b && pointwise same_bytes front vs) e

pub differs : (front : Uuids) (e : List ℕ × TaskValue) (es : Entries) → is_open (Some e.1) ≡ true → begins_with e.0 front ≡ false → pointwise same_bytes front (open_uuids (e ∷ es)) ≡ false
differs front e es opens other = next_is front e es opens ∙ no_other front e.0 (open_uuids es) other

one_less : (us : Uuids) (at : ℕ) (u : List ℕ) (vs : Uuids) → begins_with u (drop at us) ≡ true → pointwise same_bytes (drop at us) (u ∷ vs) ≡ pointwise same_bytes (drop (at + 1) us) vs
one_less [] zero u vs e = absurd cc
one_less [] (suc at) u vs e = absurd cc
one_less (v ∷ us) zero u vs e = ap (λ b. b && pointwise same_bytes us vs) e
one_less (v ∷ us) (suc at) u vs e = one_less us at u vs e ∙ ap (λ k. pointwise same_bytes (drop k (v ∷ us)) vs) {x = suc (at + 1)} {y = suc at + 1} (omega arith)

pub matches : (us : Uuids) (at : ℕ) (e : List ℕ × TaskValue) (es : Entries) → is_open (Some e.1) ≡ true → begins_with e.0 (drop at us) ≡ true → pointwise same_bytes (drop at us) (open_uuids (e ∷ es)) ≡ pointwise same_bytes (drop (at + 1) us) (open_uuids es)
matches us at e es opens same = next_is (drop at us) e es opens ∙ one_less us at e.0 (open_uuids es) same

pub is_inside : (us : Uuids) (at : ℕ) (u : List ℕ) → begins_with u (drop at us) ≡ true → at < length us
is_inside [] zero u e = absurd cc
is_inside [] (suc at) u e = absurd cc
is_inside (v ∷ us) zero u e = omega arith
is_inside (v ∷ us) (suc at) u e = let lt = is_inside us at u e in omega (arith, lt)

pub all_told : (us : Uuids) (at : ℕ) → at ≤ length us → pointwise same_bytes (drop at us) [] ≡ nat_eq at (length us)
all_told us at le = ⊎_elim ended more (eqb_tells at (length us))
  where
    ended : (nat_eq at (length us) ≡ true) × (at ≡ length us) → pointwise same_bytes (drop at us) [] ≡ nat_eq at (length us)
    ended is = ap (λ (l : Uuids). pointwise same_bytes l []) (drop_all at us (omega (arith, is.1))) ∙ sym is.0

    more : (nat_eq at (length us) ≡ false) × (at ≢ length us) → pointwise same_bytes (drop at us) [] ≡ nat_eq at (length us)
    more is = ap (λ (l : Uuids). pointwise same_bytes l []) (drop_more us at [] (omega (arith, le, is.1))) ∙ sym is.0
