-- Which uuids have a place once tasks are assigned.
use Rattle.std.proofs.Common.{◌≡◌, ℕ, Bool, true, false, not, cond, ◌&&◌, ◌||◌, List, [], ◌∷◌, ◌++◌, map, Option, Some, None, is_some, refl, sym, ap, ◌∙◌}
use Rattle.std.specs.Ordering.{eq_by_cmp, match_ordering}
use Rattle.std.specs.declared.cmp.Ordering.TheVariants.{Less, Equal, Greater}
use Rattle.std.specs.BTreeSet.{insert_key}
use Rattle.std.specs.FinMap.{get, keys, contains_key-keys}
use Rattle.std.specs.Cmp.Lexicographic.{texts_ties}
use Rattle.tw_model.specs.Maps.{bytes_cmp, same_bytes}
use Rattle.tw_model.specs.Ops.{TaskValue, TasksValue}
use Rattle.tw_model.specs.Places.{Places, has_uuid}
use Rattle.tw_numbers.specs.Numbering.{Rank, rank, rank_cmp, is_open, is_placed, kept_place, is_unplaced, with_rank, with_ranks, place_of, assigned, packed}
use Rattle.tw_numbers.specs.Numbering.{packed_if}
use Rattle.tw_numbers.specs.Assigned.{IsOnce, IsAssignedIn, is_among}
use Rattle.tw_numbers.proofs.Ranks.{same_uuid, itself, rank_exact, ranks_once}

-- ---- which uuids have a place

pub placed-append : (xs ys : Places) (u : List ℕ) → is_placed (xs ++ ys) u ≡ is_placed xs u || is_placed ys u
placed-append [] ys u = refl
placed-append (x ∷ xs) ys u = ap (λ b. has_uuid u x || b) (placed-append xs ys u) ∙ by (has_uuid u x) (is_placed xs u) (is_placed ys u)
  where
    by : (a b c : Bool) → a || (b || c) ≡ (a || b) || c
    by true b c = refl
    by false b c = refl

kept_is : (tasks : TasksValue) (u v : List ℕ) → has_uuid u (kept_place tasks (Some v)) ≡ same_bytes u v && is_open (get tasks u)
kept_is tasks u v =
    elim (same_bytes u v) as (λ b. same_bytes u v ≡ b → has_uuid u (cond (is_open (get tasks v)) (Some v) None) ≡ b && is_open (get tasks u)) [
      | true ↦ λ t. opened (is_open (get tasks v)) t ∙ ap (λ w. is_open (get tasks w)) (sym (same_uuid u v t))
      | false ↦ λ t. other (is_open (get tasks v)) t
    ] refl
  where
    opened : (o : Bool) → same_bytes u v ≡ true → has_uuid u (cond o (Some v) None) ≡ o
    opened true t = t
    opened false t = refl

    other : (o : Bool) → same_bytes u v ≡ false → has_uuid u (cond o (Some v) None) ≡ false
    other true t = t
    other false t = refl

pub placed_kept : (tasks : TasksValue) (places : Places) (u : List ℕ) → is_placed (map (kept_place tasks) places) u ≡ is_placed places u && is_open (get tasks u)
placed_kept tasks [] u = refl
placed_kept tasks (None ∷ places) u = placed_kept tasks places u
placed_kept tasks (Some v ∷ places) u =
    (λ i. kept_is tasks u v i || placed_kept tasks places u i) ∙ by (same_bytes u v) (is_placed places u) (is_open (get tasks u))
  where
    by : (a b o : Bool) → (a && o) || (b && o) ≡ (a || b) && o
    by true true true = refl
    by true true false = refl
    by true false true = refl
    by true false false = refl
    by false b o = refl

placed_insert : (ranks : List Rank) (r : Rank) (u : List ℕ) → is_placed (map place_of (insert_key rank_cmp ranks r)) u ≡ same_bytes u r.2 || is_placed (map place_of ranks) u
placed_insert [] r u = refl
placed_insert (x ∷ xs) r u =
    elim (rank_cmp r x) as (λ o. rank_cmp r x ≡ o → is_placed (map place_of (match_ordering o (r ∷ x ∷ xs) (x ∷ xs) (x ∷ insert_key rank_cmp xs r))) u ≡ same_bytes u r.2 || (same_bytes u x.2 || is_placed (map place_of xs) u)) [
      | Less ↦ λ e. refl
      | Equal ↦ λ e. twice (same_bytes u x.2) (is_placed (map place_of xs) u) ∙ ap (λ (s : Rank). same_bytes u s.2 || (same_bytes u x.2 || is_placed (map place_of xs) u)) (sym (rank_exact r x e))
      | Greater ↦ λ e. ap (λ b. same_bytes u x.2 || b) (placed_insert xs r u) ∙ turned (same_bytes u x.2) (same_bytes u r.2) (is_placed (map place_of xs) u)
    ] refl
  where
    twice : (a b : Bool) → a || b ≡ a || (a || b)
    twice true b = refl
    twice false b = refl

    turned : (a b c : Bool) → a || (b || c) ≡ b || (a || c)
    turned true true c = refl
    turned true false c = refl
    turned false b c = refl

pub placed_ranks : (places : Places) (tasks : TasksValue) (ranks : List Rank) (us : List (List ℕ)) (u : List ℕ)
    → is_placed (map place_of (with_ranks places tasks ranks us)) u ≡ is_placed (map place_of ranks) u || (is_among us u && is_unplaced places tasks u)
placed_ranks places tasks ranks [] u = or_no (is_placed (map place_of ranks) u)
  where
    or_no : (b : Bool) → b ≡ b || false
    or_no true = refl
    or_no false = refl
placed_ranks places tasks ranks (v ∷ us) u =
    placed_ranks places tasks (with_rank places tasks ranks v) us u
    ∙ ap (λ b. b || (is_among us u && is_unplaced places tasks u)) (one (is_unplaced places tasks v) refl)
    ∙ by (eq_by_cmp bytes_cmp u v) (is_placed (map place_of ranks) u) (is_among us u) (is_unplaced places tasks u)
  where
    at_same : (p : Bool) → is_unplaced places tasks v ≡ p → p && same_bytes u v ≡ eq_by_cmp bytes_cmp u v && is_unplaced places tasks u
    at_same p e =
        elim (same_bytes u v) as (λ b. same_bytes u v ≡ b → p && b ≡ eq_by_cmp bytes_cmp u v && is_unplaced places tasks u) [
          | true ↦ λ t. and_yes p ∙ sym (ap (λ b. b && is_unplaced places tasks u) (sym (texts_ties u v) ∙ t) ∙ ap (is_unplaced places tasks) (same_uuid u v t) ∙ e)
          | false ↦ λ t. and_no p ∙ sym (ap (λ b. b && is_unplaced places tasks u) (sym (texts_ties u v) ∙ t))
        ] refl
      where
        and_yes : (b : Bool) → b && true ≡ b
        and_yes true = refl
        and_yes false = refl

        and_no : (b : Bool) → b && false ≡ false
        and_no true = refl
        and_no false = refl

    one : (p : Bool) → is_unplaced places tasks v ≡ p → is_placed (map place_of (cond p (insert_key rank_cmp ranks (rank tasks v)) ranks)) u ≡ (eq_by_cmp bytes_cmp u v && is_unplaced places tasks u) || is_placed (map place_of ranks) u
    one true e = placed_insert ranks (rank tasks v) u ∙ ap (λ b. b || is_placed (map place_of ranks) u) (at_same true e)
    one false e = ap (λ b. b || is_placed (map place_of ranks) u) (at_same false e)

    by : (e r k p : Bool) → ((e && p) || r) || (k && p) ≡ r || ((e || k) && p)
    by true true k true = refl
    by true true k false = refl
    by true false k true = refl
    by true false k false = cc_false k
      where
        cc_false : (b : Bool) → b && false ≡ false
        cc_false true = refl
        cc_false false = refl
    by false r k p = refl

-- ---- no uuid has two places

pub once-append : (xs ys : Places) → IsOnce xs → IsOnce ys → ((u : List ℕ) → is_placed xs u ≡ true → is_placed ys u ≡ false) → IsOnce (xs ++ ys)
once-append [] ys first second apart = second
once-append (None ∷ xs) ys first second apart = once-append xs ys first second apart
once-append (Some u ∷ xs) ys first second apart = (
  placed-append xs ys u ∙ ap (λ b. b || is_placed ys u) first.0 ∙ apart u (ap (λ b. b || is_placed xs u) (texts_ties u u ∙ itself u)),
  once-append xs ys first.1 second (λ v placed. apart v (or_right (same_bytes v u) (is_placed xs v) placed)),
)
  where
    or_right : (a b : Bool) → b ≡ true → a || b ≡ true
    or_right true b e = refl
    or_right false b e = e

once_kept : (tasks : TasksValue) (places : Places) → IsOnce places → IsOnce (map (kept_place tasks) places)
once_kept tasks [] once = tt
once_kept tasks (None ∷ places) once = once_kept tasks places once
once_kept tasks (Some u ∷ places) once = by (is_open (get tasks u)) (placed_kept tasks places u ∙ ap (λ b. b && is_open (get tasks u)) once.0) (once_kept tasks places once.1)
  where
    by : (o : Bool) → is_placed (map (kept_place tasks) places) u ≡ false → IsOnce (map (kept_place tasks) places) → IsOnce (cond o (Some u) None ∷ map (kept_place tasks) places)
    by true alone rest = (alone, rest)
    by false alone rest = rest

-- once tasks are assigned, the uuids that have a place are those of the open tasks, and each has one
pub assigned_in : (places : Places) (tasks : TasksValue) → IsOnce places → IsAssignedIn (assigned places tasks) tasks
assigned_in places tasks once = record {
  same = λ u. placed-append (map (kept_place tasks) places) (map place_of ranks) u
      ∙ (λ i. placed_kept tasks places u i || placed_ranks places tasks [] (keys tasks) u i)
      ∙ ap (λ b. (is_placed places u && is_open (get tasks u)) || (b && is_unplaced places tasks u)) (sym (contains_key-keys tasks u))
      ∙ by (get tasks u) (is_placed places u);
  once = once-append (map (kept_place tasks) places) (map place_of ranks) (once_kept tasks places once) (ranks_once places tasks (keys tasks)) apart;
}
  where
    ranks : List Rank
    ranks = with_ranks places tasks [] (keys tasks)

    by : (there : Option TaskValue) (p : Bool) → (p && is_open there) || (is_some there && (is_open there && not p)) ≡ is_open there
    by None true = refl
    by None false = refl
    by (Some task) p = split p (is_open (Some task))
      where
        split : (p o : Bool) → (p && o) || (o && not p) ≡ o
        split true true = refl
        split true false = refl
        split false true = refl
        split false false = refl

    apart : (u : List ℕ) → is_placed (map (kept_place tasks) places) u ≡ true → is_placed (map place_of ranks) u ≡ false
    apart u e = placed_ranks places tasks [] (keys tasks) u ∙ no (is_among (keys tasks) u) (is_placed places u) (is_open (get tasks u)) (sym (placed_kept tasks places u) ∙ e)
      where
        no : (k p o : Bool) → p && o ≡ true → k && (o && not p) ≡ false
        no k false o e = absurd cc
        no true true true e = refl
        no false true true e = refl
        no k true false e = absurd cc

-- ---- without the vacant places

placed_packed : (places : Places) (u : List ℕ) → is_placed (packed places) u ≡ is_placed places u
placed_packed [] u = refl
placed_packed (None ∷ places) u = placed_packed places u
placed_packed (Some v ∷ places) u = ap (λ b. same_bytes u v || b) (placed_packed places u)

pub once_packed : (places : Places) → IsOnce places → IsOnce (packed places)
once_packed [] once = tt
once_packed (None ∷ places) once = once_packed places once
once_packed (Some u ∷ places) once = (placed_packed places u ∙ once.0, once_packed places once.1)

pub packed_in : (places : Places) (tasks : TasksValue) → IsAssignedIn places tasks → IsAssignedIn (packed places) tasks
packed_in places tasks is = record { same = λ u. placed_packed places u ∙ is.same u; once = once_packed places is.once }

pub packed_if_in : (renumber : Bool) (places : Places) (tasks : TasksValue) → IsAssignedIn places tasks → IsAssignedIn (packed_if renumber places) tasks
packed_if_in true places tasks is = packed_in places tasks is
packed_if_in false places tasks is = is
