-- The ranks of the tasks that have no place: which they are, and that their order does not depend on how they were found.
use Rattle.std.proofs.Common.{◌≡◌, ℕ, Bool, true, false, cond, ◌&&◌, ◌||◌, T, List, [], ◌∷◌, map, Option, Some, None, refl, sym, ap, subst, ◌∙◌}
use Rattle.std.specs.List.{list_any, AllByRecursion}
use Rattle.std.specs.Cmp.{IsTotalOrder, nat_cmp_total, then_total, on_total, both_ways, tied_itself}
use Rattle.std.specs.Cmp.Lexicographic.{nat_list_cmp_total, texts_ties}
use Rattle.std.specs.Ordering.{eq_by_cmp, is_eq, is_lt, nat_cmp, ordering_then, match_ordering}
use Rattle.std.specs.declared.cmp.Ordering.{Ordering}
use Rattle.std.specs.declared.cmp.Ordering.TheVariants.{Less, Equal, Greater}
use Rattle.std.specs.FinMap.Entries.{by_order, put, find, is_sorted, below_all, is_sorted-put, find-put, same_entries}
use Rattle.std.specs.BTreeSet.{insert_key}
use Rattle.std.proofs.lemmas.Map.Lookups.{exact_bytes, exact_unsigned}
use Rattle.tw_model.specs.Maps.{bytes_cmp, same_bytes}
use Rattle.tw_model.specs.Ops.{TasksValue}
use Rattle.tw_model.specs.Places.{Places}
use Rattle.tw_numbers.specs.Numbering.{Rank, rank, rank_cmp, is_unplaced, with_rank, with_ranks, place_of, is_placed}
use Rattle.tw_numbers.specs.Assigned.{IsOnce, is_among}

-- ---- tests

pub equal_from : (r : Ordering) → is_eq r ≡ true → r ≡ Equal
equal_from Less e = absurd cc
equal_from Equal e = refl
equal_from Greater e = absurd cc

-- uuids that are the same bytes are equal
pub same_uuid : (u v : List ℕ) → same_bytes u v ≡ true → u ≡ v
same_uuid u v e = exact_bytes u v (equal_from (bytes_cmp u v) (sym (texts_ties u v) ∙ e))

pub same_key : (u v : List ℕ) → eq_by_cmp bytes_cmp u v ≡ true → u ≡ v
same_key u v e = exact_bytes u v (equal_from (bytes_cmp u v) e)

-- ---- the order of ranks

pub rank_total : IsTotalOrder rank_cmp
rank_total = then_total (then_total (on_total (λ (r : Rank). r.0) nat_cmp_total) (on_total (λ (r : Rank). r.1) nat_cmp_total)) (on_total (λ (r : Rank). r.2) nat_list_cmp_total)

then_equal : (a b : Ordering) → ordering_then a b ≡ Equal → (a ≡ Equal) × (b ≡ Equal)
then_equal Less b e = absurd cc
then_equal Equal b e = (refl, e)
then_equal Greater b e = absurd cc

pub rank_exact : (a b : Rank) → rank_cmp a b ≡ Equal → a ≡ b
rank_exact a b e =
    let outer = then_equal (ordering_then (nat_cmp a.0 b.0) (nat_cmp a.1 b.1)) (bytes_cmp a.2 b.2) e in
    let inner = then_equal (nat_cmp a.0 b.0) (nat_cmp a.1 b.1) outer.0 in
    λ i. (exact_unsigned a.0 b.0 inner.0 i, exact_unsigned a.1 b.1 inner.1 i, exact_bytes a.2 b.2 outer.1 i)

-- ---- ranks as a map with nothing at each key

abbrev pub paired : List Rank → List (Rank × Unit {0})
paired ranks = map (λ r. (r, tt)) ranks

paired-insert_key : (ranks : List Rank) (r : Rank) → paired (insert_key rank_cmp ranks r) ≡ put rank_cmp r tt (paired ranks)
paired-insert_key [] r = refl
paired-insert_key (x ∷ xs) r = by (rank_cmp r x) (paired-insert_key xs r)
  where
    by : (o : Ordering) → paired (insert_key rank_cmp xs r) ≡ put rank_cmp r tt (paired xs) → paired (match_ordering o (r ∷ x ∷ xs) (x ∷ xs) (x ∷ insert_key rank_cmp xs r)) ≡ by_order o ((r, tt) ∷ paired (x ∷ xs)) ((x, tt) ∷ paired xs) ((x, tt) ∷ put rank_cmp r tt (paired xs))
    by Less e = refl
    by Equal e = refl
    by Greater e = ap (λ (es : List (Rank × Unit {0})). (x, tt) ∷ es) e

all_insert_key : (P : Rank → Type 0) (ranks : List Rank) (r : Rank) → AllByRecursion P ranks → P r → AllByRecursion P (insert_key rank_cmp ranks r)
all_insert_key P [] r all p = (p, tt)
all_insert_key P (x ∷ xs) r all p = by (rank_cmp r x) (all_insert_key P xs r all.1 p)
  where
    by : (o : Ordering) → AllByRecursion P (insert_key rank_cmp xs r) → AllByRecursion P (match_ordering o (r ∷ x ∷ xs) (x ∷ xs) (x ∷ insert_key rank_cmp xs r))
    by Less rest = (p, all)
    by Equal rest = all
    by Greater rest = (all.0, rest)

-- ---- helpers over tests

first_of : (a b : Bool) → a && b ≡ true → a ≡ true
first_of true b e = refl
first_of false b e = e

T_first : (a b : Bool) → T (a && b) → T a
T_first true b h = tt
T_first false b h = h

T_second : (a b : Bool) → T (a && b) → T b
T_second true b h = h
T_second false b h = absurd h

or_left : (a b : Bool) → a ≡ true → a || b ≡ true
or_left a b e = ap (λ x. x || b) e

or_right : (a b : Bool) → b ≡ true → a || b ≡ true
or_right true b e = refl
or_right false b e = e

or_first : (a b : Bool) → a ≡ false → a || b ≡ true → b ≡ true
or_first true b n e = absurd cc
or_first false b n e = e

pub itself : (u : List ℕ) → eq_by_cmp bytes_cmp u u ≡ true
itself u = ap is_eq (tied_itself nat_list_cmp_total u)

-- an element that passes a test is among the elements of a list
any_of : (p : List ℕ → Bool) (u : List ℕ) (vs : List (List ℕ)) → p u ≡ true → is_among vs u ≡ true → list_any p vs ≡ true
any_of p u [] pu e = absurd cc
any_of p u (v ∷ vs) pu e =
    elim (eq_by_cmp bytes_cmp u v) as (λ b. eq_by_cmp bytes_cmp u v ≡ b → list_any p (v ∷ vs) ≡ true) [
      | true ↦ λ t. or_left (p v) (list_any p vs) (ap p (sym (same_key u v t)) ∙ pu)
      | false ↦ λ t. or_right (p v) (list_any p vs) (any_of p u vs pu (or_first _ _ t e))
    ] refl

any_among : (p : List ℕ → Bool) (us vs : List (List ℕ)) → ((u : List ℕ) → p u ≡ true → is_among us u ≡ true → is_among vs u ≡ true) → list_any p us ≡ true → list_any p vs ≡ true
any_among p [] vs there e = absurd cc
any_among p (u ∷ us) vs there e =
    elim (p u) as (λ b. p u ≡ b → list_any p vs ≡ true) [
      | true ↦ λ t. any_of p u vs t (there u t (or_left _ _ (itself u)))
      | false ↦ λ t. any_among p us vs (λ w pw among. there w pw (or_right (eq_by_cmp bytes_cmp w u) (is_among us w) among)) (or_first _ _ t e)
    ] refl

unpaired : (xs ys : List Rank) → paired xs ≡ paired ys → xs ≡ ys
unpaired xs ys e = back xs ∙ ap (map (λ (p : Rank × Unit {0}). p.0)) e ∙ sym (back ys)
  where
    back : (zs : List Rank) → zs ≡ map (λ (p : Rank × Unit {0}). p.0) (paired zs)
    back [] = refl
    back (z ∷ zs) = ap (λ (l : List Rank). z ∷ l) (back zs)

-- a rank below others is of another task
alone : (tasks : TasksValue) (r : Rank) (rs : List Rank) → r ≡ rank tasks r.2 → T (below_all rank_cmp r (paired rs)) → AllByRecursion (λ s. s ≡ rank tasks s.2) rs → is_placed (map place_of rs) r.2 ≡ false
alone tasks r [] own h others = refl
alone tasks r (s ∷ rs) own h others =
    elim (same_bytes r.2 s.2) as (λ b. same_bytes r.2 s.2 ≡ b → same_bytes r.2 s.2 || is_placed (map place_of rs) r.2 ≡ false) [
      | true ↦ λ t.
          let same : r ≡ s = own ∙ ap (rank tasks) (same_uuid r.2 s.2 t) ∙ sym others.0 in
          let tied : rank_cmp r s ≡ Equal = ap (rank_cmp r) (sym same) ∙ tied_itself rank_total r in
          absurd (subst (λ o. T (is_lt o)) tied (T_first _ _ h))
      | false ↦ λ t. ap (λ b. b || is_placed (map place_of rs) r.2) t ∙ alone tasks r rs own (T_second _ _ h) others.1
    ] refl

module _ (places : Places) (tasks : TasksValue) where
  ranks_sorted : (ranks : List Rank) (us : List (List ℕ)) → T (is_sorted rank_cmp (paired ranks)) → T (is_sorted rank_cmp (paired (with_ranks places tasks ranks us)))
  ranks_sorted ranks [] h = h
  ranks_sorted ranks (u ∷ us) h = ranks_sorted (with_rank places tasks ranks u) us (by (is_unplaced places tasks u))
    where
      by : (b : Bool) → T (is_sorted rank_cmp (paired (cond b (insert_key rank_cmp ranks (rank tasks u)) ranks)))
      by true = subst (λ es. T (is_sorted rank_cmp es)) (sym (paired-insert_key ranks (rank tasks u))) (is_sorted-put rank_cmp rank_total (rank tasks u) tt (paired ranks) h)
      by false = h

  -- each rank is that of its task
  ranks_own : (ranks : List Rank) (us : List (List ℕ)) → AllByRecursion (λ r. r ≡ rank tasks r.2) ranks → AllByRecursion (λ r. r ≡ rank tasks r.2) (with_ranks places tasks ranks us)
  ranks_own ranks [] all = all
  ranks_own ranks (u ∷ us) all = ranks_own (with_rank places tasks ranks u) us (by (is_unplaced places tasks u))
    where
      by : (b : Bool) → AllByRecursion (λ r. r ≡ rank tasks r.2) (cond b (insert_key rank_cmp ranks (rank tasks u)) ranks)
      by true = all_insert_key (λ r. r ≡ rank tasks r.2) ranks (rank tasks u) all refl
      by false = all

  -- a uuid has no place yet, and its rank is this one
  abbrev pub has_rank : Rank → List ℕ → Bool
  has_rank q u = is_unplaced places tasks u && eq_by_cmp rank_cmp q (rank tasks u)

  ranks_find : (q : Rank) (ranks : List Rank) (us : List (List ℕ)) → find rank_cmp q (paired (with_ranks places tasks ranks us)) ≡ cond (list_any (has_rank q) us) (Some tt) (find rank_cmp q (paired ranks))
  ranks_find q ranks [] = refl
  ranks_find q ranks (u ∷ us) =
      ranks_find q (with_rank places tasks ranks u) us ∙ ap (cond (list_any (has_rank q) us) (Some tt)) (one (is_unplaced places tasks u)) ∙ joined (has_rank q u) (list_any (has_rank q) us) (find rank_cmp q (paired ranks))
    where
      one : (b : Bool) → find rank_cmp q (paired (cond b (insert_key rank_cmp ranks (rank tasks u)) ranks)) ≡ cond (b && eq_by_cmp rank_cmp q (rank tasks u)) (Some tt) (find rank_cmp q (paired ranks))
      one true = ap (find rank_cmp q) (paired-insert_key ranks (rank tasks u)) ∙ find-put rank_cmp rank_total q (rank tasks u) tt (paired ranks)
      one false = refl

      joined : (b c : Bool) (x : Option (Unit {0})) → cond c (Some tt) (cond b (Some tt) x) ≡ cond (b || c) (Some tt) x
      joined true true x = refl
      joined true false x = refl
      joined false c x = refl

  -- the ranks of two lists of uuids are the same where the same of these have no place
  pub same_ranks : (us vs : List (List ℕ)) → ((u : List ℕ) → is_unplaced places tasks u ≡ true → is_among us u ≡ true → is_among vs u ≡ true) → ((u : List ℕ) → is_unplaced places tasks u ≡ true → is_among vs u ≡ true → is_among us u ≡ true)
      → with_ranks places tasks [] us ≡ with_ranks places tasks [] vs
  same_ranks us vs there back = unpaired (with_ranks places tasks [] us) (with_ranks places tasks [] vs)
      (same_entries rank_cmp rank_total rank_exact (paired (with_ranks places tasks [] us)) (paired (with_ranks places tasks [] vs)) (ranks_sorted [] us tt) (ranks_sorted [] vs tt)
      (λ q. ranks_find q [] us ∙ ap (λ b. cond b (Some tt) None) (both_ways (list_any (has_rank q) us) (list_any (has_rank q) vs) (any_among (has_rank q) us vs (λ u has. there u (first_of _ _ has))) (any_among (has_rank q) vs us (λ u has. back u (first_of _ _ has)))) ∙ sym (ranks_find q [] vs)))

  -- no uuid has two ranks
  pub ranks_once : (us : List (List ℕ)) → IsOnce (map place_of (with_ranks places tasks [] us))
  ranks_once us = once (with_ranks places tasks [] us) (ranks_sorted [] us tt) (ranks_own [] us tt)
    where
      once : (ranks : List Rank) → T (is_sorted rank_cmp (paired ranks)) → AllByRecursion (λ r. r ≡ rank tasks r.2) ranks → IsOnce (map place_of ranks)
      once [] h own = tt
      once (r ∷ rs) h own = (alone tasks r rs own.0 (T_first _ _ h) own.1, once rs (T_second _ _ h) own.1)
