-- A place that becomes vacant leaves the other tasks as they are.
use Rattle.std.proofs.Common.{◌≡◌, ℕ, Bool, true, false, not, cond, ◌&&◌, ◌||◌, List, [], ◌∷◌, map, is_some, Some, None, refl, sym, ap, ◌∙◌}
use Rattle.std.specs.BTreeSet.{insert_key}
use Rattle.std.specs.BTreeMap as tree
use Rattle.std.specs.FinMap.{get}
use Rattle.tw_model.specs.Maps.{bytes_cmp, same_bytes}
use Rattle.tw_model.specs.Ops.{TasksValue}
use Rattle.tw_model.specs.Places.{Places, has_uuid}
use Rattle.tw_numbers.specs.Numbering.{Rank, rank, rank_cmp, is_open, is_placed, is_unplaced, with_rank, with_ranks}
use Rattle.tw_numbers.specs.Assigned.{IsIndex, without, vacated}
use Rattle.tw_numbers.proofs.Ranks.{same_uuid}
use Rattle.tw_numbers.proofs.IndexedPlaces.{indexed_is_placed}

-- without the place of another
placed_without : (places : Places) (v u : List ℕ) → same_bytes u v ≡ false → is_placed (map (without v) places) u ≡ is_placed places u
placed_without [] v u other = refl
placed_without (None ∷ places) v u other = placed_without places v u other
placed_without (Some w ∷ places) v u other = by (same_bytes v w) refl (placed_without places v u other)
  where
    by : (b : Bool) → same_bytes v w ≡ b → is_placed (map (without v) places) u ≡ is_placed places u → has_uuid u (cond b None (Some w)) || is_placed (map (without v) places) u ≡ same_bytes u w || is_placed places u
    by true e rest = rest ∙ ap (λ b. b || is_placed places u) (sym other ∙ ap (same_bytes u) (same_uuid v w e))
    by false e rest = ap (λ b. same_bytes u w || b) rest

-- the open tasks without a place are the same
still_unplaced : (tasks : TasksValue) (places : Places) (v u : List ℕ) → is_unplaced (vacated tasks places v) tasks u ≡ is_unplaced places tasks u
still_unplaced tasks places v u = by (is_open (get tasks v)) refl
  where
    here : (o : Bool) → is_open (get tasks u) ≡ o → is_open (get tasks v) ≡ false → o && not (is_placed (map (without v) places) u) ≡ o && not (is_placed places u)
    here false e closed = refl
    here true e closed =
        elim (same_bytes u v) as (λ b. same_bytes u v ≡ b → not (is_placed (map (without v) places) u) ≡ not (is_placed places u)) [
          | true ↦ λ t. absurd (both (sym e ∙ ap (λ w. is_open (get tasks w)) (same_uuid u v t) ∙ closed))
          | false ↦ λ t. ap not (placed_without places v u t)
        ] refl
      where
        both : true ≡ false → ⊥
        both a = absurd cc

    by : (o : Bool) → is_open (get tasks v) ≡ o → is_open (get tasks u) && not (is_placed (cond o places (map (without v) places)) u) ≡ is_open (get tasks u) && not (is_placed places u)
    by true e = refl
    by false e = here (is_open (get tasks u)) refl e

same_with : (tasks : TasksValue) (p q : Places) → ((u : List ℕ) → is_unplaced p tasks u ≡ is_unplaced q tasks u) → (ranks : List Rank) (us : List (List ℕ)) → with_ranks p tasks ranks us ≡ with_ranks q tasks ranks us
same_with tasks p q same ranks [] = refl
same_with tasks p q same ranks (u ∷ us) =
    same_with tasks p q same (with_rank p tasks ranks u) us ∙ ap (λ b. with_ranks q tasks (cond b (insert_key rank_cmp ranks (rank tasks u)) ranks) us) (same u)

-- a look at one task, and then at the others from the places that it leaves
pub look_on : (tasks : TasksValue) (places left : Places) (u : List ℕ) (ranks after : List Rank) (us : List (List ℕ)) → left ≡ vacated tasks places u → after ≡ with_rank places tasks ranks u → with_ranks left tasks after us ≡ with_ranks places tasks ranks (u ∷ us)
look_on tasks places left u ranks after us kept new =
    ap (λ (p : Places). with_ranks p tasks after us) kept
    ∙ same_with tasks (vacated tasks places u) places (still_unplaced tasks places u) after us
    ∙ ap (λ (rs : List Rank). with_ranks places tasks rs us) new

-- whether a task is open and has no place, by what is found of it
pub found_unplaced : (places : Places) (index : tree.BTreeMap (List ℕ) ℕ) (tasks : TasksValue) (u : List ℕ) (o p : Bool) → IsIndex index places → o ≡ is_open (get tasks u) → p ≡ is_some (tree.get bytes_cmp index u) → is_unplaced places tasks u ≡ o && not p
found_unplaced places index tasks u o p is opened placed = (λ i. sym opened i && not (sym (placed ∙ indexed_is_placed index places is u) i))

pub is_free : (o p : Bool) → o ≡ true → p ≡ false → o && not p ≡ true
is_free o p opened free = (λ i. opened i && not (free i))

pub is_held : (o p : Bool) → o ≡ true → p ≡ true → o && not p ≡ false
is_held o p opened held = (λ i. opened i && not (held i))
