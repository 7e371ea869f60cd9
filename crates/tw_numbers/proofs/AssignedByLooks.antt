-- Assigning after some tasks have changed: a look at these leads to the same places.
use Rattle.std.proofs.Common.{◌≡◌, ℕ, Bool, true, false, not, cond, ◌&&◌, ◌||◌, List, [], ◌∷◌, ◌++◌, map, Option, Some, None, is_some, refl, sym, ap, subst, ◌∙◌}
use Rattle.std.specs.Ordering.{eq_by_cmp}
use Rattle.std.specs.FinMap.{get, keys, contains_key-keys}
use Rattle.std.specs.Cmp.Lexicographic.{texts_ties}
use Rattle.tw_model.specs.Maps.{bytes_cmp, same_bytes}
use Rattle.tw_model.specs.Ops.{TaskValue, TasksValue}
use Rattle.tw_model.specs.Places.{Places}
use Rattle.tw_numbers.specs.Numbering.{Rank, is_open, is_placed, kept_place, is_unplaced, with_ranks, place_of, assigned, with_rank}
use Rattle.tw_numbers.specs.Assigned.{IsOnce, is_among, IsAssignedExcept, without, vacated, vacated_all, left_place}
use Rattle.tw_numbers.proofs.Ranks.{same_key, itself, same_ranks, same_uuid}
use Rattle.tw_numbers.proofs.PlacedAfter.{assigned_in}

abbrev place_after : TasksValue → List (List ℕ) → Option (List ℕ) → Option (List ℕ)
place_after tasks [] place = place
place_after tasks (u ∷ us) place = place_after tasks us (cond (is_open (get tasks u)) place (without u place))

map_alike : (f g : Option (List ℕ) → Option (List ℕ)) (places : Places) → f None ≡ g None → ((u : List ℕ) → is_placed places u ≡ true → f (Some u) ≡ g (Some u)) → map f places ≡ map g places
map_alike f g [] none some = refl
map_alike f g (None ∷ places) none some = λ i. none i ∷ map_alike f g places none some i
map_alike f g (Some v ∷ places) none some = λ i. some v (ap (λ b. b || is_placed places v) (texts_ties v v ∙ itself v)) i ∷ map_alike f g places none (λ u placed. some u (or_right (same_bytes u v) (is_placed places u) placed)) i
  where
    or_right : (a b : Bool) → b ≡ true → a || b ≡ true
    or_right true b e = refl
    or_right false b e = e

map_one : (f g : Option (List ℕ) → Option (List ℕ)) (places : Places) → map f (map g places) ≡ map (λ p. f (g p)) places
map_one f g [] = refl
map_one f g (p ∷ places) = ap (λ (l : Places). f (g p) ∷ l) (map_one f g places)

map_same : (places : Places) → map (λ p. p) places ≡ places
map_same [] = refl
map_same (p ∷ places) = ap (λ (l : Places). p ∷ l) (map_same places)

vacated_each : (tasks : TasksValue) (places : Places) (us : List (List ℕ)) → vacated_all tasks places us ≡ map (place_after tasks us) places
vacated_each tasks places [] = sym (map_same places)
vacated_each tasks places (u ∷ us) = vacated_each tasks (vacated tasks places u) us ∙ by (is_open (get tasks u))
  where
    by : (o : Bool) → map (place_after tasks us) (cond o places (map (without u) places)) ≡ map (λ p. place_after tasks us (cond o p (without u p))) places
    by true = refl
    by false = map_one (place_after tasks us) (without u) places

after_none : (tasks : TasksValue) (us : List (List ℕ)) → place_after tasks us None ≡ None
after_none tasks [] = refl
after_none tasks (u ∷ us) = ap (place_after tasks us) (by (is_open (get tasks u))) ∙ after_none tasks us
  where
    by : (o : Bool) → cond o None (without u None) ≡ None
    by true = refl
    by false = refl

after_some : (tasks : TasksValue) (us : List (List ℕ)) (v : List ℕ) → place_after tasks us (Some v) ≡ cond (is_among us v && not (is_open (get tasks v))) None (Some v)
after_some tasks [] v = refl
after_some tasks (u ∷ us) v =
    elim (eq_by_cmp bytes_cmp v u) as (λ b. eq_by_cmp bytes_cmp v u ≡ b → place_after tasks us (cond (is_open (get tasks u)) (Some v) (without u (Some v))) ≡ cond ((b || is_among us v) && not (is_open (get tasks v))) None (Some v)) [
      | true ↦ λ t.
          let same : u ≡ v = sym (same_key v u t) in
          let has : same_bytes u v ≡ true = ap (λ w. same_bytes w v) same ∙ texts_ties v v ∙ itself v in
          at_task (is_open (get tasks v)) (ap (λ w. is_open (get tasks w)) same) has refl (after_some tasks us v)
      | false ↦ λ t.
          let has : same_bytes u v ≡ false = texts_ties u v ∙ turned t in
          ap (place_after tasks us) (by (is_open (get tasks u)) has) ∙ after_some tasks us v
    ] refl
  where
    turned : eq_by_cmp bytes_cmp v u ≡ false → eq_by_cmp bytes_cmp u v ≡ false
    turned t = elim (eq_by_cmp bytes_cmp u v) as (λ b. eq_by_cmp bytes_cmp u v ≡ b → b ≡ false) [ true ↦ λ e. absurd (both t (ap (λ w. eq_by_cmp bytes_cmp w u) (sym (same_key u v e)) ∙ itself u)) | false ↦ λ e. refl ] refl
      where
        both : eq_by_cmp bytes_cmp v u ≡ false → eq_by_cmp bytes_cmp v u ≡ true → ⊥
        both a b = absurd cc

    by : (o : Bool) → same_bytes u v ≡ false → cond o (Some v) (without u (Some v)) ≡ Some v
    by true has = refl
    by false has = ap (λ b. cond b None (Some v)) has

    at_task : (o : Bool) → is_open (get tasks u) ≡ o → same_bytes u v ≡ true → is_open (get tasks v) ≡ o → place_after tasks us (Some v) ≡ cond (is_among us v && not (is_open (get tasks v))) None (Some v) → place_after tasks us (cond (is_open (get tasks u)) (Some v) (without u (Some v))) ≡ cond (not o) None (Some v)
    at_task true e has here rest = ap (λ b. place_after tasks us (cond b (Some v) (without u (Some v)))) e ∙ rest ∙ ap (λ b. cond (is_among us v && not b) None (Some v)) here ∙ ap (λ b. cond b None (Some v)) (no (is_among us v))
      where
        no : (b : Bool) → b && false ≡ false
        no true = refl
        no false = refl
    at_task false e has here rest = ap (λ b. place_after tasks us (cond b (Some v) (without u (Some v)))) e ∙ ap (λ b. place_after tasks us (cond b None (Some v))) has ∙ after_none tasks us

-- a look at the tasks that have changed leads to assigned places
pub look_assigns : (places : Places) (tasks : TasksValue) (us : List (List ℕ)) → IsAssignedExcept places tasks us → vacated_all tasks places us ++ map place_of (with_ranks places tasks [] us) ≡ assigned places tasks
look_assigns places tasks us ready =
    (λ i. kept i ++ map place_of (same_ranks places tasks us (keys tasks) there back i))
  where
    unchanged : (u : List ℕ) → is_among us u ≡ false → is_placed places u ≡ is_open (get tasks u)
    unchanged u out = ready.assigned.same u ∙ ap is_open (sym (ready.same u out))

    some_there : (o : Option TaskValue) → is_open o ≡ true → is_some o ≡ true
    some_there None e = e
    some_there (Some task) e = refl

    first_of : (a b : Bool) → a && b ≡ true → a ≡ true
    first_of true b e = refl
    first_of false b e = e

    there : (u : List ℕ) → is_unplaced places tasks u ≡ true → is_among us u ≡ true → is_among (keys tasks) u ≡ true
    there u free among = sym (contains_key-keys tasks u) ∙ some_there (get tasks u) (first_of _ _ free)

    back : (u : List ℕ) → is_unplaced places tasks u ≡ true → is_among (keys tasks) u ≡ true → is_among us u ≡ true
    back u free among =
        elim (is_among us u) as (λ b. is_among us u ≡ b → b ≡ true) [
          | true ↦ λ e. refl
          | false ↦ λ e. absurd (no (is_placed places u) (is_open (get tasks u)) (unchanged u e) free)
        ] refl
      where
        no : (p o : Bool) → p ≡ o → o && not p ≡ true → ⊥
        no true true e f = absurd cc
        no true false e f = absurd cc
        no false true e f = absurd cc
        no false false e f = absurd cc

    here : (v : List ℕ) → is_placed places v ≡ true → place_after tasks us (Some v) ≡ kept_place tasks (Some v)
    here v placed = after_some tasks us v ∙ by (is_open (get tasks v)) (is_among us v) (λ out. sym (unchanged v out) ∙ placed)
      where
        by : (o a : Bool) → (a ≡ false → o ≡ true) → cond (a && not o) None (Some v) ≡ cond o (Some v) None
        by true true h = refl
        by true false h = refl
        by false true h = refl
        by false false h = absurd (no_way (h refl))
          where
            no_way : false ≡ true → ⊥
            no_way e = absurd cc

    kept : vacated_all tasks places us ≡ map (kept_place tasks) places
    kept = vacated_each tasks places us ∙ map_alike (place_after tasks us) (kept_place tasks) places (after_none tasks us) here

-- the same on a copy of the places
pub left_assigns : (places left : Places) (tasks : TasksValue) (us : List (List ℕ)) (ranks : List Rank) → IsAssignedExcept places tasks us → left ≡ map (left_place tasks us) places → ranks ≡ with_ranks places tasks [] us → left ++ map place_of ranks ≡ assigned places tasks
left_assigns places left tasks us ranks ready kept new = (λ i. (kept ∙ sym (vacated_each tasks places us ∙ each places)) i ++ map place_of (new i)) ∙ look_assigns places tasks us ready
  where
    each : (ps : Places) → map (place_after tasks us) ps ≡ map (left_place tasks us) ps
    each [] = refl
    each (None ∷ ps) = λ i. after_none tasks us i ∷ each ps i
    each (Some v ∷ ps) = λ i. after_some tasks us v i ∷ each ps i

-- what a look leads to, as a step takes it
pub looked : (places vacant : Places) (tasks : TasksValue) (us : List (List ℕ)) (ranks : List Rank) → IsAssignedExcept places tasks us → vacant ≡ vacated_all tasks places us → ranks ≡ with_ranks places tasks [] us → vacant ++ map place_of ranks ≡ assigned places tasks
looked places vacant tasks us ranks ready left new = (λ i. left i ++ map place_of (new i)) ∙ look_assigns places tasks us ready

pub looked_once : (places vacant : Places) (tasks : TasksValue) (us : List (List ℕ)) (ranks : List Rank) → IsAssignedExcept places tasks us → vacant ≡ vacated_all tasks places us → ranks ≡ with_ranks places tasks [] us → IsOnce (vacant ++ map place_of ranks)
looked_once places vacant tasks us ranks ready left new = subst IsOnce (sym (looked places vacant tasks us ranks ready left new)) (assigned_in places tasks ready.assigned.once).once

-- ---- one task more

-- a place of none of the uuids is not that of one of them
pub other_place : (us : List (List ℕ)) (u v : List ℕ) (had : Bool) → is_among us u ≡ true → is_among us v ≡ false → had ≡ had || same_bytes u v
other_place us u v had inside outside = by had (same_bytes u v) (differ (same_bytes u v) refl)
  where
    differ : (b : Bool) → same_bytes u v ≡ b → b ≡ false
    differ true e = absurd (both (ap (is_among us) (sym (same_uuid u v e)) ∙ inside) outside)
      where
        both : is_among us v ≡ true → is_among us v ≡ false → ⊥
        both here not_so = absurd cc
    differ false e = refl

    by : (a b : Bool) → b ≡ false → a ≡ a || b
    by true b e = refl
    by false b e = sym e

-- one task more was looked at
pub ranks_step : (places : Places) (tasks : TasksValue) (before rest : List (List ℕ)) (u : List ℕ) (ranks new whole : List Rank) → before ≡ u ∷ rest → new ≡ with_rank places tasks ranks u → with_ranks places tasks ranks before ≡ whole → with_ranks places tasks new rest ≡ whole
ranks_step places tasks before rest u ranks new whole next e so_far = ap (λ (rs : List Rank). with_ranks places tasks rs rest) e ∙ ap (λ (us : List (List ℕ)). with_ranks places tasks ranks us) (sym next) ∙ so_far

pub first_among : (before rest all : List (List ℕ)) (u : List ℕ) → before ≡ u ∷ rest → ((w : List ℕ) → is_among before w ≡ true → is_among all w ≡ true) → is_among all u ≡ true
first_among before rest all u next among = among u (ap (λ (us : List (List ℕ)). is_among us u) next ∙ ap (λ b. b || is_among rest u) (itself u))

pub rest_among : (before rest all : List (List ℕ)) (u : List ℕ) → before ≡ u ∷ rest → ((w : List ℕ) → is_among before w ≡ true → is_among all w ≡ true) → (w : List ℕ) → is_among rest w ≡ true → is_among all w ≡ true
rest_among before rest all u next among w inside = among w (ap (λ (us : List (List ℕ)). is_among us w) next ∙ or_true (eq_by_cmp bytes_cmp w u) (is_among rest w) inside)
  where
    or_true : (a b : Bool) → b ≡ true → a || b ≡ true
    or_true true b e = refl
    or_true false b e = e
