-- Places that are looked through for a uuid.
use Rattle.std.proofs.Common.{◌≡◌, ℕ, zero, suc, ◌+◌, ◌<◌, ◌≤◌, Bool, true, false, not, cond, ◌&&◌, ◌||◌, List, [], ◌∷◌, ◌++◌, length, get_or, take, map, set, Option, Some, None, is_some, refl, sym, ap, ◌∙◌}
use Rattle.std.specs.Prelude.{IfSome, IfNone}
use Rattle.std.proofs.lemmas.List.{take_more, take_all}
use Rattle.std.specs.FinMap.{get}
use Rattle.tw_model.specs.Maps.{same_bytes}
use Rattle.tw_model.specs.Ops.{TasksValue}
use Rattle.tw_model.specs.Places.{Places, has_uuid, uuid_at}
use Rattle.tw_model.proofs.Placing.{uuid_at_get}
use Rattle.tw_numbers.specs.Numbering.{is_open, is_placed, is_unplaced}
use Rattle.tw_numbers.specs.Assigned.{IsOnce, without, vacated}
use Rattle.tw_numbers.proofs.Ranks.{same_uuid}
use Rattle.tw_numbers.proofs.PlacedAfter.{placed-append}
use Rattle.tw_numbers.proofs.IndexedPlaces.{some_is, none_some, at_placed, set_without}

-- ---- where a uuid is found

-- uuids whose first bytes differ are not the same
pub first_apart : (u v a b : List ℕ) → a ≡ u → b ≡ v → (get_or a 0 0 ≡ get_or b 0 0 → ⊥) → false ≡ same_bytes u v
first_apart u v a b first second apart = sym (by (same_bytes u v) refl)
  where
    by : (s : Bool) → same_bytes u v ≡ s → s ≡ false
    by true t = absurd (apart (ap (λ (w : List ℕ). get_or w 0 0) (first ∙ same_uuid u v t ∙ sym second)))
    by false t = refl

-- a uuid that is not found before a place, and is not there, is not found before the next
pub not_yet : (places : Places) (u : List ℕ) (at : ℕ) (place : Option (List ℕ)) (r : Bool) → at < length places → place ≡ get_or places at place → r ≡ has_uuid u place → r ≡ false → is_placed (take at places) u ≡ false → is_placed (take (at + 1) places) u ≡ false
not_yet places u at place r lt read has is before =
    ap (λ (ps : Places). is_placed ps u) (take_more places at place lt ∙ ap (λ (p : Option (List ℕ)). take at places ++ p ∷ []) (sym read))
    ∙ placed-append (take at places) (place ∷ []) u ∙ (λ i. before i || ((sym has ∙ is) i || false))

pub found_there : (places : Places) (u : List ℕ) (at : ℕ) (place : Option (List ℕ)) (r : Bool) → at < length places → place ≡ get_or places at place → r ≡ has_uuid u place → r ≡ true → uuid_at at places ≡ Some u
found_there places u at place r lt read has is = sym (uuid_at_get places at place lt read) ∙ here place (sym has ∙ is)
  where
    here : (q : Option (List ℕ)) → has_uuid u q ≡ true → q ≡ Some u
    here None t = absurd cc
    here (Some v) t = ap (λ (w : List ℕ). Some w) (sym (same_uuid u v t))

pub found_nowhere : (places : Places) (u : List ℕ) (at : ℕ) → length places ≤ at → is_placed (take at places) u ≡ false → is_placed places u ≡ false
found_nowhere places u at le none = ap (λ (ps : Places). is_placed ps u) (sym (take_all at places le)) ∙ none

-- whether a task is open and has no place, by where it is found
pub scanned_unplaced : (places : Places) (tasks : TasksValue) (u : List ℕ) (o n : Bool) (found : Option ℕ) → o ≡ is_open (get tasks u) → IfSome found (λ at. uuid_at at places ≡ Some u) → IfNone found (is_placed places u ≡ false) → is_some found ≡ not n → is_unplaced places tasks u ≡ o && n
scanned_unplaced places tasks u o n found opened some none e = λ i. sym opened i && (ap not (placed found some none) ∙ ap not e ∙ twice n) i
  where
    twice : (b : Bool) → not (not b) ≡ b
    twice true = refl
    twice false = refl

    placed : (f : Option ℕ) → IfSome f (λ at. uuid_at at places ≡ Some u) → IfNone f (is_placed places u ≡ false) → is_placed places u ≡ is_some f
    placed None there nowhere = nowhere
    placed (Some at) there nowhere = at_placed places u at there

pub both_true : (o n : Bool) → o ≡ true → n ≡ true → o && n ≡ true
both_true o n opened free = λ i. opened i && free i

pub second_false : (o n : Bool) → n ≡ false → o && n ≡ false
second_false true n held = held
second_false false n held = refl

-- ---- a place becomes vacant

not_twice : (places : Places) (u v : List ℕ) (at : ℕ) → is_placed places v ≡ false → Some v ≡ Some u → uuid_at at places ≡ Some u → ⊥
not_twice places u v at alone e f = no (sym (at_placed places u at f) ∙ ap (is_placed places) (sym (some_is v u e)) ∙ alone)
  where
    no : true ≡ false → ⊥
    no g = absurd cc

-- no uuid stands at two places
at_once : (places : Places) (u : List ℕ) (i j : ℕ) → IsOnce places → uuid_at i places ≡ Some u → uuid_at j places ≡ Some u → i ≡ j
at_once [] u i j once e f = absurd (none_some u e)
at_once (None ∷ places) u zero j once e f = absurd (none_some u e)
at_once (None ∷ places) u (suc i) zero once e f = absurd (none_some u f)
at_once (None ∷ places) u (suc i) (suc j) once e f = ap suc (at_once places u i j once e f)
at_once (Some v ∷ places) u zero zero once e f = refl
at_once (Some v ∷ places) u zero (suc j) once e f = absurd (not_twice places u v j once.0 e f)
at_once (Some v ∷ places) u (suc i) zero once e f = absurd (not_twice places u v i once.0 f e)
at_once (Some v ∷ places) u (suc i) (suc j) once e f = ap suc (at_once places u i j once.1 e f)

-- a place that is found becomes vacant
pub found_vacant : (places : Places) (u : List ℕ) (at : ℕ) → IsOnce places → uuid_at at places ≡ Some u → set places at None ≡ map (without u) places
found_vacant places u at once here = set_without places u at here (λ i f. at_once places u i at once f here)

-- no uuid has two places then
placed_before : (places : Places) (v u : List ℕ) → is_placed places u ≡ false → is_placed (map (without v) places) u ≡ false
placed_before [] v u e = refl
placed_before (None ∷ places) v u e = placed_before places v u e
placed_before (Some w ∷ places) v u e = by (same_bytes v w) e (placed_before places v u)
  where
    second : (a b : Bool) → a || b ≡ false → b ≡ false
    second true b f = absurd cc
    second false b f = f

    by : (b : Bool) → same_bytes u w || is_placed places u ≡ false → (is_placed places u ≡ false → is_placed (map (without v) places) u ≡ false) → has_uuid u (cond b None (Some w)) || is_placed (map (without v) places) u ≡ false
    by true f rest = rest (second (same_bytes u w) (is_placed places u) f)
    by false f rest = ap (λ c. same_bytes u w || c) (rest (second (same_bytes u w) (is_placed places u) f) ∙ sym (second (same_bytes u w) (is_placed places u) f)) ∙ f

once_without : (places : Places) (v : List ℕ) → IsOnce places → IsOnce (map (without v) places)
once_without [] v once = tt
once_without (None ∷ places) v once = once_without places v once
once_without (Some w ∷ places) v once = by (same_bytes v w) (once_without places v once.1)
  where
    by : (b : Bool) → IsOnce (map (without v) places) → IsOnce (cond b None (Some w) ∷ map (without v) places)
    by true rest = rest
    by false rest = (placed_before places v w once.0, rest)

pub once_vacated : (tasks : TasksValue) (places : Places) (u : List ℕ) → IsOnce places → IsOnce (vacated tasks places u)
once_vacated tasks places u once = by (is_open (get tasks u))
  where
    by : (o : Bool) → IsOnce (cond o places (map (without u) places))
    by true = once
    by false = once_without places u once
