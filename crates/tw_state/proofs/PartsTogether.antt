-- What a part of the tasks and the others have, put together.
use Rattle.std.proofs.Common.{◌≡◌, ℕ, Bool, true, false, cond, ◌&&◌, ◌||◌, List, [], ◌∷◌, Option, Some, None, is_some, is_none, refl, sym, ap, ◌∙◌}
use Rattle.std.specs.Ordering.{eq_by_cmp}
use Rattle.std.specs.FinMap.{get, empty, insert, get-empty}
use Rattle.std.specs.Cmp.Lexicographic.{texts_ties}
use Rattle.tw_model.specs.Maps.{bytes_cmp, same_bytes, set_at, set_if_none}
use Rattle.tw_model.proofs.Maps.{same_maps, get-set_at}
use Rattle.tw_model.specs.Ops.{TaskValue, TasksValue}
use Rattle.tw_numbers.specs.Assigned.{is_among}
use Rattle.tw_state.specs.Part.{with_part, part_of, taken_out, is_fresh, fresh_among, with_room, AgreeAmong, HasNone, HasRoom}
use Rattle.tw_numbers.proofs.Ranks.{same_uuid}

-- ---- what a part and the tasks have, put together

pub get-with_part : (us : List (List ℕ)) (part tasks : TasksValue) (v : List ℕ) → get (with_part us part tasks) v ≡ cond (is_among us v) (get part v) (get tasks v)
get-with_part [] part tasks v = refl
get-with_part (u ∷ us) part tasks v =
    get-with_part us part (set_at tasks u (get part u)) v
    ∙ ap (cond (is_among us v) (get part v)) (get-set_at tasks u (get part u) v)
    ∙ by (is_among us v) (same_bytes v u) refl
    ∙ ap (λ b. cond (b || is_among us v) (get part v) (get tasks v)) (texts_ties v u)
  where
    by : (a b : Bool) → same_bytes v u ≡ b → cond a (get part v) (cond b (get part u) (get tasks v)) ≡ cond (b || a) (get part v) (get tasks v)
    by true true e = refl
    by true false e = refl
    by false true e = ap (get part) (sym (same_uuid v u e))
    by false false e = refl

pub part_agrees : (us : List (List ℕ)) (tasks : TasksValue) → AgreeAmong us (part_of us tasks) tasks
part_agrees us tasks u inside = get-with_part us tasks empty u ∙ ap (λ b. cond b (get tasks u) (get {R = bytes_cmp} empty u)) inside

pub merged : (us : List (List ℕ)) (part old new : TasksValue) → AgreeAmong us part new → ((u : List ℕ) → is_among us u ≡ false → get new u ≡ get old u) → with_part us part old ≡ new
merged us part old new among apart = same_maps _ _ (λ u. get-with_part us part old u ∙ by u (is_among us u) refl)
  where
    by : (u : List ℕ) (b : Bool) → is_among us u ≡ b → cond b (get part u) (get old u) ≡ get new u
    by u true e = among u e
    by u false e = sym (apart u e)

-- ---- room for tasks that are fresh

pub get-with_room : (us : List (List ℕ)) (tasks : TasksValue) (v : List ℕ) → get (with_room us tasks) v ≡ cond (is_among us v && is_none (get tasks v)) (Some empty) (get tasks v)
get-with_room [] tasks v = refl
get-with_room (u ∷ us) tasks v =
    get-with_room us (set_if_none tasks u empty) v
    ∙ ap (λ o. cond (is_among us v && is_none o) (Some empty) o) one
    ∙ by (is_among us v) (same_bytes v u) (get tasks v)
    ∙ ap (λ b. cond ((b || is_among us v) && is_none (get tasks v)) (Some empty) (get tasks v)) (texts_ties v u)
  where
    placed : (o : Option TaskValue) → get tasks u ≡ o → get (cond (is_none o) (insert tasks u empty) tasks) v ≡ cond (same_bytes v u && is_none o) (Some empty) (get tasks v)
    placed None e = get-set_at tasks u (Some empty) v ∙ yes (same_bytes v u)
      where
        yes : (b : Bool) → cond b (Some empty) (get tasks v) ≡ cond (b && true) (Some empty) (get tasks v)
        yes true = refl
        yes false = refl
    placed (Some t) e = no (same_bytes v u)
      where
        no : (b : Bool) → get tasks v ≡ cond (b && false) (Some empty) (get tasks v)
        no true = refl
        no false = refl

    here : (b : Bool) → same_bytes v u ≡ b → cond (b && is_none (get tasks u)) (Some empty) (get tasks v) ≡ cond (b && is_none (get tasks v)) (Some empty) (get tasks v)
    here true e = ap (λ w. cond (is_none (get tasks w)) (Some empty) (get tasks v)) (sym (same_uuid v u e))
    here false e = refl

    one : get (set_if_none tasks u empty) v ≡ cond (same_bytes v u && is_none (get tasks v)) (Some empty) (get tasks v)
    one = placed (get tasks u) refl ∙ here (same_bytes v u) refl

    by : (a b : Bool) (o : Option TaskValue) → cond (a && is_none (cond (b && is_none o) (Some empty) o)) (Some empty) (cond (b && is_none o) (Some empty) o) ≡ cond ((b || a) && is_none o) (Some empty) o
    by true true None = refl
    by true true (Some t) = refl
    by true false None = refl
    by true false (Some t) = refl
    by false true None = refl
    by false true (Some t) = refl
    by false false o = refl

-- if there is nothing, nothing is taken out
pub nothing_taken_out : (us : List (List ℕ)) (tasks : TasksValue) → HasNone us tasks → taken_out us tasks ≡ tasks
nothing_taken_out us tasks none = merged us empty tasks tasks (λ u inside. get-empty bytes_cmp u ∙ sym (none u inside)) (λ u outside. refl)

-- room is taken out again
pub room_taken_out : (us : List (List ℕ)) (tasks : TasksValue) → HasNone us tasks → taken_out us (with_room us tasks) ≡ tasks
room_taken_out us tasks none = merged us empty (with_room us tasks) tasks
    (λ u inside. get-empty bytes_cmp u ∙ sym (none u inside))
    (λ u outside. sym (get-with_room us tasks u ∙ ap (λ b. cond (b && is_none (get tasks u)) (Some empty) (get tasks u)) outside))

-- a filtered list has what it had and passes
pub among_fresh : (part tasks : TasksValue) (us : List (List ℕ)) (u : List ℕ) → is_among (fresh_among part tasks us) u ≡ (is_among us u && is_fresh part tasks u)
among_fresh part tasks [] u = refl
among_fresh part tasks (v ∷ us) u = by (is_fresh part tasks v) refl (among_fresh part tasks us u)
  where
    same_fresh : eq_by_cmp bytes_cmp u v ≡ true → is_fresh part tasks u ≡ is_fresh part tasks v
    same_fresh e = ap (is_fresh part tasks) (same_uuid u v (texts_ties u v ∙ e))

    yes : (k a f : Bool) → (k ≡ true → f ≡ true) → k || (a && f) ≡ (k || a) && f
    yes true a f h = sym (h refl)
    yes false a f h = refl

    no : (k a f : Bool) → (k ≡ true → f ≡ false) → a && f ≡ (k || a) && f
    no true a f h = ap (λ b. a && b) (h refl) ∙ out a ∙ sym (h refl)
      where
        out : (a : Bool) → a && false ≡ false
        out true = refl
        out false = refl
    no false a f h = refl

    by : (b : Bool) → is_fresh part tasks v ≡ b → is_among (fresh_among part tasks us) u ≡ (is_among us u && is_fresh part tasks u) → is_among (cond b (v ∷ fresh_among part tasks us) (fresh_among part tasks us)) u ≡ (is_among (v ∷ us) u && is_fresh part tasks u)
    by true e rest = ap (λ b. eq_by_cmp bytes_cmp u v || b) rest ∙ yes (eq_by_cmp bytes_cmp u v) (is_among us u) (is_fresh part tasks u) (λ k. same_fresh k ∙ e)
    by false e rest = rest ∙ no (eq_by_cmp bytes_cmp u v) (is_among us u) (is_fresh part tasks u) (λ k. same_fresh k ∙ e)

and_first : (a b : Bool) → a && b ≡ true → a ≡ true
and_first true b e = refl
and_first false b e = e

and_second : (a b : Bool) → a && b ≡ true → b ≡ true
and_second true b e = e
and_second false b e = absurd cc

none_of : (o : Option TaskValue) → is_none o ≡ true → o ≡ None
none_of None e = refl
none_of (Some t) e = absurd cc

pub fresh_has_none : (part tasks : TasksValue) (us : List (List ℕ)) → HasNone (fresh_among part tasks us) tasks
fresh_has_none part tasks us u inside =
    none_of (get tasks u) (and_second (is_some (get part u)) (is_none (get tasks u)) (and_second (is_among us u) (is_fresh part tasks u) (sym (among_fresh part tasks us u) ∙ inside)))

-- with room for those that are fresh, each task of the part has room
pub fresh_has_room : (part tasks : TasksValue) (us : List (List ℕ)) → HasRoom us part (with_room (fresh_among part tasks us) tasks)
fresh_has_room part tasks us u inside there =
    ap is_some (get-with_room (fresh_among part tasks us) tasks u)
    ∙ ap (λ b. is_some (cond (b && is_none (get tasks u)) (Some empty) (get tasks u))) (among_fresh part tasks us u ∙ (λ i. inside i && (there i && is_none (get tasks u))))
    ∙ by (get tasks u)
  where
    by : (o : Option TaskValue) → is_some (cond (is_none o && is_none o) (Some empty) o) ≡ true
    by None = refl
    by (Some t) = refl

-- what takes the place of the room is what the part has
pub room_filled : (part tasks : TasksValue) (us : List (List ℕ)) → with_part us part (with_room (fresh_among part tasks us) tasks) ≡ with_part us part tasks
room_filled part tasks us = merged us part (with_room (fresh_among part tasks us) tasks) (with_part us part tasks)
    (λ u inside. sym (get-with_part us part tasks u ∙ ap (λ b. cond b (get part u) (get tasks u)) inside))
    (λ u outside.
    get-with_part us part tasks u ∙ ap (λ b. cond b (get part u) (get tasks u)) outside
    ∙ sym (get-with_room (fresh_among part tasks us) tasks u ∙ ap (λ b. cond (b && is_none (get tasks u)) (Some empty) (get tasks u)) (among_fresh part tasks us u ∙ ap (λ b. b && is_fresh part tasks u) outside)))
