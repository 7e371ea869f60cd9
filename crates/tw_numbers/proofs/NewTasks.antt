-- Assigning once a task has changed that has no place.
use Rattle.std.proofs.Common.{◌≡◌, ℕ, Bool, true, false, not, cond, ◌&&◌, List, [], ◌∷◌, ◌++◌, map, Some, sym, ◌∙◌}
use Rattle.std.proofs.lemmas.List.{append-nil}
use Rattle.std.specs.BTreeSet.{insert_key}
use Rattle.std.specs.FinMap.{get}
use Rattle.tw_model.specs.Ops.{TasksValue}
use Rattle.tw_model.specs.Places.{Places}
use Rattle.tw_numbers.specs.Numbering.{rank, rank_cmp, is_open, is_placed, place_of, assigned}
use Rattle.tw_numbers.specs.Assigned.{IsAssignedExcept, without}
use Rattle.tw_numbers.proofs.IndexedPlaces.{without_none}
use Rattle.tw_numbers.proofs.AssignedByLooks.{look_assigns}

-- it gets the last one if it is open
pub new_open : (places : Places) (tasks : TasksValue) (u : List ℕ) (o : Bool) → IsAssignedExcept places tasks (u ∷ []) → is_placed places u ≡ false → o ≡ is_open (get tasks u) → o ≡ true → places ++ Some u ∷ [] ≡ assigned places tasks
new_open places tasks u o ready free here opened =
    let is : true ≡ is_open (get tasks u) = sym opened ∙ here in
    (λ i. cond (is i) places (map (without u) places) ++ map place_of (cond (is i && not (sym free i)) (insert_key rank_cmp [] (rank tasks u)) [])) ∙ look_assigns places tasks (u ∷ []) ready

-- and the places stay where it is not
pub new_closed : (places : Places) (tasks : TasksValue) (u : List ℕ) (o : Bool) → IsAssignedExcept places tasks (u ∷ []) → is_placed places u ≡ false → o ≡ is_open (get tasks u) → o ≡ false → places ≡ assigned places tasks
new_closed places tasks u o ready free here closed =
    let is : false ≡ is_open (get tasks u) = sym closed ∙ here in
    sym (append-nil places) ∙ (λ i. sym (without_none places u free) i ++ []) ∙ (λ i. cond (is i) places (map (without u) places) ++ map place_of (cond (is i && not (sym free i)) (insert_key rank_cmp [] (rank tasks u)) [])) ∙ look_assigns places tasks (u ∷ []) ready
