-- `ids` and `uuids`: the numbers or the uuids of tasks, on one line.
use Rattle.std.specs.Prelude.{ℕ, ◌+◌, Bool, false, cond, List, [], ◌∷◌, ◌++◌, map, Option, Some, None, codes}
use Rattle.std.specs.List.{list_any}
use Rattle.std.specs.Fmt.{decimal}
use Rattle.uuid.specs.Text.{hyphenated_text, lower}
use Rattle.tw_model.specs.Maps.{same_bytes}
use Rattle.tw_model.specs.Places.{Places}
use Rattle.tw_state.specs.State.{State}
use Rattle.tw_commands.specs.Request.{selected_in}
use Rattle.tw_changes.specs.Spaced.{spaced}
use Rattle.tw_commands.specs.Plan.{Plan}
use Rattle.tw_commands.specs.Looks.{looking}
use Rattle.tw_changes.specs.declared.request.Request.{Request}

-- words on a line
abbrev pub line_text : List (List ℕ) → List ℕ
line_text words = spaced words ++ codes "\n"

-- whether a place is that of one of these tasks
abbrev pub is_place_of : List (List ℕ) → Option (List ℕ) → Bool
is_place_of rows None = false
is_place_of rows (Some u) = list_any (same_bytes u) rows

-- the numbers of the places of these tasks, the first of the list having number n
abbrev pub numbers_from : ℕ → List (List ℕ) → Places → List (List ℕ)
numbers_from n rows [] = []
numbers_from n rows (place ∷ places) =
    cond (is_place_of rows place) (decimal n ∷ numbers_from (n + 1) rows places) (numbers_from (n + 1) rows places)

-- what `ids` is to do: the numbers, rising
abbrev pub numbering : Request → State → Plan
numbering request state = looking (line_text (numbers_from 1 (selected_in request state) state.numbers))

-- what `uuids` is to do: the uuids, in byte order
abbrev pub naming : Request → State → Plan
naming request state = looking (line_text (map (hyphenated_text lower) (selected_in request state)))
