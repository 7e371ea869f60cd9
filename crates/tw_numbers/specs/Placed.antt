-- The uuids that have a place, and those of open tasks.
use Rattle.std.specs.Prelude.{ℕ, Bool, false, cond, List, [], ◌∷◌, Option, Some, None}
use Rattle.std.specs.List.{flat_map}
use Rattle.tw_model.specs.Maps.{same_bytes}
use Rattle.tw_model.specs.Ops.{TaskValue}
use Rattle.tw_model.specs.Places.{Places}
use Rattle.tw_numbers.specs.Numbering.{is_open}

-- the uuid that has a place, if it is not vacant
abbrev pub uuid_of_place : Option (List ℕ) → List (List ℕ)
uuid_of_place None = []
uuid_of_place (Some u) = u ∷ []

-- the uuids that have a place, in the order of the places
abbrev pub placed_uuids : Places → List (List ℕ)
placed_uuids places = flat_map uuid_of_place places

-- the uuids of those tasks that are open
abbrev pub open_uuids : List (List ℕ × TaskValue) → List (List ℕ)
open_uuids [] = []
open_uuids (entry ∷ more) = cond (is_open (Some entry.1)) (entry.0 ∷ open_uuids more) (open_uuids more)

-- whether a uuid is the first of these
abbrev pub begins_with : List ℕ → List (List ℕ) → Bool
begins_with u [] = false
begins_with u (v ∷ us) = same_bytes v u
