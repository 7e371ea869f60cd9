-- The places of a working set: the tasks in them are numbered from 1, and a place may be vacant.
use Rattle.std.specs.Prelude.{ℕ, zero, suc, ◌+◌, Bool, false, cond, List, [], ◌∷◌, Option, Some, None}
use Rattle.tw_model.specs.Maps.{same_bytes}

abbrev pub Places : Type 0
Places = List (Option (List ℕ))

-- whether a place is that of a uuid
abbrev pub has_uuid : List ℕ → Option (List ℕ) → Bool
has_uuid u None = false
has_uuid u (Some v) = same_bytes u v

-- the place of a uuid, the first of the list having number n
abbrev pub id_from : ℕ → List ℕ → Places → Option ℕ
id_from n u [] = None
id_from n u (place ∷ places) = cond (has_uuid u place) (Some n) (id_from (n + 1) u places)

-- the number of a task: that of its place, counted from 1
abbrev pub id_of : List ℕ → Places → Option ℕ
id_of u places = id_from 1 u places

-- the uuid at a place, if it is there and not vacant
abbrev pub uuid_at : ℕ → Places → Option (List ℕ)
uuid_at at [] = None
uuid_at zero (place ∷ places) = place
uuid_at (suc at) (place ∷ places) = uuid_at at places

-- the uuid of the task with a number
abbrev pub uuid_of : ℕ → Places → Option (List ℕ)
uuid_of zero places = None
uuid_of (suc at) places = uuid_at at places
