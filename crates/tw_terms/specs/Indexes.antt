-- What is found out of all tasks at once: their numbers, and those that are blocking.
use Rattle.std.specs.Prelude.{◌≡◌, ℕ, List, Option, Some, None}
use Rattle.std.specs.BTreeMap as tree
use Rattle.std.specs.BTreeSet as set
use Rattle.tw_model.specs.Maps.{bytes_cmp}
use Rattle.tw_model.specs.Ops.{TasksValue}
use Rattle.tw_model.specs.Places.{Places, id_of}
use Rattle.tw_urgency.specs.Dependencies.{blocking}

-- an index has the number of each task in the places
abbrev pub IsIds : tree.BTreeMap (List ℕ) ℕ → Places → Type 0
IsIds ids places = (u : List ℕ) → tree.get bytes_cmp ids u ≡ id_of u places

-- the same of an index that there may be
abbrev pub AreIds : Option (tree.BTreeMap (List ℕ) ℕ) → Places → Type 0
AreIds None places = Unit {0}
AreIds (Some ids) places = IsIds ids places

-- the tasks that are blocking, if they were found out
abbrev pub AreBlocking : Option (set.BTreeSet (List ℕ)) → TasksValue → Type 0
AreBlocking None tasks = Unit {0}
AreBlocking (Some uuids) tasks = (u : List ℕ) → set.contains bytes_cmp uuids u ≡ blocking tasks u
