-- Places that are assigned to tasks, and what is to be looked at once some tasks have changed.
use Rattle.std.specs.Prelude.{◌≡◌, ℕ, Bool, true, false, not, cond, ◌&&◌, ◌||◌, List, [], ◌∷◌, ◌++◌, length, map, Option, Some, None}
use Rattle.std.specs.Coded.{×_prop, Π_prop, Unit-prop, Coded-set, coded_bool}
use Rattle.std.specs.List.{list_any, list_all}
use Rattle.std.specs.Ordering.{eq_by_cmp}
use Rattle.std.specs.FinMap.{get, entries}
use Rattle.std.specs.BTreeMap as tree
use Rattle.std.specs.BTreeSet as set
use Rattle.tw_model.specs.Maps.{bytes_cmp, same_bytes}
use Rattle.tw_model.specs.Ops.{TaskValue, TasksValue}
use Rattle.tw_model.specs.Places.{Places, has_uuid, uuid_at}
use Rattle.tw_numbers.specs.Numbering.{Rank, is_placed, is_open, is_unplaced, with_ranks, assigned, renewed}

-- no uuid has two places
abbrev pub IsOnce : Places → Type 0
IsOnce [] = Unit {0}
IsOnce (None ∷ places) = IsOnce places
IsOnce (Some u ∷ places) = (is_placed places u ≡ false) × IsOnce places

-- the uuids that have a place are those of the open tasks, and each has one
pub record IsAssignedIn (places : Places) (tasks : TasksValue) : Type 0 where
  pub same : (u : List ℕ) → is_placed places u ≡ is_open (get tasks u)
  pub once : IsOnce places

-- whether a place may come after others: it is vacant, or an open task has it that has none of the others
abbrev pub fits_behind : Places → TasksValue → Option (List ℕ) → Bool
fits_behind before tasks None = true
fits_behind before tasks (Some u) = not (is_placed before u) && is_open (get tasks u)

-- whether places may come after others, one after another
abbrev pub all_fit : Places → TasksValue → Places → Bool
all_fit before tasks [] = true
all_fit before tasks (place ∷ places) = fits_behind before tasks place && all_fit (before ++ place ∷ []) tasks places

-- whether a task has a place if it is open
abbrev pub has_its_place : Places → List ℕ × TaskValue → Bool
has_its_place places entry = not (is_open (Some entry.1)) || is_placed places entry.0

-- whether the places are assigned to the tasks, as it is tested
abbrev pub is_assigned : Places → TasksValue → Bool
is_assigned places tasks = all_fit [] tasks places && list_all (has_its_place places) (entries tasks)

once_prop : (places : Places) → IsProp (IsOnce places)
once_prop [] = Unit-prop
once_prop (None ∷ places) = once_prop places
once_prop (Some u ∷ places) = ×_prop (Coded-set coded_bool _ _) (once_prop places)

-- there is one proof of it at most
pub assigned_prop : (places : Places) (tasks : TasksValue) → IsProp (IsAssignedIn places tasks)
assigned_prop places tasks a b i = record { same = Π_prop (λ u. Coded-set coded_bool _ _) a.same b.same i; once = once_prop places a.once b.once i }

-- the map says of each uuid where its place is
pub record IsIndex (index : tree.BTreeMap (List ℕ) ℕ) (places : Places) : Type 0 where
  pub there : (u : List ℕ) (at : ℕ) → tree.get bytes_cmp index u ≡ Some at → uuid_at at places ≡ Some u
  pub found : (u : List ℕ) (at : ℕ) → uuid_at at places ≡ Some u → tree.get bytes_cmp index u ≡ Some at

-- whether a uuid is among those of a list
abbrev pub is_among : List (List ℕ) → List ℕ → Bool
is_among us u = list_any (eq_by_cmp bytes_cmp u) us

-- the places were assigned to these tasks, and those that have changed are among the uuids
pub record IsAssignedExcept (places : Places) (tasks : TasksValue) (us : List (List ℕ)) : Type 0 where
  pub before : TasksValue
  pub assigned : IsAssignedIn places before
  pub same : (u : List ℕ) → is_among us u ≡ false → get tasks u ≡ get before u

-- places that are ready for the tasks become those assigned to them
abbrev pub Assigns : (old new : Places) → TasksValue → List (List ℕ) → Type 0
Assigns old new tasks us = IsAssignedExcept old tasks us → new ≡ assigned old tasks

-- so they do, and are packed if they are renumbered
abbrev pub Renews : Bool → (old new : Places) → TasksValue → List (List ℕ) → Type 0
Renews renumber old new tasks us = IsAssignedExcept old tasks us → new ≡ renewed renumber old tasks

-- a place without this uuid
abbrev pub without : List ℕ → Option (List ℕ) → Option (List ℕ)
without u place = cond (has_uuid u place) None place

-- the places without that of a task that is not open
abbrev pub vacated : TasksValue → Places → List ℕ → Places
vacated tasks places u = cond (is_open (get tasks u)) places (map (without u) places)

-- the places without those of the tasks among these uuids that are not open
abbrev pub vacated_all : TasksValue → Places → List (List ℕ) → Places
vacated_all tasks places [] = places
vacated_all tasks places (u ∷ us) = vacated_all tasks (vacated tasks places u) us

-- a place without its task, if that is among these uuids and not open
abbrev pub left_place : TasksValue → List (List ℕ) → Option (List ℕ) → Option (List ℕ)
left_place tasks us None = None
left_place tasks us (Some u) = cond (is_among us u && not (is_open (get tasks u))) None (Some u)

-- of these uuids two databases have the same
abbrev pub AgreeAmong : List (List ℕ) → TasksValue → TasksValue → Type 0
AgreeAmong us a b = (u : List ℕ) → is_among us u ≡ true → get a u ≡ get b u

-- places become those assigned to all tasks that have this part of the uuids
abbrev pub AssignsByPart : (old new : Places) (part : TasksValue) → List (List ℕ) → Type 0
AssignsByPart old new part us = (tasks : TasksValue) → AgreeAmong us part tasks → Assigns old new tasks us

-- so they do, and are packed if they are renumbered
abbrev pub RenewsByPart : Bool → (old new : Places) (part : TasksValue) → List (List ℕ) → Type 0
RenewsByPart renumber old new part us = (tasks : TasksValue) → AgreeAmong us part tasks → Renews renumber old new tasks us

-- a map that says of the places so far where each is says so of one more
abbrev pub IndexesNext : (old new : tree.BTreeMap (List ℕ) ℕ) → Option (List ℕ) → ℕ → Type 0
IndexesNext old new place at = (head tail : Places) → IsIndex old head → at ≡ length head → IsOnce (head ++ place ∷ tail) → IsIndex new (head ++ place ∷ [])

-- among these uuids, a set gains those of which the test holds
abbrev pub GainsAmong : List (List ℕ) → (old new : set.BTreeSet (List ℕ)) → (List ℕ → Bool) → Type 0
GainsAmong us old new test = (u : List ℕ) → is_among us u ≡ true → set.contains bytes_cmp new u ≡ (set.contains bytes_cmp old u || test u)

-- a set knows of a uuid whether it has a place
abbrev pub KnowsPlaced : set.BTreeSet (List ℕ) → Places → List ℕ → Type 0
KnowsPlaced placed places u = set.contains bytes_cmp placed u ≡ is_placed places u

-- so it does of each of these uuids
abbrev pub KnowsPlacedAmong : List (List ℕ) → set.BTreeSet (List ℕ) → Places → Type 0
KnowsPlacedAmong us placed places = (u : List ℕ) → is_among us u ≡ true → KnowsPlaced placed places u

-- whether a task is open and has no place, by a set that knows of its uuid whether it has one
abbrev pub IsUnplacedBy : set.BTreeSet (List ℕ) → Option TaskValue → List ℕ → Bool → Type 0
IsUnplacedBy placed task u is = (places : Places) (tasks : TasksValue) → KnowsPlaced placed places u → task ≡ get tasks u → is ≡ is_unplaced places tasks u

-- the ranks of those of these uuids whose tasks are open and have no place, by a set that knows of each whether it has one
abbrev pub RanksUnplaced : List (List ℕ) → set.BTreeSet (List ℕ) → TasksValue → List Rank → Type 0
RanksUnplaced us placed tasks ranks = (places : Places) → KnowsPlacedAmong us placed places → ranks ≡ with_ranks places tasks [] us
