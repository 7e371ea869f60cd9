-- The numbers of open tasks: which place a task has, and where a new one goes.
use Rattle.std.specs.Prelude.{ℕ, Bool, false, not, cond, ◌&&◌, ◌||◌, nat_lt, List, [], ◌∷◌, ◌++◌, map, filter, is_some, Option, Some, None, codes}
use Rattle.std.specs.List.{list_any}
use Rattle.std.specs.FinMap.{get, keys}
use Rattle.std.specs.BTreeSet.{insert_key}
use Rattle.std.specs.declared.cmp.Ordering.{Ordering}
use Rattle.std.specs.Ordering.{nat_cmp, ordering_then}
use Rattle.tw_world.specs.declared.moment.TheConstants.{MOMENT_LIMIT}
use Rattle.tw_text.specs.Natural.{natural}
use Rattle.tw_model.specs.Maps.{bytes_cmp, same_bytes}
use Rattle.tw_model.specs.Ops.{TaskValue, TasksValue}
use Rattle.tw_model.specs.Places.{Places, has_uuid}

-- the number that is the second of a moment, or 0
abbrev pub second_or_zero : Option ℕ → ℕ
second_or_zero None = 0
second_or_zero (Some n) = cond (nat_lt n MOMENT_LIMIT) n 0

-- the second that a text holds. One that is missing or holds none counts as 0
abbrev pub second_of : Option (List ℕ) → ℕ
second_of None = 0
second_of (Some text) = second_or_zero (natural text)

abbrev pub is_open_status : Option (List ℕ) → Bool
is_open_status None = false
is_open_status (Some status) = same_bytes status (codes "pending") || same_bytes status (codes "recurring")

-- whether a task is there and open
abbrev pub is_open : Option TaskValue → Bool
is_open None = false
is_open (Some task) = is_open_status (get task (codes "status"))

-- a place without its task, if that is not open
abbrev pub kept_place : TasksValue → Option (List ℕ) → Option (List ℕ)
kept_place tasks None = None
kept_place tasks (Some u) = cond (is_open (get tasks u)) (Some u) None

abbrev pub is_placed : Places → List ℕ → Bool
is_placed places u = list_any (has_uuid u) places

abbrev pub second_at : List ℕ → Option TaskValue → ℕ
second_at property None = 0
second_at property (Some task) = second_of (get task property)

-- by which tasks are numbered: the seconds of entry and of due, and the uuid
abbrev pub Rank : Type 0
Rank = ℕ × ℕ × List ℕ

abbrev pub rank : TasksValue → List ℕ → Rank
rank tasks u = (second_at (codes "entry") (get tasks u), second_at (codes "due") (get tasks u), u)

abbrev pub rank_cmp : Rank → Rank → Ordering
rank_cmp a b = ordering_then (ordering_then (nat_cmp a.0 b.0) (nat_cmp a.1 b.1)) (bytes_cmp a.2 b.2)

-- whether a task is open and has no place
abbrev pub is_unplaced : Places → TasksValue → List ℕ → Bool
is_unplaced places tasks u = is_open (get tasks u) && not (is_placed places u)

-- the ranks with that of a uuid in its order, if its task is open and has no place
abbrev pub with_rank : Places → TasksValue → List Rank → List ℕ → List Rank
with_rank places tasks ranks u = cond (is_unplaced places tasks u) (insert_key rank_cmp ranks (rank tasks u)) ranks

abbrev pub with_ranks : Places → TasksValue → List Rank → List (List ℕ) → List Rank
with_ranks places tasks ranks [] = ranks
with_ranks places tasks ranks (u ∷ us) = with_ranks places tasks (with_rank places tasks ranks u) us

abbrev pub place_of : Rank → Option (List ℕ)
place_of r = Some r.2

-- the places of tasks that are not open become vacant, and open tasks without a place get one each after the others, in the order of their ranks
abbrev pub assigned : Places → TasksValue → Places
assigned places tasks = map (kept_place tasks) places ++ map place_of (with_ranks places tasks [] (keys tasks))

-- the places without the vacant ones
abbrev pub packed : Places → Places
packed places = filter is_some places

-- the places, without the vacant ones if they are renumbered
abbrev pub packed_if : Bool → Places → Places
packed_if renumber places = cond renumber (packed places) places

-- the places assigned anew to tasks, and packed if they are renumbered
abbrev pub renewed : Bool → Places → TasksValue → Places
renewed renumber places tasks = packed_if renumber (assigned places tasks)
