-- What active tasks make of intervals: an interval is kept open for the task that was started last.
use Rattle.std.specs.Prelude.{ℕ, Bool, cond, ◌&&◌, nat_lt, nat_le, max, List, [], ◌∷◌, ◌++◌, codes, fold, unwrap_or, Option, Some, None}
use Rattle.std.specs.List.{flat_map, list_any}
use Rattle.std.specs.FinMap.{get}
use Rattle.uuid.specs.Text.{hyphenated_text, lower}
use Rattle.tw_model.specs.Ops.{TaskValue, TasksValue}
use Rattle.tw_urgency.specs.Stored.{moment_at}
use Rattle.tw_urgency.specs.Dependencies.{uuid_in}
use Rattle.tw_world.specs.Folder.{same_bytes}
use Rattle.timew_interval.specs.declared.interval.Interval.{Interval}
use Rattle.timew_interval.specs.Placing.{spanning}
use Rattle.timew_bridge.specs.declared.active.Active.{Active}
use Rattle.timew_bridge.specs.Label.{label_of}
use Rattle.timew_bridge.specs.Active.{latest}

-- an interval that ends, or is dropped if it has no second before that
abbrev pub ended : (end : ℕ) → Interval → List Interval
ended end r = cond (nat_lt r.start end) (spanning r.start (Some end) r ∷ []) []

-- an open interval ends; a closed one, or one that has no end to get, stays
abbrev pub ended_if : Option ℕ → Interval → List Interval
ended_if None r = r ∷ []
ended_if (Some end) r = ended end r

-- ---- intervals of tasks that are active no more

-- when the task was changed, if that is after the start and not after now; else now
abbrev pub let_go_at : (start now : ℕ) → Option ℕ → ℕ
let_go_at start now None = now
let_go_at start now (Some modified) = cond (nat_lt start modified && nat_le modified now) modified now

-- when an interval ends whose task was not started or is not there
abbrev pub let_go_by : (start now : ℕ) → (modified started : Option ℕ) → Option ℕ
let_go_by start now modified None = Some (let_go_at start now modified)
let_go_by start now modified (Some started) = None

abbrev pub let_go_from : (start now : ℕ) → Option TaskValue → Option ℕ
let_go_from start now None = Some now
let_go_from start now (Some task) = let_go_by start now (moment_at (codes "modified") task) (moment_at (codes "start") task)

-- when an open interval with an annotation ends: one that names no task goes on
abbrev pub let_go : TasksValue → (now start : ℕ) → Option (List ℕ) → Option ℕ
let_go tasks now start None = None
let_go tasks now start (Some u) = let_go_from start now (get tasks u)

abbrev pub released_by : TasksValue → (now : ℕ) → Interval → Option ℕ → List Interval
released_by tasks now r None = ended_if (let_go tasks now r.start (uuid_in r.annotation)) r
released_by tasks now r (Some end) = r ∷ []

-- an interval, ended if it is open for a task that is active no more
abbrev pub released : TasksValue → (now : ℕ) → Interval → List Interval
released tasks now r = released_by tasks now r r.end

-- ---- the interval of the task that was started last

-- an interval of a task starts at a second or after it
abbrev pub is_tracked : (name : List ℕ) (start : ℕ) → List Interval → Bool
is_tracked name start rows = list_any (λ r. same_bytes r.annotation name && nat_le start r.start) rows

abbrev pub given_way_by : (start now : ℕ) → Interval → Option ℕ → List Interval
given_way_by start now r None = ended (cond (nat_lt r.start start) start now) r
given_way_by start now r (Some end) = r ∷ []

-- an open interval ends when the task starts, or now if it began then or later
abbrev pub given_way : (start now : ℕ) → Interval → List Interval
given_way start now r = given_way_by start now r r.end

-- a second, or the last end of the intervals if that is later
abbrev pub free_from : ℕ → List Interval → ℕ
free_from start rows = fold (λ at r. max at (unwrap_or r.end 0)) start rows

-- the open interval of a task
abbrev pub opened : TasksValue → (from : ℕ) → Active → Interval
opened tasks from a = record { start = from; end = None; tags = label_of (get tasks a.uuid); annotation = hyphenated_text lower a.uuid }

-- the task's interval begins after all others, unless that is still to come
abbrev pub with_opened : TasksValue → (now from : ℕ) → Active → List Interval → List Interval
with_opened tasks now from a rows = cond (nat_le from now) (rows ++ opened tasks from a ∷ []) rows

abbrev pub tracking : TasksValue → (now : ℕ) → Active → List Interval → List Interval
tracking tasks now a rows = with_opened tasks now (free_from a.start rows) a rows

abbrev pub followed : TasksValue → (now : ℕ) → Option Active → List Interval → List Interval
followed tasks now None rows = rows
followed tasks now (Some a) rows =
    cond (is_tracked (hyphenated_text lower a.uuid) a.start rows) rows (tracking tasks now a (flat_map (given_way a.start now) rows))

-- The intervals after tasks have driven them.
abbrev pub tracked : TasksValue → List Interval → (now : ℕ) → List Interval
tracked tasks rows now = followed tasks now (latest tasks now) (flat_map (released tasks now) rows)
