-- The task that was started last.
use Rattle.std.specs.Prelude.{ℕ, cond, nat_lt, nat_le, List, [], ◌∷◌, codes, Option, Some, None}
use Rattle.std.specs.List.{flat_map}
use Rattle.std.specs.FinMap.{entries}
use Rattle.tw_model.specs.Ops.{TaskValue, TasksValue}
use Rattle.tw_urgency.specs.Status.{has_status}
use Rattle.tw_urgency.specs.Stored.{moment_at}
use Rattle.timew_bridge.specs.declared.active.Active.{Active}

abbrev pub started_from : (now : ℕ) → List ℕ → Option ℕ → Option Active
started_from now u None = None
started_from now u (Some start) = cond (nat_le start now) (Some (record { uuid = u; start = start })) None

-- a task that is pending or waiting and was started, now or before
abbrev pub started : (now : ℕ) → List ℕ × TaskValue → Option Active
started now e = cond (has_status (codes "pending") e.1) (started_from now e.0 (moment_at (codes "start") e.1)) None

-- of two, the one that was started later; the second one, if both were at once
abbrev pub later : Option Active → Option Active → Option Active
later a None = a
later None (Some b) = Some b
later (Some a) (Some b) = cond (nat_lt b.start a.start) (Some a) (Some b)

abbrev pub latest_of : (now : ℕ) → List (List ℕ × TaskValue) → Option Active
latest_of now [] = None
latest_of now (e ∷ es) = later (started now e) (latest_of now es)

-- the task that was started last; of those that were at once, the one with the greatest uuid
abbrev pub latest : TasksValue → (now : ℕ) → Option Active
latest tasks now = latest_of now (entries tasks)

abbrev pub uuid_if : Option Active → List (List ℕ)
uuid_if None = []
uuid_if (Some a) = a.uuid ∷ []

-- the uuids of the tasks that are active, in byte order
abbrev pub active_uuids : TasksValue → (now : ℕ) → List (List ℕ)
active_uuids tasks now = flat_map (λ e. uuid_if (started now e)) (entries tasks)
