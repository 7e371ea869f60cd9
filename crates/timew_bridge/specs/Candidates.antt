-- The tasks that may be active after a command: those that were active before it, and those that it named.
use Rattle.std.specs.Prelude.{◌≡◌, ℕ, Bool, false, cond, is_some, List, [], ◌∷◌, ◌++◌, Option, Some, None}
use Rattle.std.specs.FinMap.{get, empty}
use Rattle.std.specs.List.{list_any}
use Rattle.std.specs.Ordering.{eq_by_cmp}
use Rattle.tw_model.specs.Maps.{bytes_cmp, set_if_none}
use Rattle.tw_model.specs.Ops.{TaskValue, TasksValue}
use Rattle.timew_bridge.specs.Active.{started, active_uuids}

-- whether a uuid is one of these
abbrev pub is_among : List (List ℕ) → List ℕ → Bool
is_among us u = list_any (eq_by_cmp bytes_cmp u) us

-- each task that is of none of these uuids is as it was
abbrev pub ChangedAmong : List (List ℕ) → (old new : TasksValue) → Type 0
ChangedAmong us old new = (u : List ℕ) → is_among us u ≡ false → get new u ≡ get old u

-- the candidates: the tasks that were active before a command, and those that it named
abbrev pub candidates : (old : TasksValue) (now : ℕ) (named : List (List ℕ)) → List (List ℕ)
candidates old now named = active_uuids old now ++ named

abbrev pub if_active : (now : ℕ) → List ℕ → Option TaskValue → Option TaskValue
if_active now u None = None
if_active now u (Some task) = cond (is_some (started now (u, task))) (Some task) None

-- the task of a uuid, if it is active
abbrev pub active_at : TasksValue → (now : ℕ) → List ℕ → Option TaskValue
active_at tasks now u = if_active now u (get tasks u)

abbrev pub put_if : List ℕ → Option TaskValue → TasksValue → TasksValue
put_if u None part = part
put_if u (Some task) part = set_if_none part u task

-- others, with the active ones of these uuids
abbrev pub with_active : TasksValue → (now : ℕ) → List (List ℕ) → TasksValue → TasksValue
with_active tasks now [] part = part
with_active tasks now (u ∷ us) part = with_active tasks now us (put_if u (active_at tasks now u) part)

-- the active ones of these uuids
abbrev pub active_among : TasksValue → (now : ℕ) → List (List ℕ) → TasksValue
active_among tasks now us = with_active tasks now us empty
