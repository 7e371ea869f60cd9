-- What intervals ask of tasks, kept while the tasks change.
use Rattle.std.specs.Prelude.{◌≡◌, ℕ, cond, is_some, List, [], ◌∷◌, map, codes, Option, Some, None}
use Rattle.std.specs.FinMap.{get, entries}
use Rattle.uuid.specs.Text.{hyphenated_text, lower}
use Rattle.tw_model.specs.Maps.{same_bytes}
use Rattle.tw_model.specs.Ops.{TaskValue, TasksValue}
use Rattle.tw_urgency.specs.Stored.{moment_of, moment_at}
use Rattle.tw_urgency.specs.Dependencies.{uuid_in}
use Rattle.timew_interval.specs.declared.interval.Interval.{Interval}
use Rattle.timew_bridge.specs.declared.active.Active.{Active}
use Rattle.timew_bridge.specs.declared.known.Known.{Known}
use Rattle.timew_bridge.specs.declared.drivers.Drivers.{Drivers}
use Rattle.timew_bridge.specs.Label.{label_of}
use Rattle.timew_bridge.specs.Active.{latest, active_uuids}
use Rattle.timew_bridge.specs.Track.{ended_if, let_go_at}

-- of a task with this start: whether it was started, and the text of when it was changed
abbrev pub known_with : (uuid : List ℕ) → TaskValue → (start : Option ℕ) → Known
known_with u task start = record { uuid = u; is_started = is_some start; changed = get task (codes "modified") }

abbrev pub known_of : List ℕ × TaskValue → Known
known_of e = known_with e.0 e.1 (moment_at (codes "start") e.1)

-- of each task, in byte order of the uuids
abbrev pub all_known : TasksValue → List Known
all_known tasks = map known_of (entries tasks)

-- the label of the task that was started last
abbrev pub label_in : TasksValue → Option Active → List (List ℕ)
label_in tasks None = []
label_in tasks (Some a) = label_of (get tasks a.uuid)

-- all that intervals ask of tasks at a moment
pub record AreDrivers (tasks : TasksValue) (now : ℕ) (d : Drivers) : Type 0 where
  pub known : d.known.items ≡ all_known tasks
  pub started : d.started.items ≡ active_uuids tasks now
  pub active : d.active ≡ latest tasks now
  pub label : d.label ≡ label_in tasks d.active

-- ---- what is known says when an interval ends

abbrev pub find_known : (uuid : List ℕ) → List Known → Option Known
find_known u [] = None
find_known u (k ∷ ks) = cond (same_bytes u k.uuid) (Some k) (find_known u ks)

abbrev pub known_lets_go : (start now : ℕ) → Option Known → Option ℕ
known_lets_go start now None = Some now
known_lets_go start now (Some k) = cond k.is_started None (Some (let_go_at start now (moment_of k.changed)))

abbrev pub known_end : List Known → (now start : ℕ) → Option (List ℕ) → Option ℕ
known_end known now start None = None
known_end known now start (Some u) = known_lets_go start now (find_known u known)

abbrev pub known_by : List Known → (now : ℕ) → Interval → Option ℕ → List Interval
known_by known now r None = ended_if (known_end known now r.start (uuid_in r.annotation)) r
known_by known now r (Some end) = r ∷ []

-- an interval, ended if it is open for a task of which it is known to be active no more
abbrev pub released_known : List Known → (now : ℕ) → Interval → List Interval
released_known known now r = known_by known now r r.end

-- the open interval of a task with this label
abbrev pub opened_with : (label : List (List ℕ)) (from : ℕ) → Active → Interval
opened_with label from a = record { start = from; end = None; tags = label; annotation = hyphenated_text lower a.uuid }
