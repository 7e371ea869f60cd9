-- The reports: task(1), under "reports".
use Rattle.std.specs.Prelude.{ℕ, Bool, true, false, cond, ◌&&◌, List, [], ◌∷◌, Option, Some, None, Result, Ok, Err, filter, is_none, codes}
use Rattle.std.specs.List.{list_any}
use Rattle.std.specs.FinMap.{get}
use Rattle.tw_model.specs.Ops.{TaskValue, TasksValue}
use Rattle.tw_model.specs.Places.{Places}
use Rattle.tw_state.specs.State.{State}
use Rattle.tw_terms.specs.Scenes.{Scene}
use Rattle.tw_filter.specs.Selected.{selected}
use Rattle.tw_urgency.specs.Dependencies.{is_blocked}
use Rattle.tw_urgency.specs.Status.{status_of}
use Rattle.tw_urgency.specs.declared.status.Status.{Status}
use Rattle.tw_urgency.specs.declared.status.Status.TheVariants as status
use Rattle.tw_model.specs.declared.changes.Change.{Change}
use Rattle.tw_recur.specs.Instances.{instance_changes}
use Rattle.tw_settings.specs.Switches.{is_set_on, recurrence_limit}
use Rattle.tw_settings.specs.Weights.{weights}
use Rattle.tw_report.specs.Sight.{Sight}
use Rattle.tw_report.specs.Texts.{report_text}
use Rattle.tw_report.specs.declared.report.Report.{Report as AnyReport}
use Rattle.tw_report.specs.declared.report.Report.TheVariants as report
use Rattle.tw_commands.specs.Plan.{Plan}
use Rattle.tw_commands.specs.Plan.Work.{Changes}
use Rattle.tw_commands.specs.Plan.Show.{Report}
use Rattle.tw_changes.specs.declared.request.Request.{Request}
use Rattle.tw_changes.specs.declared.refusal.Refusal.{Refusal}
use Rattle.tw_changes.specs.declared.refusal.Refusal.TheVariants.{NoMatch}

-- ---- which tasks a report shows

abbrev pub is_pending : Status → Bool
is_pending status.Pending = true
is_pending _ = false

abbrev pub is_completed : Status → Bool
is_completed status.Completed = true
is_completed _ = false

abbrev pub is_waiting : Status → Bool
is_waiting status.Waiting = true
is_waiting _ = false

-- whether a task belongs to a report, whatever its filter says
abbrev pub belongs : AnyReport → TasksValue → (now : ℕ) → TaskValue → Bool
belongs report.List tasks now task = is_pending (status_of task now)
belongs report.Next tasks now task = is_pending (status_of task now)
belongs report.All tasks now task = true
belongs report.Completed tasks now task = is_completed (status_of task now)
belongs report.Waiting tasks now task = is_waiting (status_of task now)
belongs report.Blocked tasks now task = is_blocked tasks task

abbrev pub is_row_there : AnyReport → TasksValue → (now : ℕ) → Option TaskValue → Bool
is_row_there report tasks now None = false
is_row_there report tasks now (Some task) = belongs report tasks now task

-- those of these tasks that belong to a report
abbrev pub rows_of : AnyReport → TasksValue → (now : ℕ) → List (List ℕ) → List (List ℕ)
rows_of report tasks now us = filter (λ u. is_row_there report tasks now (get tasks u)) us

-- ---- what a report is to do

-- whether a place is vacant
abbrev pub has_vacant : Places → Bool
has_vacant places = list_any is_none places

-- the instances that it makes, if that is on
abbrev pub instances_in : Request → State → List Change
instances_in request state =
    cond (is_set_on (codes "recurrence") request.settings)
    (instance_changes state.tasks request.at.seconds request.zone.now (recurrence_limit request.settings)) []

-- it makes instances, packs the numbers if that is on and a place is vacant, and knows the numbers from before
abbrev pub reporting : AnyReport → Request → State → Plan
reporting report request state = record {
  work = Changes (is_set_on (codes "gc") request.settings && has_vacant state.numbers) (instances_in request state) [];
  show = Report report state.numbers;
}

-- ---- what it prints

-- what texts look at in a replica of this state
abbrev pub sight_in : Request → State → Sight
sight_in request state = record {
  tasks = state.tasks;
  numbers = state.numbers;
  now = request.at.seconds;
  zone = request.zone.now;
  weights = weights request.settings;
}

-- its words name the tasks after its step by the numbers from before
abbrev pub scene_between : Request → Places → (new : State) → Scene
scene_between request before new = record { tasks = new.tasks; places = before; now = request.at.seconds; tz = request.zone.now }

-- a report of these tasks, which needs one
abbrev pub report_on : AnyReport → List (List ℕ) → Sight → Result (List ℕ) Refusal
report_on report [] sight = Err NoMatch
report_on report (u ∷ us) sight = Ok (report_text report (u ∷ us) sight)

-- what a report prints of the state after its step, by the numbers from before
abbrev pub reported : Request → AnyReport → Places → (new : State) → Result (List ℕ) Refusal
reported request report before new =
    report_on report (rows_of report new.tasks request.at.seconds (selected (scene_between request before new) request.filter)) (sight_in request new)
