-- The tasks that hooks are asked about before a command is concluded, and what their answers make of its plan.
use Rattle.std.specs.Prelude.{ℕ, Bool, true, false, not, cond, List, [], ◌∷◌, ◌++◌, Option, Some, None, Result, Ok, Err, codes}
use Rattle.std.specs.FinMap.{get, empty}
use Rattle.tw_model.specs.Ops.{TaskValue, TasksValue}
use Rattle.tw_model.specs.LocalOps.{same_task}
use Rattle.tw_model.specs.declared.changes.Change.{Change}
use Rattle.tw_settings.specs.Switches.{is_set_on}
use Rattle.tw_words.specs.declared.command.Command.{Command}
use Rattle.tw_words.specs.declared.command.Command.TheVariants as command
use Rattle.tw_commands.specs.Plan.{Plan, Work}
use Rattle.tw_commands.specs.Plan.Work.{Changes, TakeBack}
use Rattle.tw_hooks.specs.declared.all.Ask.{Ask}
use Rattle.tw_hooks.specs.declared.event.Event.{Event}
use Rattle.tw_hooks.specs.declared.event.Event.TheVariants.{Add, Modify}
use Rattle.tw_changes.specs.declared.request.Request.{Request}
use Rattle.tw_changes.specs.declared.refusal.Refusal.{Refusal}

-- ---- which tasks

-- what a command does to the tasks that hooks are asked about; no others ask
abbrev pub event_of : Command → Option Event
event_of command.Add = Some Add
event_of command.Log = Some Add
event_of command.Duplicate = Some Add
event_of command.Modify = Some Modify
event_of command.Append = Some Modify
event_of command.Prepend = Some Modify
event_of command.Annotate = Some Modify
event_of command.Denotate = Some Modify
event_of command.Done = Some Modify
event_of command.Delete = Some Modify
event_of command.Start = Some Modify
event_of command.Stop = Some Modify
event_of _ = None

-- the same of a request, which asks nothing if the setting `hooks` is off
abbrev pub event_in : Request → Option Event
event_in request = cond (is_set_on (codes "hooks") request.settings) (event_of request.command) None

-- whether hooks are asked about a task: it is made, or becomes another
abbrev pub is_asked : (before after : Option TaskValue) → Bool
is_asked before None = false
is_asked None (Some after) = true
is_asked (Some before) (Some after) = not (same_task before after)

-- whether they are asked about a change of these tasks
abbrev pub is_asked_in : TasksValue → Change → Bool
is_asked_in tasks change = is_asked (get tasks change.uuid) change.task

abbrev pub or_empty : Option TaskValue → TaskValue
or_empty None = empty
or_empty (Some task) = task

-- what is asked about a change
abbrev pub ask_in : TasksValue → Change → Ask
ask_in tasks change = record { uuid = change.uuid; before = or_empty (get tasks change.uuid); after = or_empty change.task }

abbrev pub asks_on : TasksValue → Change → List Ask
asks_on tasks change = cond (is_asked_in tasks change) (ask_in tasks change ∷ []) []

-- what is asked about changes, in their order; marks of parents are asked about by nobody
abbrev pub asks_of : TasksValue → List Change → List Ask
asks_of tasks [] = []
asks_of tasks (change ∷ changes) = asks_on tasks change ++ asks_of tasks changes

abbrev pub asked_at : Option Event → TasksValue → Work → List Ask
asked_at None tasks work = []
asked_at (Some event) tasks (Changes renumber changes marks) = asks_of tasks changes
asked_at (Some event) tasks TakeBack = []

-- what a request asks about the step of its plan
abbrev pub asked_of : Request → TasksValue → Work → List Ask
asked_of request tasks work = asked_at (event_in request) tasks work

-- ---- what they answer

-- the changes, where the tasks that are asked about become these, in their order
abbrev pub answered_all : (answers : List TaskValue) → TasksValue → List Change → List Change
answered_all [] tasks changes = changes
answered_all (answer ∷ answers) tasks [] = []
answered_all (answer ∷ answers) tasks (change ∷ changes) =
    cond (is_asked_in tasks change) (record { uuid = change.uuid; task = Some answer } ∷ answered_all answers tasks changes)
    (change ∷ answered_all (answer ∷ answers) tasks changes)

-- the marks of parents stay
abbrev pub answered_work : (answers : List TaskValue) → TasksValue → Work → Work
answered_work answers tasks (Changes renumber changes marks) = Changes renumber (answered_all answers tasks changes) marks
answered_work answers tasks TakeBack = TakeBack

-- a plan, where the tasks that are asked about become these; without an answer it is as it was
abbrev pub answered_with : (answers : List TaskValue) → TasksValue → Result Plan Refusal → Result Plan Refusal
answered_with [] tasks planned = planned
answered_with (answer ∷ answers) tasks (Err refusal) = Err refusal
answered_with (answer ∷ answers) tasks (Ok plan) = Ok (record { work = answered_work (answer ∷ answers) tasks plan.work; show = plan.show })
