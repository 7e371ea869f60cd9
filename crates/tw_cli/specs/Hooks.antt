-- The hooks of a command: which tasks they were asked about, and what they answered.
use Rattle.std.specs.Prelude.{◌≡◌, ℕ, List, [], ◌++◌, Option, Some, None}
use Rattle.tw_text.specs.Columns.{cell_text}
use Rattle.tw_world.specs.Disk.{Rose}
use Rattle.tw_world.specs.declared.ids.IdWords.{IdWords}
use Rattle.tw_model.specs.Ops.{TaskValue}
use Rattle.tw_state.specs.State.{State}
use Rattle.tw_spawn.specs.Spawner.{Run, SpawnerModel, SpawnerKept, TellsRuns}
use Rattle.tw_hooks.specs.All.{AllHookedNow, AllRefused, Reached}
use Rattle.tw_hooks.specs.Answer.{answered}
use Rattle.tw_hooks.specs.Hooked.{Stopped}
use Rattle.tw_hooks.specs.Names.{told_hooks}
use Rattle.tw_hooks.specs.declared.all.Ask.{Ask}
use Rattle.tw_hooks.specs.declared.event.Event.{Event}
use Rattle.tw_hooks.specs.declared.error.HookError.{HookError}
use Rattle.tw_hooks.specs.declared.error.HookError.TheVariants.{Refused, Answer, Fault, Memory}
use Rattle.tw_commands.specs.Asks.{event_in}
use Rattle.tw_commands.specs.Carried.{asked_in}
use Rattle.tw_changes.specs.declared.request.Request.{Request}

-- an error with the name of its hook as a line shows it
abbrev pub celled : HookError → HookError
celled (Refused name status) = Refused (cell_text name) status
celled (Answer name) = Answer (cell_text name)
celled Fault = Fault
celled Memory = Memory

module _ {P : Type 0} (hooks : SpawnerModel P) (p0 p1 : P) (now : ℕ) where
  -- the hooks of an event answered these tasks. Without an event, or a task that they are asked about, what runs them is as it was
  abbrev pub HooksAnswer : Option Event → List Ask → (answers : List TaskValue) → Type 0
  HooksAnswer None asks answers = (p1 ≡ p0) × (answers ≡ [])
  HooksAnswer (Some event) asks answers = AllHookedNow event now hooks p0 p1 asks answers × (asks ≡ [] → p1 ≡ p0)

  -- they do not let the tasks become so, for this reason
  abbrev pub HooksRefuse : Option Event → List Ask → HookError → Type 0
  HooksRefuse None asks e = ⊥
  HooksRefuse (Some event) asks e = AllRefused event now hooks p0 p1 asks e

  -- whichever task and hook the last run of this call was for, it ended with 0 and answered that task
  abbrev pub LetsThrough : Event → List Ask → Type 0
  LetsThrough event asks = (runs : List Run) → hooks.runs p1 ≡ hooks.runs p0 ++ runs → (r : Reached event now (told_hooks event hooks p0) asks runs)
      → (name : List ℕ) (s : Stopped event r.ask.uuid now r.ask.before (told_hooks event hooks p0) r.own r.ask.after name)
      → (s.last.status ≡ 0) × (answered r.ask.uuid now s.last.output ≡ None → ⊥)

  -- a premise under which hooks answer, or memory runs out: what runs them tells its runs and does not fail, and they let the tasks through
  abbrev pub HooksCanAnswer : Option Event → List Ask → Type 0
  HooksCanAnswer None asks = Unit {0}
  HooksCanAnswer (Some event) asks = TellsRuns hooks p0 × (Rose (hooks.faults p0) (hooks.faults p1) → ⊥) × LetsThrough event asks

module _ {P : Type 0} (hooks : SpawnerModel P) (request : Request) (ids : IdWords) (p0 p1 : P) (state : State) where
  -- the hooks of a request answered these tasks
  abbrev pub Answered : List TaskValue → Type 0
  Answered answers = HooksAnswer hooks p0 p1 request.at.seconds (event_in request) (asked_in request ids state) answers

  -- they refuse, for this reason
  abbrev pub AnswersRefused : HookError → Type 0
  AnswersRefused e = HooksRefuse hooks p0 p1 request.at.seconds (event_in request) (asked_in request ids state) e

  -- a premise under which they answer, or memory runs out
  abbrev pub CanAnswer : Type 0
  CanAnswer = HooksCanAnswer hooks p0 p1 request.at.seconds (event_in request) (asked_in request ids state)

-- what a command keeps of what runs hooks: all of it, if none is asked about
pub record HooksKept {P : Type 0} (hooks : SpawnerModel P) (request : Request) (p0 p1 : P) : Type 0 where
  pub untouched : event_in request ≡ None → p1 ≡ p0
  pub kept : SpawnerKept hooks p0 p1
