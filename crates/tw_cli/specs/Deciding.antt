-- What a command comes to in memory, with what its hooks answer.
use Rattle.std.specs.Prelude.{◌≡◌, ◌⊎◌, List, Ok}
use Rattle.tw_world.specs.declared.ids.IdWords.{IdWords}
use Rattle.tw_model.specs.Ops.{TaskValue, TasksValue}
use Rattle.tw_state.specs.State.{State}
use Rattle.tw_replica.specs.Replica.{held_state}
use Rattle.tw_replica.specs.declared.replica.Replica.{Replica}
use Rattle.tw_spawn.specs.Spawner.{SpawnerModel}
use Rattle.tw_hooks.specs.declared.all.Ask.{Ask}
use Rattle.tw_hooks.specs.declared.error.HookError.{HookError}
use Rattle.tw_commands.specs.Commands.{ids_after, MayHaveDrawn}
use Rattle.tw_commands.specs.Plan.{work_view, plan_view}
use Rattle.tw_commands.specs.Asks.{event_in, asked_of, answered_with}
use Rattle.tw_commands.specs.Carried.{asked_in}
use Rattle.tw_commands.specs.Ready.{IsDecided, DoesNothing}
use Rattle.tw_commands.specs.declared.plan.Plan.{Plan}
use Rattle.tw_commands.specs.declared.ready.Ready.{Ready}
use Rattle.tw_changes.specs.declared.request.Request.{Request}
use Rattle.tw_cli.specs.Hooks.{celled, HooksAnswer, HooksRefuse, Answered, AnswersRefused}
use Rattle.tw_cli.specs.declared.carry.CarryError.{CarryError}
use Rattle.tw_cli.specs.declared.carry.CarryError.TheVariants.{Refused, Hook, Memory}

-- hooks refused so: this is told of it, or memory ran out
abbrev pub IsShown : HookError → CarryError → Type 0
IsShown e (Hook shown) = shown ≡ celled e
IsShown e Memory = Unit {0}
IsShown e other = ⊥

-- hooks were asked about these tasks: they answered, or did not let them become so
abbrev pub HaveBeenAsked : {P : Type 0} → SpawnerModel P → Request → (p0 p1 : P) → List Ask → Type 0
HaveBeenAsked hooks request p0 p1 asks =
    ((answers : List TaskValue) × HooksAnswer hooks p0 p1 request.at.seconds (event_in request) asks answers)
    ⊎ ((e : HookError) × HooksRefuse hooks p0 p1 request.at.seconds (event_in request) asks e)

module _ {P : Type 0} (hooks : SpawnerModel P) (request : Request) (p0 p1 : P) (tasks : TasksValue) (plan : Plan) where
  -- hooks answered about a plan, and this is the plan with their answers
  abbrev pub PlanAnswered : Plan → Type 0
  PlanAnswered made = (answers : List TaskValue)
      × HooksAnswer hooks p0 p1 request.at.seconds (event_in request) (asked_of request tasks (work_view plan.work)) answers
      × (answered_with answers tasks (Ok (plan_view plan)) ≡ Ok (plan_view made))

  -- they did not let its tasks become so, or memory ran out
  abbrev pub PlanRefused : CarryError → Type 0
  PlanRefused (Hook shown) = (e : HookError)
      × HooksRefuse hooks p0 p1 request.at.seconds (event_in request) (asked_of request tasks (work_view plan.work)) e × (shown ≡ celled e)
  PlanRefused Memory = (p1 ≡ p0) ⊎ HaveBeenAsked hooks request p0 p1 (asked_of request tasks (work_view plan.work))
  PlanRefused other = ⊥

module _ {P : Type 0} (hooks : SpawnerModel P) (request : Request) (ids : IdWords) (p0 p1 : P) (replica : Replica) where
  -- what a command comes to, with what its hooks answered, is made in memory
  pub record DecidedBy (ready : Ready) : Type 0 where
    pub answers : List TaskValue
    pub answered : Answered hooks request ids p0 p1 (held_state replica) answers
    pub decided : IsDecided request ids answers replica ready

  -- why nothing is made
  abbrev pub NotDecided : CarryError → Type 0
  NotDecided (Refused refusal) = (answers : List TaskValue) × Answered hooks request ids p0 p1 (held_state replica) answers
      × DoesNothing request ids answers replica refusal
  NotDecided (Hook shown) = (e : HookError) × AnswersRefused hooks request ids p0 p1 (held_state replica) e × (shown ≡ celled e)
  NotDecided Memory = (p1 ≡ p0) ⊎ HaveBeenAsked hooks request p0 p1 (asked_in request ids (held_state replica))
  NotDecided other = ⊥

-- the identifiers after a command that is not decided on
abbrev pub HasDrawn : Request → (old new : IdWords) → State → CarryError → Type 0
HasDrawn request old new state Memory = MayHaveDrawn request old new state
HasDrawn request old new state other = new ≡ ids_after request old state
