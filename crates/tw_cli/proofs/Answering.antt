-- What hooks answer, when they do not, and what a command comes to with their answers.
use Rattle.std.proofs.Common.{◌≡◌, ◌∙◌, inl, inr, refl, ap, sym, subst, ℕ, List, [], Option, Some, None, Result, Ok, Err}
use Rattle.std.proofs.lemmas.List.{append-nil}
use Rattle.tw_world.specs.declared.ids.IdWords.{IdWords}
use Rattle.tw_model.specs.Ops.{TaskValue, TasksValue}
use Rattle.tw_spawn.specs.Spawner.{SpawnerModel}
use Rattle.tw_state.specs.State.{State}
use Rattle.tw_replica.specs.Replica.{held_state}
use Rattle.tw_replica.specs.declared.replica.Replica.{Replica}
use Rattle.tw_hooks.specs.All.{AllHookedNow, AllRefused}
use Rattle.tw_hooks.specs.declared.all.Ask.{Ask}
use Rattle.tw_hooks.specs.declared.event.Event.{Event}
use Rattle.tw_hooks.specs.declared.error.HookError.{HookError}
use Rattle.tw_hooks.specs.declared.error.HookError.TheVariants.{Refused, Answer, Fault, Memory}
use Rattle.tw_commands.specs.Plan.{Plan as PlanValue, work_view, plan_view}
use Rattle.tw_commands.specs.Commands.{ids_after, plan_of}
use Rattle.tw_commands.specs.Asks.{event_in, asked_of, answered_with}
use Rattle.tw_commands.specs.Carried.{carried_by, carried_out, asked_by, asked_in}
use Rattle.tw_commands.specs.Ready.{IsReady, NotReady}
use Rattle.tw_commands.specs.declared.plan.Plan.{Plan}
use Rattle.tw_commands.specs.declared.ready.Ready.{Ready}
use Rattle.tw_changes.specs.declared.request.Request.{Request}
use Rattle.tw_changes.specs.declared.refusal.Refusal.{Refusal}
use Rattle.tw_cli.specs.Hooks.{HooksAnswer, HooksRefuse, HooksCanAnswer, Answered}
use Rattle.tw_cli.specs.Deciding.{IsShown, HaveBeenAsked, PlanAnswered, PlanRefused, DecidedBy, NotDecided, HasDrawn}
use Rattle.tw_cli.specs.declared.carry.CarryError.{CarryError}
use Rattle.tw_cli.specs.declared.carry.CarryError.TheVariants as carry

module _ {P : Type 0} (hooks : SpawnerModel P) (p0 p1 : P) (now : ℕ) where
  -- hooks that can answer refuse for want of memory alone
  pub refused_wants : (event : Option Event) (asks : List Ask) (e : HookError) → HooksCanAnswer hooks p0 p1 now event asks → HooksRefuse hooks p0 p1 now event asks e → e ≡ Memory
  refused_wants None asks e can why = absurd why
  refused_wants (Some event) asks (Refused name status) can why =
      let ran = why.1 can.0 in
      let good = can.2 ran.0 ran.1 ran.2.0 name ran.2.1.0 in
      absurd (why.0 (sym ran.2.1.1 ∙ good.0))
  refused_wants (Some event) asks (Answer name) can why =
      let ran = why.1 can.0 in
      let good = can.2 ran.0 ran.1 ran.2.0 name ran.2.1.0 in
      absurd (good.1 ran.2.1.2)
  refused_wants (Some event) asks Fault can why = absurd (can.1 why.0)
  refused_wants (Some event) asks Memory can why = refl

-- a request with an event is none without one
pub event_there : {P : Type 0} (request : Request) (event : Event) → event_in request ≡ Some event → (p0 p1 : P) → event_in request ≡ None → p1 ≡ p0
event_there request event there p0 p1 none = absurd (cc)

-- no task is asked about, and what runs hooks is as it was
none_answered : {P : Type 0} (hooks : SpawnerModel P) (p : P) (now : ℕ) (event : Option Event) → HooksAnswer hooks p p now event [] []
none_answered hooks p now None = (refl, refl)
none_answered hooks p now (Some event) = ((λ tells. ([], sym (append-nil (hooks.runs p)), refl)), λ none. refl)

module _ {P : Type 0} (hooks : SpawnerModel P) (request : Request) (p0 p1 : P) (tasks : TasksValue) (plan : Plan) where
  -- a request that asks about nothing
  pub plan_unasked : event_in request ≡ None → PlanAnswered hooks request p0 p0 tasks plan plan
  plan_unasked none = ([], subst (λ (o : Option Event). HooksAnswer hooks p0 p0 request.at.seconds o (asked_of request tasks (work_view plan.work)) []) (sym none) (refl, refl), refl)

  module _ (event : Event) (some : event_in request ≡ Some event) (asks : List Ask) (are : asks ≡ asked_of request tasks (work_view plan.work)) where
    -- hooks were run, and all answered
    module _ (answers : List TaskValue) (ran : AllHookedNow event request.at.seconds hooks p0 p1 asks answers) (none : asks ≡ [] → p1 ≡ p0) where
      pub plan_hooked : HooksAnswer hooks p0 p1 request.at.seconds (event_in request) (asked_of request tasks (work_view plan.work)) answers
      plan_hooked =
          subst (λ (o : Option Event). HooksAnswer hooks p0 p1 request.at.seconds o (asked_of request tasks (work_view plan.work)) answers) (sym some)
          (subst (λ (l : List Ask). HooksAnswer hooks p0 p1 request.at.seconds (Some event) l answers) are (ran, none))

      pub plan_asked : (made : Plan) → answered_with answers tasks (Ok (plan_view plan)) ≡ Ok (plan_view made) → PlanAnswered hooks request p0 p1 tasks plan made
      plan_asked made is = (answers, plan_hooked, is)

      pub plan_wants : PlanRefused hooks request p0 p1 tasks plan carry.Memory
      plan_wants = inr (inl (answers, plan_hooked))

    -- one of them refused
    module _ (e : HookError) (why : AllRefused event request.at.seconds hooks p0 p1 asks e) where
      refusal : HooksRefuse hooks p0 p1 request.at.seconds (event_in request) (asked_of request tasks (work_view plan.work)) e
      refusal =
          subst (λ (o : Option Event). HooksRefuse hooks p0 p1 request.at.seconds o (asked_of request tasks (work_view plan.work)) e) (sym some)
          (subst (λ (l : List Ask). HooksRefuse hooks p0 p1 request.at.seconds (Some event) l e) are why)

      pub plan_refused : (told : CarryError) → IsShown e told → PlanRefused hooks request p0 p1 tasks plan told
      plan_refused (carry.Hook shown) is = (e, refusal, is)
      plan_refused carry.Memory is = inr (inr (e, refusal))
      plan_refused (carry.Open x) is = absurd is
      plan_refused (carry.Input x) is = absurd is
      plan_refused (carry.Refused x) is = absurd is
      plan_refused (carry.TooLong bytes) is = absurd is
      plan_refused carry.Disk is = absurd is
      plan_refused (carry.Load x) is = absurd is
      plan_refused (carry.HoursTooLong bytes) is = absurd is
      plan_refused carry.Track is = absurd is

-- ---- a command, once its plan is made

-- all its identifiers are drawn, however it ends
pub drawn_all : (request : Request) (old new : IdWords) (state : State) (e : CarryError) → new ≡ ids_after request old state → HasDrawn request old new state e
drawn_all request old new state carry.Memory all = inr all
drawn_all request old new state _ all = all

module _ {P : Type 0} (hooks : SpawnerModel P) (request : Request) (ids : IdWords) (p0 p1 : P) (replica : Replica) where
  abbrev pub tasks_held : TasksValue
  tasks_held = (held_state replica).tasks

  -- there is no plan
  pub unplanned : (refusal : Refusal) → plan_of request ids (held_state replica) ≡ Err refusal → NotDecided hooks request ids p0 p0 replica (carry.Refused refusal)
  unplanned refusal is = (
    [],
    subst (λ (r : Result PlanValue Refusal). HooksAnswer hooks p0 p0 request.at.seconds (event_in request) (asked_by request (held_state replica) r) []) (sym is) (none_answered hooks p0 request.at.seconds (event_in request)),
    ap (carried_by request (held_state replica)) is,
  )

  module _ (plan : Plan) (is : plan_of request ids (held_state replica) ≡ Ok (plan_view plan)) where
    -- the hooks are asked about its tasks
    asked_are : asked_of request tasks_held (work_view plan.work) ≡ asked_in request ids (held_state replica)
    asked_are = sym (ap (asked_by request (held_state replica)) is)

    pub unhooked : (e : CarryError) → PlanRefused hooks request p0 p1 tasks_held plan e → NotDecided hooks request ids p0 p1 replica e
    unhooked (carry.Hook shown) why = (why.0, subst (λ (l : List Ask). HooksRefuse hooks p0 p1 request.at.seconds (event_in request) l why.0) asked_are why.1, why.2)
    unhooked carry.Memory (inl none) = inl none
    unhooked carry.Memory (inr asked) = inr (subst (HaveBeenAsked hooks request p0 p1) asked_are asked)
    unhooked (carry.Open x) why = absurd why
    unhooked (carry.Input x) why = absurd why
    unhooked (carry.Refused x) why = absurd why
    unhooked (carry.TooLong bytes) why = absurd why
    unhooked carry.Disk why = absurd why
    unhooked (carry.Load x) why = absurd why
    unhooked (carry.HoursTooLong bytes) why = absurd why
    unhooked carry.Track why = absurd why

    module _ (made : Plan) (answered : PlanAnswered hooks request p0 p1 tasks_held plan made) where
      answers_are : Answered hooks request ids p0 p1 (held_state replica) answered.0
      answers_are = subst (λ (l : List Ask). HooksAnswer hooks p0 p1 request.at.seconds (event_in request) l answered.0) asked_are answered.1

      comes : carried_out request ids answered.0 (held_state replica) ≡ carried_by request (held_state replica) (Ok (plan_view made))
      comes = ap (λ (r : Result PlanValue Refusal). carried_by request (held_state replica) (answered_with answered.0 tasks_held r)) is ∙ ap (carried_by request (held_state replica)) answered.2

      pub concluded_is : (ready : Ready) → IsReady request (plan_view made) replica ready → DecidedBy hooks request ids p0 p1 replica ready
      concluded_is ready r = record { answers = answered.0; answered = answers_are; decided = record { step = r.step; is = comes ∙ r.is; prepared = r.prepared } }

      pub not_concluded : (refusal : Refusal) → NotReady request (plan_view made) replica refusal → NotDecided hooks request ids p0 p1 replica (carry.Refused refusal)
      not_concluded refusal r = (answered.0, answers_are, comes ∙ r)

      pub conclusion_wants : NotDecided hooks request ids p0 p1 replica carry.Memory
      conclusion_wants = inr (inl (answered.0, answers_are))
