-- What a command comes to, in a replica of some state: its step, the state after it, and its text, or why it does nothing.
use Rattle.std.specs.Prelude.{ℕ, cond, List, [], ◌∷◌, drop, length, Option, Some, None, Result, Ok, Err}
use Rattle.tw_world.specs.declared.ids.IdWords.{IdWords}
use Rattle.tw_model.specs.Ops.{TaskValue}
use Rattle.tw_bodies.specs.Body.{Step}
use Rattle.tw_state.specs.State.{State, applied}
use Rattle.tw_commands.specs.Plan.{Plan, Show, step_in}
use Rattle.tw_commands.specs.Commands.{plan_of}
use Rattle.tw_commands.specs.Asks.{asked_of, answered_with}
use Rattle.tw_commands.specs.Texts.{shown}
use Rattle.tw_hooks.specs.declared.all.Ask.{Ask}
use Rattle.tw_words.specs.declared.command.Command.{Command}
use Rattle.tw_changes.specs.Circles.{first_circle, is_judged}
use Rattle.tw_changes.specs.declared.request.Request.{Request}
use Rattle.tw_changes.specs.declared.refusal.Refusal.{Refusal}
use Rattle.tw_changes.specs.declared.refusal.Refusal.TheVariants.{NothingToUndo, Cycle}

pub record Carried : Type 0 where
  pub step : Step
  pub new : State
  pub text : List ℕ

-- the first circle that is closed by what a command put after what was pending, among the tasks after it
abbrev pub circle_in : Command → (old new : State) → Option (List ℕ)
circle_in command old new = cond (is_judged command) (first_circle new.tasks (drop (length old.pending) new.pending)) None

abbrev pub unless_circle : Option (List ℕ) → Result (List ℕ) Refusal → Result (List ℕ) Refusal
unless_circle None text = text
unless_circle (Some d) text = Err (Cycle d)

-- the text of a command whose step led from one state to another, or why it does nothing after all
abbrev pub concluded : Request → Show → (old new : State) → Result (List ℕ) Refusal
concluded request show old new = unless_circle (circle_in request.command old new) (shown request show old new)

abbrev pub with_text : Step → State → Result (List ℕ) Refusal → Result Carried Refusal
with_text step new (Err refusal) = Err refusal
with_text step new (Ok text) = Ok (record { step = step; new = new; text = text })

-- a step that leads nowhere takes back what is not there
abbrev pub then_concluded : Request → Plan → (old : State) → Step → Option State → Result Carried Refusal
then_concluded request plan old step None = Err NothingToUndo
then_concluded request plan old step (Some new) = with_text step new (concluded request plan.show old new)

abbrev pub carried_by : Request → (old : State) → Result Plan Refusal → Result Carried Refusal
carried_by request old (Err refusal) = Err refusal
carried_by request old (Ok plan) =
    then_concluded request plan old (step_in request.at old plan.work) (applied old (step_in request.at old plan.work))

abbrev pub asked_by : Request → (old : State) → Result Plan Refusal → List Ask
asked_by request old (Err refusal) = []
asked_by request old (Ok plan) = asked_of request old.tasks plan.work

-- what hooks are asked about
abbrev pub asked_in : Request → IdWords → State → List Ask
asked_in request ids old = asked_by request old (plan_of request ids old)

-- what a request comes to, by the uuids that are drawn for it and the tasks that hooks answer
abbrev pub carried_out : Request → IdWords → (answers : List TaskValue) → State → Result Carried Refusal
carried_out request ids answers old = carried_by request old (answered_with answers old.tasks (plan_of request ids old))

-- the tasks that hooks are shown, as they are to become
abbrev pub shown_tasks : List Ask → List TaskValue
shown_tasks [] = []
shown_tasks (ask ∷ asks) = ask.after ∷ shown_tasks asks
