-- Laws of commands.
use Rattle.std.specs.Prelude.{◌≡◌, ◌⊎◌, ℕ, Bool, true, false, List, [], ◌∷◌, length, Option, Some, None, Ok, is_some, codes}
use Rattle.std.specs.List.{list_any}
use Rattle.std.specs.Fmt.{decimal}
use Rattle.std.specs.FinMap.{get}
use Rattle.tw_world.specs.declared.Moment.{Moment}
use Rattle.tw_world.specs.declared.ids.IdWords.{IdWords}
use Rattle.tw_model.specs.Maps.{same_bytes}
use Rattle.tw_model.specs.Ops.{TaskValue}
use Rattle.tw_model.specs.declared.Change.{Change}
use Rattle.tw_model.specs.declared.Op.{Op}
use Rattle.tw_bodies.specs.Body.Step.{Commit, Undo}
use Rattle.tw_state.specs.State.{State, applied}
use Rattle.tw_words.specs.declared.command.Command.{Command}
use Rattle.tw_words.specs.declared.command.Command.TheVariants as command
use Rattle.tw_commands.specs.Request.{selected_in}
use Rattle.tw_commands.specs.Plan.{Plan, step_in}
use Rattle.tw_commands.specs.Plan.Work.{Changes}
use Rattle.tw_commands.specs.Commands.{plan_of, editing}
use Rattle.tw_commands.specs.Asks.{answered_with}
use Rattle.tw_commands.specs.Carried.{Carried, with_text, concluded, asked_in, carried_out, shown_tasks}
use Rattle.tw_changes.specs.declared.marks.Mark.{Mark}
use Rattle.tw_commands.specs.declared.plan.Deed.{Deed}
use Rattle.tw_changes.specs.declared.request.Request.{Request}

-- a request comes to this, if hooks answer these tasks
abbrev pub IsCarriedOut : Request → IdWords → (answers : List TaskValue) → State → Carried → Type 0
IsCarriedOut request ids answers old carried = carried_out request ids answers old ≡ Ok carried

-- what a command comes to is its step, taken from the state before
abbrev pub CarriedIsApplied : Type 0
CarriedIsApplied = (request : Request) (ids : IdWords) (answers : List TaskValue) (old : State) (carried : Carried)
    → IsCarriedOut request ids answers old carried
    → applied old carried.step ≡ Some carried.new

-- a request is to do this, if hooks answer these tasks
abbrev pub IsPlanned : Request → IdWords → (answers : List TaskValue) → State → Plan → Type 0
IsPlanned request ids answers old plan = answered_with answers old.tasks (plan_of request ids old) ≡ Ok plan

-- a plan leads to a state, and is concluded there
abbrev pub IsConcluded : Request → IdWords → (answers : List TaskValue) → State → Plan → Type 0
IsConcluded request ids answers old plan =
    (new : State) × (carried_out request ids answers old ≡ with_text (step_in request.at old plan.work) new (concluded request plan.show old new))

-- a command that makes changes is carried out, unless they close a circle or a report has nothing to show: their operations fit, whatever they are
abbrev pub ChangesAreCarriedOut : Type 0
ChangesAreCarriedOut = (request : Request) (ids : IdWords) (answers : List TaskValue) (old : State) (plan : Plan)
    → (renumber : Bool) (changes : List Change) (marks : List Mark)
    → IsPlanned request ids answers old plan → plan.work ≡ Changes renumber changes marks → IsConcluded request ids answers old plan

-- ---- what a command leaves as it was

-- the value of a property, if the task is there
abbrev pub value_of : List ℕ → Option TaskValue → Option (List ℕ)
value_of p None = None
value_of p (Some task) = get task p

-- a task, or none, as it was but for its mask and the moment of its last change
pub record IsSameButMask (before after : Option TaskValue) : Type 0 where
  pub there : is_some after ≡ is_some before
  pub others : (p : List ℕ) → same_bytes p (codes "mask") ≡ false → same_bytes p (codes "modified") ≡ false → value_of p after ≡ value_of p before

-- ---- what hooks answer

-- hooks answer each task that they are shown as it is
abbrev pub AreAsShown : Request → IdWords → State → (answers : List TaskValue) → Type 0
AreAsShown request ids old answers = answers ≡ shown_tasks (asked_in request ids old)

-- such answers change nothing
abbrev pub AnswersAsShownChangeNothing : Type 0
AnswersAsShownChangeNothing = (request : Request) (ids : IdWords) (old : State) (answers : List TaskValue)
    → AreAsShown request ids old answers → carried_out request ids answers old ≡ carried_out request ids [] old

-- hooks answer one task for each that they are shown
abbrev pub AreAnswers : Request → IdWords → State → (answers : List TaskValue) → Type 0
AreAnswers request ids old answers = length answers ≡ length (asked_in request ids old)

-- ---- the tasks that a command acts on

-- a command that acts on the tasks that its filter selects leaves the others as they were, but for the masks of templates
abbrev pub OthersStay : Type 0
OthersStay = (request : Request) (ids : IdWords) (answers : List TaskValue) (old : State) (carried : Carried) (deed : Deed) (u : List ℕ)
    → IsCarriedOut request ids answers old carried → plan_of request ids old ≡ editing deed request old
    → list_any (same_bytes u) (selected_in request old) ≡ false → IsSameButMask (get old.tasks u) (get carried.new.tasks u)

-- a task, or none, as it was, or with the moment at which it changed
abbrev pub IsStamped : Moment → (before after : Option TaskValue) → Type 0
IsStamped now before None = Unit {0}
IsStamped now before (Some task) = (before ≡ Some task) ⊎ (get task (codes "modified") ≡ Some (decimal now.seconds))

-- a task that such a command changes has its moment
abbrev pub ChangesAreStamped : Type 0
ChangesAreStamped = (request : Request) (ids : IdWords) (answers : List TaskValue) (old : State) (carried : Carried) (deed : Deed) (u : List ℕ)
    → IsCarriedOut request ids answers old carried → AreAsShown request ids old answers → plan_of request ids old ≡ editing deed request old
    → IsStamped request.at (get old.tasks u) (get carried.new.tasks u)

-- ---- when `modified` moves

-- commands that have `modified` from elsewhere: `import` from its input, and `undo` from before
abbrev pub brings_moments : Command → Bool
brings_moments command.Import = true
brings_moments command.Undo = true
brings_moments _ = false

-- a task is as another, but for its `modified`
abbrev pub IsSameButModified : (before after : TaskValue) → Type 0
IsSameButModified before after = (p : List ℕ) → same_bytes p (codes "modified") ≡ false → get after p ≡ get before p

-- `modified` is the moment if another property differs, and if none does the task is as it was
pub record MovesExactly (now : Moment) (before after : TaskValue) : Type 0 where
  pub moved : (p : List ℕ) → same_bytes p (codes "modified") ≡ false → (get after p ≡ get before p → ⊥)
      → get after (codes "modified") ≡ Some (decimal now.seconds)
  pub still : IsSameButModified before after → after ≡ before

-- what any other command leaves of a task that was there
abbrev pub ModifiedMovesExactly : Type 0
ModifiedMovesExactly = (request : Request) (ids : IdWords) (answers : List TaskValue) (old : State) (carried : Carried) (u : List ℕ) (before after : TaskValue)
    → IsCarriedOut request ids answers old carried → AreAsShown request ids old answers → brings_moments request.command ≡ false → get old.tasks u ≡ Some before
    → get carried.new.tasks u ≡ Some after → MovesExactly request.at before after

-- ---- what an undo takes back

-- an undo leads from one state to the tasks of another, and to what was pending there; its numbers may be others
pub record LeadsBack (old new : State) : Type 0 where
  pub back : State
  pub is : applied new Undo ≡ Some back
  pub base : back.base ≡ old.base
  pub pending : back.pending ≡ old.pending
  pub tasks : back.tasks ≡ old.tasks

-- what a command wrote, an undo right after it takes back
abbrev pub UndoTakesBack : Type 0
UndoTakesBack = (request : Request) (ids : IdWords) (answers : List TaskValue) (old : State) (carried : Carried) (renumber : Bool) (op : Op) (ops : List Op)
    → IsCarriedOut request ids answers old carried → carried.step ≡ Commit renumber (op ∷ ops) → LeadsBack old carried.new
