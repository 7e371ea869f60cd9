-- Hooks that answer what they are shown change nothing.
use Rattle.std.proofs.Common.{◌≡◌, ◌∙◌, ap, refl, Bool, true, false, cond, List, [], ◌∷◌, ◌++◌, Option, Some, None, Result, Ok, Err}
use Rattle.std.specs.FinMap.{get}
use Rattle.tw_model.specs.Ops.{TaskValue, TasksValue}
use Rattle.tw_model.specs.declared.Change.{Change}
use Rattle.tw_hooks.specs.declared.event.Event.{Event}
use Rattle.tw_commands.specs.Plan.{Plan, Work}
use Rattle.tw_commands.specs.Plan.Work.{Changes, TakeBack}
use Rattle.tw_commands.specs.Commands.{plan_of}
use Rattle.tw_commands.specs.Asks.{event_in, is_asked, is_asked_in, or_empty, ask_in, asks_of, asked_at, answered_all, answered_work, answered_with}
use Rattle.tw_commands.specs.Carried.{carried_by, carried_out, asked_by, shown_tasks}
use Rattle.tw_commands.specs.Laws.{AnswersAsShownChangeNothing}
use Rattle.tw_changes.specs.declared.refusal.Refusal.{Refusal}
use Rattle.tw_commands.proofs.AnsweredPlans.{unanswered, answered_is}

-- a task that is asked about is there
shown_is : (before after : Option TaskValue) → is_asked before after ≡ true → Some (or_empty after) ≡ after
shown_is before None e = absurd cc
shown_is before (Some task) e = refl

-- a change that is not asked about stays
passed : (answers : List TaskValue) (tasks : TasksValue) (change : Change) (changes : List Change) → is_asked_in tasks change ≡ false
    → answered_all answers tasks (change ∷ changes) ≡ change ∷ answered_all answers tasks changes
passed [] tasks change changes e = refl
passed (answer ∷ answers) tasks change changes e =
    ap (λ t. cond t (record { uuid = change.uuid; task = Some answer } ∷ answered_all answers tasks changes) (change ∷ answered_all (answer ∷ answers) tasks changes)) e

all_as_shown : (tasks : TasksValue) (changes : List Change) → answered_all (shown_tasks (asks_of tasks changes)) tasks changes ≡ changes
all_as_shown tasks [] = refl
all_as_shown tasks (change ∷ changes) = by (is_asked_in tasks change) refl (all_as_shown tasks changes)
  where
    answers : List TaskValue
    answers = shown_tasks (asks_of tasks changes)

    by : (t : Bool) → is_asked_in tasks change ≡ t → answered_all (shown_tasks (asks_of tasks changes)) tasks changes ≡ changes
        → answered_all (shown_tasks (cond t (ask_in tasks change ∷ []) [] ++ asks_of tasks changes)) tasks (change ∷ changes) ≡ change ∷ changes
    by true e rest =
        let answer : TaskValue = or_empty change.task in
        ap (λ t. cond t (record { uuid = change.uuid; task = Some answer } ∷ answered_all answers tasks changes) (change ∷ answered_all (answer ∷ answers) tasks changes)) e
        ∙ (λ i. record { uuid = change.uuid; task = shown_is (get tasks change.uuid) change.task e i } ∷ rest i)
    by false e rest = passed answers tasks change changes e ∙ ap (λ (l : List Change). change ∷ l) rest

work_as_shown : (event : Option Event) (tasks : TasksValue) (work : Work) → answered_work (shown_tasks (asked_at event tasks work)) tasks work ≡ work
work_as_shown None tasks work = unanswered tasks work
work_as_shown (Some event) tasks (Changes renumber changes marks) = ap (λ (l : List Change). Changes renumber l marks) (all_as_shown tasks changes)
work_as_shown (Some event) tasks TakeBack = refl

pub as_shown : AnswersAsShownChangeNothing
as_shown request ids old answers are = ap (λ (l : List TaskValue). carried_out request ids l old) are ∙ ap (carried_by request old) (by (plan_of request ids old))
  where
    by : (planned : Result Plan Refusal) → answered_with (shown_tasks (asked_by request old planned)) old.tasks planned ≡ planned
    by (Err refusal) = refl
    by (Ok plan) =
        answered_is (shown_tasks (asked_by request old (Ok plan))) old.tasks plan
        ∙ ap (λ (w : Work). Ok (record { work = w; show = plan.show })) (work_as_shown (event_in request) old.tasks plan.work)
