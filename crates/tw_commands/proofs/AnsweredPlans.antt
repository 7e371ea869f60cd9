-- A plan after answers: its step with them, also if there are none.
use Rattle.std.proofs.Common.{◌≡◌, ap, sym, refl, List, [], ◌∷◌, Result, Ok}
use Rattle.tw_model.specs.Ops.{TaskValue, TasksValue}
use Rattle.tw_commands.specs.Plan.{Plan, Work}
use Rattle.tw_commands.specs.Plan.Work.{Changes, TakeBack}
use Rattle.tw_commands.specs.Asks.{answered_all, answered_work, answered_with}
use Rattle.tw_changes.specs.declared.refusal.Refusal.{Refusal}

pub unanswered : (tasks : TasksValue) (work : Work) → answered_work [] tasks work ≡ work
unanswered tasks (Changes renumber changes marks) = refl
unanswered tasks TakeBack = refl

with_work : Plan → Work → Result Plan Refusal
with_work plan work = Ok (record { work = work; show = plan.show })

pub answered_is : (answers : List TaskValue) (tasks : TasksValue) (plan : Plan)
    → answered_with answers tasks (Ok plan) ≡ Ok (record { work = answered_work answers tasks plan.work; show = plan.show })
unfolding with_work
answered_is [] tasks plan = ap (with_work plan) (sym (unanswered tasks plan.work))
answered_is (answer ∷ answers) tasks plan = refl

-- there are no changes to answer
pub answered_none : (answers : List TaskValue) (tasks : TasksValue) → answered_all answers tasks [] ≡ []
answered_none [] tasks = refl
answered_none (answer ∷ answers) tasks = refl
