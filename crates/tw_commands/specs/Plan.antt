-- What a command is to do with a replica, and what it is to print.
use Rattle.std.specs.Prelude.{ℕ, Bool, List, ◌++◌, Result, Ok, Err}
use Rattle.tw_world.specs.declared.Moment.{Moment}
use Rattle.tw_model.specs.Changes.{changed_all, ops_of_all, group_of}
use Rattle.tw_model.specs.declared.changes.Change.{Change}
use Rattle.tw_model.specs.Places.{Places}
use Rattle.tw_report.specs.declared.report.Report.{Report as AnyReport}
use Rattle.tw_bodies.specs.Body.{Step}
use Rattle.tw_bodies.specs.Body.Step.{Commit, Undo}
use Rattle.tw_state.specs.State.{State}
use Rattle.tw_changes.specs.Marks.{mask_changes}
use Rattle.tw_changes.specs.declared.marks.Mark.{Mark}
use Rattle.tw_commands.specs.declared.plan.Deed.{Deed}
use Rattle.tw_commands.specs.declared.plan.Plan as code
use Rattle.tw_commands.specs.declared.plan.Work as code_work
use Rattle.tw_commands.specs.declared.plan.Work.TheVariants as work
use Rattle.tw_commands.specs.declared.plan.Show as code_show
use Rattle.tw_commands.specs.declared.plan.Show.TheVariants as show
use Rattle.tw_changes.specs.declared.refusal.Refusal.{Refusal}

-- the step of a command
pub data Work : Type 0 where
  -- changes are made, one after another, parents marked, and the numbers packed if that is asked
  Changes : (renumber : Bool) → List Change → List Mark → Work
  -- the last group is taken back
  TakeBack : Work

-- what is printed
pub data Show : Type 0 where
  -- on how many tasks it acted
  Counted : Deed → ℕ → Show
  -- the number of a task that was added, and whether it recurs
  Created : List ℕ → Show
  -- that a task was logged
  Logged : Show
  -- how many operations were taken back
  TakenBack : Show
  -- this text
  Text : List ℕ → Show
  -- a report, whose words name tasks by the numbers from before
  Report : AnyReport → Places → Show

pub record Plan : Type 0 where
  pub work : Work
  pub show : Show

-- the step, taken from this state at this moment
abbrev pub step_in : Moment → State → Work → Step
step_in now state (Changes renumber changes marks) =
    Commit renumber (group_of (ops_of_all state.tasks (changes ++ mask_changes now (changed_all state.tasks changes) marks) now))
step_in now state TakeBack = Undo

-- the same of what the code holds
abbrev pub work_view : code_work.Work → Work
work_view (work.Changes renumber changes marks) = Changes renumber changes.items marks.items
work_view work.TakeBack = TakeBack

abbrev pub show_view : code_show.Show → Show
show_view (show.Counted deed count) = Counted deed count
show_view (show.Created uuid) = Created uuid
show_view show.Logged = Logged
show_view show.TakenBack = TakenBack
show_view (show.Text text) = Text text.items
show_view (show.Report report numbers) = Report report numbers.items

abbrev pub plan_view : code.Plan → Plan
plan_view plan = record { work = work_view plan.work; show = show_view plan.show }

abbrev pub planned : Result code.Plan Refusal → Result Plan Refusal
planned (Ok plan) = Ok (plan_view plan)
planned (Err refusal) = Err refusal
