-- `done` and `delete`: a task is completed or deleted.
use Rattle.std.specs.Prelude.{ℕ, List, None, codes}
use Rattle.std.specs.Fmt.{decimal}
use Rattle.std.specs.FinMap.{insert}
use Rattle.tw_world.specs.declared.Moment.{Moment}
use Rattle.tw_model.specs.Maps.{set_at}
use Rattle.tw_model.specs.Ops.{TaskValue}
use Rattle.tw_urgency.specs.Status.{status_of}
use Rattle.tw_urgency.specs.declared.status.Status.{Status}
use Rattle.tw_urgency.specs.declared.status.Status.TheVariants.{Pending, Waiting, Recurring}
use Rattle.tw_changes.specs.declared.effects.Effect.{Effect}
use Rattle.tw_changes.specs.declared.effects.Effect.TheVariants.{Nothing, Becomes}

-- a task that ends at this moment with a status
abbrev pub ended : Moment → List ℕ → TaskValue → TaskValue
ended now status task = insert (insert task (codes "end") (decimal now.seconds)) (codes "status") status

abbrev pub done_by : Moment → Status → TaskValue → Effect
done_by now Pending task = Becomes (ended now (codes "completed") (set_at task (codes "start") None))
done_by now Waiting task = Becomes (ended now (codes "completed") (set_at task (codes "start") None))
done_by now status task = Nothing

abbrev pub done : Moment → TaskValue → Effect
done now task = done_by now (status_of task now.seconds) task

abbrev pub delete_by : Moment → Status → TaskValue → Effect
delete_by now Pending task = Becomes (ended now (codes "deleted") task)
delete_by now Waiting task = Becomes (ended now (codes "deleted") task)
delete_by now Recurring task = Becomes (ended now (codes "deleted") task)
delete_by now status task = Nothing

abbrev pub delete : Moment → TaskValue → Effect
delete now task = delete_by now (status_of task now.seconds) task
