-- `start` and `stop`: a task that is pending or waiting is begun, or left.
use Rattle.std.specs.Prelude.{ℕ, List, Option, Some, None, codes}
use Rattle.std.specs.Fmt.{decimal}
use Rattle.std.specs.FinMap.{get, insert}
use Rattle.tw_world.specs.declared.Moment.{Moment}
use Rattle.tw_model.specs.Maps.{set_at}
use Rattle.tw_model.specs.Ops.{TaskValue}
use Rattle.tw_urgency.specs.Status.{status_of}
use Rattle.tw_urgency.specs.declared.status.Status.{Status}
use Rattle.tw_urgency.specs.declared.status.Status.TheVariants.{Pending, Waiting}
use Rattle.tw_changes.specs.declared.effects.Effect.{Effect}
use Rattle.tw_changes.specs.declared.effects.Effect.TheVariants.{Nothing, Becomes}

-- an effect on a task that is pending or waiting, and none on another
abbrev pub if_pending : Status → Effect → Effect
if_pending Pending effect = effect
if_pending Waiting effect = effect
if_pending status effect = Nothing

abbrev pub begun : Moment → TaskValue → Option (List ℕ) → Effect
begun now task None = Becomes (insert task (codes "start") (decimal now.seconds))
begun now task (Some second) = Nothing

abbrev pub start : Moment → TaskValue → Effect
start now task = if_pending (status_of task now.seconds) (begun now task (get task (codes "start")))

abbrev pub left : TaskValue → Option (List ℕ) → Effect
left task None = Nothing
left task (Some second) = Becomes (set_at task (codes "start") None)

abbrev pub stop : Moment → TaskValue → Effect
stop now task = if_pending (status_of task now.seconds) (left task (get task (codes "start")))
