-- `purge`: a deleted task is removed.
use Rattle.tw_world.specs.declared.Moment.{Moment}
use Rattle.tw_model.specs.Ops.{TaskValue}
use Rattle.tw_urgency.specs.Status.{status_of}
use Rattle.tw_urgency.specs.declared.status.Status.{Status}
use Rattle.tw_urgency.specs.declared.status.Status.TheVariants.{Deleted}
use Rattle.tw_changes.specs.declared.effects.Effect.{Effect}
use Rattle.tw_changes.specs.declared.effects.Effect.TheVariants.{Nothing, Removed}

abbrev pub purge_by : Status → Effect
purge_by Deleted = Removed
purge_by status = Nothing

abbrev pub purge : Moment → TaskValue → Effect
purge now task = purge_by (status_of task now.seconds)
