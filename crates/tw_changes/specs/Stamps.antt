-- The moment of a change.
use Rattle.std.specs.Prelude.{cond, codes}
use Rattle.std.specs.Fmt.{decimal}
use Rattle.std.specs.FinMap.{insert}
use Rattle.tw_world.specs.declared.Moment.{Moment}
use Rattle.tw_model.specs.Ops.{TaskValue}
use Rattle.tw_model.specs.LocalOps.{same_task}

-- a task of which a property was changed at this moment, with that moment
abbrev pub stamped : Moment → (before after : TaskValue) → TaskValue
stamped now before after = cond (same_task before after) after (insert after (codes "modified") (decimal now.seconds))
