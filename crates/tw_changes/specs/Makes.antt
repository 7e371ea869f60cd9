-- The tasks that commands make of drawn uuids.
use Rattle.std.specs.Prelude.{ℕ, List, codes}
use Rattle.std.specs.Fmt.{decimal}
use Rattle.std.specs.FinMap.{insert}
use Rattle.tw_world.specs.declared.Moment.{Moment}
use Rattle.tw_model.specs.Ops.{TaskValue}
pub mod Add
pub mod Duplicate
pub mod Import

-- a task with a status, made at this moment
abbrev pub made_task : Moment → (status : List ℕ) → TaskValue → TaskValue
made_task now status task = insert (insert (insert task (codes "entry") (decimal now.seconds)) (codes "modified") (decimal now.seconds)) (codes "status") status
