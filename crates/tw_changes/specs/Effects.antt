-- What commands make of single tasks, and the changes that this comes to.
use Rattle.std.specs.Prelude.{ℕ, List, [], ◌∷◌, ◌++◌, Option, Some, None}
use Rattle.std.specs.FinMap.{get}
use Rattle.tw_world.specs.declared.Moment.{Moment}
use Rattle.tw_model.specs.Ops.{TaskValue, TasksValue}
use Rattle.tw_model.specs.declared.changes.Change.{Change}
use Rattle.tw_changes.specs.Stamps.{stamped}
use Rattle.tw_changes.specs.declared.effects.Effect.{Effect}
use Rattle.tw_changes.specs.declared.effects.Effect.TheVariants.{Nothing, Becomes, Removed}
pub mod Modify
pub mod Append
pub mod Annotate
pub mod Denotate
pub mod Done
pub mod Purge
pub mod Start

-- the change of a task that an effect is
abbrev pub change_by : Moment → List ℕ → TaskValue → Effect → List Change
change_by now u before Nothing = []
change_by now u before (Becomes after) = record { uuid = u; task = Some (stamped now before after) } ∷ []
change_by now u before Removed = record { uuid = u; task = None } ∷ []

-- the change of the task of a uuid, where the command acts on it
abbrev pub change_at : (TaskValue → Effect) → Moment → List ℕ → Option TaskValue → List Change
change_at effect now u None = []
change_at effect now u (Some task) = change_by now u task (effect task)

-- the changes of the tasks of these uuids on which the command acts
abbrev pub changes_by : (TaskValue → Effect) → Moment → TasksValue → List (List ℕ) → List Change
changes_by effect now tasks [] = []
changes_by effect now tasks (u ∷ us) = change_at effect now u (get tasks u) ++ changes_by effect now tasks us
