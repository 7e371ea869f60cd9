-- Changes of tasks: what becomes of the tasks of uuids, one after another.
use Rattle.std.specs.Prelude.{◌≡◌, ℕ, List, [], ◌∷◌, ◌++◌, Option, Some, None}
use Rattle.std.specs.FinMap.{get, empty}
use Rattle.tw_world.specs.declared.Moment.{Moment}
use Rattle.tw_model.specs.Maps.{set_at}
use Rattle.tw_model.specs.Ops.{TaskValue, TasksValue}
use Rattle.tw_model.specs.LocalOps.{apply_all_local, FitAllLocal}
use Rattle.tw_model.specs.Edits.{edits_of}
use Rattle.tw_model.specs.declared.operations.Op.{Op}
use Rattle.tw_model.specs.declared.operations.Op.TheVariants.{Create, Delete, UndoPoint}
use Rattle.tw_model.specs.declared.changes.Change.{Change}

-- the operations that lead from what a uuid has, a task or none, to what it is to have
abbrev pub change_ops : (u : List ℕ) (before after : Option TaskValue) → Moment → List Op
change_ops u None None at = []
change_ops u None (Some after) at = Create u ∷ edits_of u empty after at
change_ops u (Some before) None at = Delete u before ∷ []
change_ops u (Some before) (Some after) at = edits_of u before after at

-- the tasks once a change is made
abbrev pub changed : TasksValue → Change → TasksValue
changed tasks change = set_at tasks change.uuid change.task

-- the tasks once changes are made, one after another
abbrev pub changed_all : TasksValue → List Change → TasksValue
changed_all tasks [] = tasks
changed_all tasks (change ∷ changes) = changed_all (changed tasks change) changes

-- the operations of a change of these tasks
abbrev pub ops_of : TasksValue → Change → Moment → List Op
ops_of tasks change at = change_ops change.uuid (get tasks change.uuid) change.task at

-- the operations of changes, each of what those before it leave
abbrev pub ops_of_all : TasksValue → List Change → Moment → List Op
ops_of_all tasks [] at = []
ops_of_all tasks (change ∷ changes) at = ops_of tasks change at ++ ops_of_all (changed tasks change) changes at

-- operations after an undo point, if there are any
abbrev pub group_of : List Op → List Op
group_of [] = []
group_of (op ∷ ops) = UndoPoint ∷ op ∷ ops

-- the operations of changes fit, and lead to the tasks once the changes are made
abbrev pub ChangesLeadThere : Type 0
ChangesLeadThere = (tasks : TasksValue) (changes : List Change) (at : Moment)
    → FitAllLocal tasks (ops_of_all tasks changes at) × (apply_all_local tasks (ops_of_all tasks changes at) ≡ changed_all tasks changes)
