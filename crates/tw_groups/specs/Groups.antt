-- Pending operations in groups, one for each undo point, without the old values; and the pending operations that groups become on tasks.
use Rattle.std.specs.Prelude.{◌≡◌, ℕ, List, [], ◌∷◌, ◌++◌, Option, Some, None}
use Rattle.std.specs.FinMap.{get, empty}
use Rattle.tw_model.specs.Ops.{TaskValue, TasksValue, apply, apply_all, FitAll}
use Rattle.tw_model.specs.LocalOps.{synced, plain, FitAllLocal, apply_all_local}
use Rattle.tw_model.specs.declared.Op.{Op}
use Rattle.tw_model.specs.declared.Op.TheVariants.{Create, Delete, Update, UndoPoint}
use Rattle.tw_model.specs.declared.SyncOp.{SyncOp}
use Rattle.tw_model.specs.declared.SyncOp.TheVariants as sync

abbrev pub Groups : Type 0
Groups = List (List SyncOp)

-- the operations of all groups, one after another
abbrev pub joined : Groups → List SyncOp
joined [] = []
joined (g ∷ gs) = g ++ joined gs

-- ---- groups of pending operations

-- the operations before the first undo point, and the groups after each undo point
abbrev pub put_in_front : Option SyncOp → List SyncOp × Groups → List SyncOp × Groups
put_in_front None parts = ([], parts.0 ∷ parts.1)
put_in_front (Some op) parts = (op ∷ parts.0, parts.1)

abbrev pub parts_of : List Op → List SyncOp × Groups
parts_of [] = ([], [])
parts_of (op ∷ ops) = put_in_front (synced op) (parts_of ops)

-- the groups of pending operations that begin with an undo point
abbrev pub groups_of : List Op → Groups
groups_of pending = (parts_of pending).1

-- ---- pending operations of groups

-- the value of a property, if there is a task
abbrev pub value_in : List ℕ → Option TaskValue → Option (List ℕ)
value_in p None = None
value_in p (Some m) = get m p

-- the task, or one without properties
abbrev pub task_in : Option TaskValue → TaskValue
task_in None = empty
task_in (Some m) = m

-- an operation with the old value that it finds
abbrev pub with_old : TasksValue → SyncOp → Op
with_old tasks (sync.Create u) = Create u
with_old tasks (sync.Delete u) = Delete u (task_in (get tasks u))
with_old tasks (sync.Update u p v at) = Update u p (value_in p (get tasks u)) v at

abbrev pub renewed : TasksValue → List SyncOp → List Op
renewed tasks [] = []
renewed tasks (op ∷ ops) = with_old tasks op ∷ renewed (apply tasks op) ops

-- the pending operations that groups become on these tasks: an undo point before each group, and each operation with its old value
abbrev pub pending_on : TasksValue → Groups → List Op
pending_on tasks [] = []
pending_on tasks (g ∷ gs) = UndoPoint ∷ (renewed tasks g ++ pending_on (apply_all tasks g) gs)
