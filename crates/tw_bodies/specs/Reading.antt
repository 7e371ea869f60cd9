-- Reading a body from left to right.
use Rattle.std.specs.Prelude.{ℕ, zero, suc, true, false, ◌&&◌, List, [], ◌∷◌, length, Option, Some, None, ◌==◌, if◌then◌else◌}
use Rattle.std.specs.Int.{w32}
use Rattle.std.specs.FinMap.{is_sorted, from_sorted}
use Rattle.tw_model.specs.Maps.{bytes_cmp}
use Rattle.tw_model.specs.Ops.{TaskValue, TasksValue}
use Rattle.tw_model.specs.Places.{Places}
use Rattle.tw_model.specs.declared.Op.{Op}
use Rattle.tw_model.specs.declared.Op.TheVariants.{Create, Delete, Update, UndoPoint}
use Rattle.tw_model.specs.declared.SyncOp.{SyncOp}
use Rattle.tw_model.specs.declared.SyncOp.TheVariants as sync
use Rattle.tw_bodies.specs.Body.{Step, is_group}
use Rattle.tw_bodies.specs.Body.Step.{Commit, Undo, Sync, Carried, Partial, Checkpoint}
use Rattle.tw_fields.specs.Reading.{◌>>=◌, number_at, text_at, option_at, moment_at, uuid_at, many_at, counted_at}

unfoldable pub pair_at : List ℕ → Option ((List ℕ × List ℕ) × List ℕ)
pair_at bytes = do
  key ← text_at bytes
  value ← text_at key.1
  Some ((key.0, value.0), value.1)

unfoldable pub task_at : List ℕ → Option (TaskValue × List ℕ)
task_at bytes = do
  n ← number_at w32 bytes
  pairs ← many_at pair_at n.0 n.1
  if is_sorted bytes_cmp pairs.0 then Some (from_sorted pairs.0, pairs.1) else None

unfoldable pub create_at : List ℕ → Option (Op × List ℕ)
create_at bytes = do
  u ← uuid_at bytes
  Some (Create u.0, u.1)

unfoldable pub delete_at : List ℕ → Option (Op × List ℕ)
delete_at bytes = do
  u ← uuid_at bytes
  before ← task_at u.1
  Some (Delete u.0 before.0, before.1)

unfoldable pub update_at : List ℕ → Option (Op × List ℕ)
update_at bytes = do
  u ← uuid_at bytes
  p ← text_at u.1
  before ← option_at p.1
  after ← option_at before.1
  at ← moment_at after.1
  Some (Update u.0 p.0 before.0 after.0 at.0, at.1)

unfoldable pub op_at : List ℕ → Option (Op × List ℕ)
op_at [] = None
op_at (zero ∷ rest) = None
op_at (suc zero ∷ rest) = create_at rest
op_at (suc (suc zero) ∷ rest) = delete_at rest
op_at (suc (suc (suc zero)) ∷ rest) = update_at rest
op_at (suc (suc (suc (suc zero))) ∷ rest) = Some (UndoPoint, rest)
op_at (suc (suc (suc (suc (suc b)))) ∷ rest) = None

-- the operations of a commit, which end with the bytes
unfoldable pub group_of : List ℕ → Option (List Op)
group_of bytes = do
  n ← number_at w32 bytes
  ops ← many_at op_at n.0 n.1
  if length ops.1 == 0 && is_group ops.0 then Some ops.0 else None

unfoldable pub commit_of : List ℕ → Option Step
commit_of [] = None
commit_of (zero ∷ rest) = do
  ops ← group_of rest
  Some (Commit false ops)
commit_of (suc zero ∷ rest) = do
  ops ← group_of rest
  Some (Commit true ops)
commit_of (suc (suc b) ∷ rest) = None

unfoldable pub sync_create_at : List ℕ → Option (SyncOp × List ℕ)
sync_create_at bytes = do
  u ← uuid_at bytes
  Some (sync.Create u.0, u.1)

unfoldable pub sync_delete_at : List ℕ → Option (SyncOp × List ℕ)
sync_delete_at bytes = do
  u ← uuid_at bytes
  Some (sync.Delete u.0, u.1)

unfoldable pub sync_update_at : List ℕ → Option (SyncOp × List ℕ)
sync_update_at bytes = do
  u ← uuid_at bytes
  p ← text_at u.1
  value ← option_at p.1
  at ← moment_at value.1
  Some (sync.Update u.0 p.0 value.0 at.0, at.1)

unfoldable pub sync_op_at : List ℕ → Option (SyncOp × List ℕ)
sync_op_at [] = None
sync_op_at (zero ∷ rest) = None
sync_op_at (suc zero ∷ rest) = sync_create_at rest
sync_op_at (suc (suc zero) ∷ rest) = sync_delete_at rest
sync_op_at (suc (suc (suc zero)) ∷ rest) = sync_update_at rest
sync_op_at (suc (suc (suc (suc b))) ∷ rest) = None

-- a sync that leads to this version, by so many operations, which end with the bytes
abbrev pub sync_in : (base : List ℕ) (count : ℕ) (bytes : List ℕ) → Option Step
sync_in base count bytes = do
  ops ← many_at sync_op_at count bytes
  if length ops.1 == 0 then Some (Sync base ops.0) else None

-- the version and the operations of a sync
unfoldable pub sync_of : List ℕ → Option Step
sync_of bytes = do
  base ← uuid_at bytes
  n ← number_at w32 base.1
  sync_in base.0 n.0 n.1

-- a sync in place that leads to this version, by so many operations, which end with the bytes
abbrev pub carried_in : (base : List ℕ) (count : ℕ) (bytes : List ℕ) → Option Step
carried_in base count bytes = do
  ops ← many_at sync_op_at count bytes
  if length ops.1 == 0 then Some (Carried base ops.0) else None

-- the version and the operations of a sync in place
unfoldable pub carried_of : List ℕ → Option Step
carried_of bytes = do
  base ← uuid_at bytes
  n ← number_at w32 base.1
  carried_in base.0 n.0 n.1

-- operations after their number, which end with the bytes
unfoldable pub all_ops_of : List ℕ → Option (List Op)
all_ops_of bytes = do
  ops ← counted_at op_at bytes
  if length ops.1 == 0 then Some ops.0 else None

-- a sync that was cut short at this version, with so many operations, and what is pending after them
abbrev pub partial_in : (base : List ℕ) (count : ℕ) (bytes : List ℕ) → Option Step
partial_in base count bytes = do
  ops ← many_at sync_op_at count bytes
  pending ← all_ops_of ops.1
  Some (Partial base ops.0 pending)

-- the version, the operations and what is pending of a sync that was cut short
unfoldable pub partial_of : List ℕ → Option Step
partial_of bytes = do
  base ← uuid_at bytes
  n ← number_at w32 base.1
  partial_in base.0 n.0 n.1

unfoldable pub place_at : List ℕ → Option (Option (List ℕ) × List ℕ)
place_at [] = None
place_at (zero ∷ rest) = Some (None, rest)
place_at (suc zero ∷ rest) = do
  u ← uuid_at rest
  Some (Some u.0, u.1)
place_at (suc (suc b) ∷ rest) = None

unfoldable pub entry_at : List ℕ → Option ((List ℕ × TaskValue) × List ℕ)
entry_at bytes = do
  u ← uuid_at bytes
  task ← task_at u.1
  Some ((u.0, task.0), task.1)

unfoldable pub tasks_at : List ℕ → Option (TasksValue × List ℕ)
tasks_at bytes = do
  all ← counted_at entry_at bytes
  if is_sorted bytes_cmp all.0 then Some (from_sorted all.0, all.1) else None

-- a whole state with these tasks, on which so many operations are pending, which end with the bytes
abbrev pub checkpoint_in : (base : List ℕ) (places : Places) (tasks : TasksValue) (count : ℕ) (bytes : List ℕ) → Option Step
checkpoint_in base places tasks count bytes = do
  ops ← many_at op_at count bytes
  if length ops.1 == 0 then Some (Checkpoint base places tasks ops.0) else None

-- the version, the places, the tasks and the pending operations of a whole state
unfoldable pub checkpoint_of : List ℕ → Option Step
checkpoint_of bytes = do
  base ← uuid_at bytes
  places ← counted_at place_at base.1
  tasks ← tasks_at places.1
  n ← number_at w32 tasks.1
  checkpoint_in base.0 places.0 tasks.0 n.0 n.1

-- the step that a body holds, all of it
unfoldable pub step_of : List ℕ → Option Step
step_of [] = None
step_of (zero ∷ rest) = None
step_of (suc zero ∷ rest) = commit_of rest
step_of (suc (suc zero) ∷ rest) = if length rest == 0 then Some Undo else None
step_of (suc (suc (suc zero)) ∷ rest) = sync_of rest
step_of (suc (suc (suc (suc zero))) ∷ rest) = carried_of rest
step_of (suc (suc (suc (suc (suc zero)))) ∷ rest) = checkpoint_of rest
step_of (suc (suc (suc (suc (suc (suc zero))))) ∷ rest) = partial_of rest
step_of (suc (suc (suc (suc (suc (suc (suc b)))))) ∷ rest) = None
