use Rattle.std.proofs.Common.{◌≡◌, ◌++◌, take, drop}
use Rattle.std.specs.List.{flat_map, AllByRecursion}
use Rattle.tw_bodies.specs.Body.{sync_op_bytes, IsSyncOp}
use Rattle.tw_bodies.proofs.sync_op.put_sync_ops.Given as goal

abbrev pub invariant-loop-op : goal.invariant-loop-op
invariant-loop-op l = (l.out.items ≡ l.fn.out.items ++ flat_map sync_op_bytes (take l.op-index l.ops.items)) × (AllByRecursion IsSyncOp (drop l.op-index l.ops.items) → AllByRecursion IsSyncOp l.ops.items)
