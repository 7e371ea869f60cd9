use Rattle.std.proofs.Common.{◌≡◌, ◌++◌, take, drop}
use Rattle.std.specs.List.{flat_map, AllByRecursion}
use Rattle.tw_bodies.specs.Body.{op_bytes, IsOp}
use Rattle.tw_bodies.proofs.op.put_ops.Given as goal

abbrev pub invariant-loop-op : goal.invariant-loop-op
invariant-loop-op l = (l.out.items ≡ l.fn.out.items ++ flat_map op_bytes (take l.op-index l.ops.items)) × (AllByRecursion IsOp (drop l.op-index l.ops.items) → AllByRecursion IsOp l.ops.items)
