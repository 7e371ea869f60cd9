use Rattle.std.proofs.Common.{◌≡◌, ◌++◌, take}
use Rattle.tw_bodies.proofs.sync_ops.SyncOps.append.Given as goal

abbrev pub invariant-loop-op : goal.invariant-loop-op
invariant-loop-op l = l.self ≡ l.fn.self ++ take l.op-index l.ops.items
