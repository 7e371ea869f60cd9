use Rattle.std.proofs.Common.{◌≡◌, ◌≤◌, ◌+◌, ◌-◌, length, drop}
use Rattle.tw_model.specs.LocalOps.{plain}
use Rattle.tw_sync.proofs.cursor.start.count_exchanged.Given as goal

abbrev pub invariant-loop-at : goal.invariant-loop-at
invariant-loop-at l = (l.count ≤ l.at) × (l.count + length (plain (drop l.at l.ops.items)) ≡ length (plain l.ops.items))

abbrev pub decreases-loop-at : goal.decreases-loop-at
decreases-loop-at l = length l.ops.items - l.at
