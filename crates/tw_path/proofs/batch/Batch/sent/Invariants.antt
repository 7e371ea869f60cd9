use Rattle.std.proofs.Common.{◌≡◌, ◌≤◌, ◌-◌, length}
use Rattle.tw_path.proofs.Batching.{before}
use Rattle.tw_path.proofs.batch.Batch.sent.Given as goal

abbrev pub invariant-loop-at : goal.invariant-loop-at
invariant-loop-at l = (l.at ≤ l.whole) × (l.whole ≤ length l.left.items) × (l.ops.items ≡ before l.left.items l.at)

abbrev pub decreases-loop-at : goal.decreases-loop-at
decreases-loop-at l = l.whole - l.at
