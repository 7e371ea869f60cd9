use Rattle.std.proofs.Common.{◌≡◌, ◌+◌, ◌-◌, ◌≤◌, length, drop}
use Rattle.tw_path.specs.Lengths.{ops_len, max_sum}
use Rattle.tw_path.proofs.batch.sum_within.Given as goal

abbrev pub invariant-loop-at : goal.invariant-loop-at
invariant-loop-at l = (l.sum + ops_len (drop l.at l.ops.items) ≡ l.from + ops_len l.ops.items) × (l.sum ≤ max_sum)

abbrev pub decreases-loop-at : goal.decreases-loop-at
decreases-loop-at l = length l.ops.items - l.at
