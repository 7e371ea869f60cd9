use Rattle.std.proofs.Common.{◌≡◌, ◌-◌, ◌≤◌, length, take, drop}
use Rattle.tw_groups.specs.Cut.{cut_ops}
use Rattle.tw_path.specs.Path.{is_batch}
use Rattle.tw_path.specs.Lengths.{ops_len}
use Rattle.tw_path.proofs.batch.part_within.Given as goal

abbrev pub invariant-loop-at : goal.invariant-loop-at
invariant-loop-at l = (1 ≤ l.at) × (l.at ≤ length l.ops.items) × (l.sum ≡ ops_len (take l.at l.ops.items)) × (cut_ops is_batch (take 1 l.ops.items) (drop 1 l.ops.items) ≡ cut_ops is_batch (take l.at l.ops.items) (drop l.at l.ops.items))

abbrev pub decreases-loop-at : goal.decreases-loop-at
decreases-loop-at l = length l.ops.items - l.at
