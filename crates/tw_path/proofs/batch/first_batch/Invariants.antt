use Rattle.std.proofs.Common.{◌≡◌, ◌-◌, ◌≤◌, length, take, drop}
use Rattle.tw_groups.specs.Groups.{joined}
use Rattle.tw_groups.specs.Cut.{cut, cut_groups}
use Rattle.tw_groups.specs.Held.{groups_in}
use Rattle.tw_path.specs.Path.{is_batch}
use Rattle.tw_path.specs.Lengths.{ops_len, max_sum}
use Rattle.tw_path.proofs.batch.first_batch.Given as goal

abbrev pub invariant-loop-at : goal.invariant-loop-at
invariant-loop-at l = (l.sum ≤ max_sum) × (l.sum ≡ ops_len (joined (groups_in (take l.at l.left.items)))) × (cut is_batch (groups_in l.left.items) ≡ cut_groups is_batch (joined (groups_in (take l.at l.left.items))) (groups_in (drop l.at l.left.items)))

abbrev pub decreases-loop-at : goal.decreases-loop-at
decreases-loop-at l = length l.left.items - l.at
