use Rattle.std.proofs.Common.{◌≡◌, ◌-◌, ◌++◌, length, drop}
use Rattle.tw_model.specs.Ops.{apply_all}
use Rattle.tw_groups.specs.Groups.{joined, pending_on}
use Rattle.tw_groups.specs.Held.{groups_in}
use Rattle.tw_groups.proofs.renewing.pending_on.Given as goal

abbrev pub invariant-loop-at : goal.invariant-loop-at
invariant-loop-at l = (l.ops.items ++ pending_on l.tasks (groups_in (drop l.at l.groups.items)) ≡ pending_on l.fn.tasks (groups_in l.groups.items)) × (apply_all l.tasks (joined (groups_in (drop l.at l.groups.items))) ≡ apply_all l.fn.tasks (joined (groups_in l.groups.items)))

abbrev pub decreases-loop-at : goal.decreases-loop-at
decreases-loop-at l = length l.groups.items - l.at
