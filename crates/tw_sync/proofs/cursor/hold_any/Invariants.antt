use Rattle.std.proofs.Common.{◌≡◌, ◌-◌, length, drop}
use Rattle.tw_groups.specs.Groups.{joined}
use Rattle.tw_groups.specs.Held.{groups_in}
use Rattle.tw_sync.proofs.cursor.hold_any.Given as goal

abbrev pub invariant-loop-at : goal.invariant-loop-at
invariant-loop-at l = joined (groups_in (drop l.at l.groups.items)) ≡ joined (groups_in l.groups.items)

abbrev pub decreases-loop-at : goal.decreases-loop-at
decreases-loop-at l = length l.groups.items - l.at
