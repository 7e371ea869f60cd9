use Rattle.std.proofs.Common.{◌≡◌, ◌≤◌, ◌-◌, ◌++◌, length, take, drop, List}
use Rattle.tw_model.specs.declared.SyncOp.{SyncOp}
use Rattle.tw_groups.specs.Groups.{Groups}
use Rattle.tw_groups.specs.Cross.{cross}
use Rattle.tw_groups.specs.Held.{groups_in}
use Rattle.tw_groups.proofs.crossing.cross.Given as goal

abbrev pub invariant-loop-at : goal.invariant-loop-at
invariant-loop-at l = (l.at ≤ length l.groups.items) × (cross l.fn.server.items (groups_in l.fn.groups.items) ≡ (let rest = cross l.server.items (groups_in (drop l.at l.groups.items)) in (rest.0, groups_in (take l.at l.groups.items) ++ rest.1)))

abbrev pub decreases-loop-at : goal.decreases-loop-at
decreases-loop-at l = length l.groups.items - l.at
