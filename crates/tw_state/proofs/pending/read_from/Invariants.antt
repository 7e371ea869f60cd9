use Rattle.std.proofs.Common.{◌≡◌, ◌-◌, ◌++◌, length, drop}
use Rattle.tw_state.specs.Groups.{groups_in}
use Rattle.tw_state.proofs.pending.read_from.Given as goal

abbrev pub invariant-loop-at : goal.invariant-loop-at
invariant-loop-at l = l.ops.items ++ groups_in (drop l.at l.bodies.items) ≡ groups_in (drop l.from l.bodies.items)

abbrev pub decreases-loop-at : goal.decreases-loop-at
decreases-loop-at l = length l.bodies.items - l.at
