use Rattle.std.proofs.Common.{◌≡◌, ◌≤◌, length, take}
use Rattle.tw_state.specs.Groups.{groups_in}
use Rattle.tw_state.proofs.pending.read_behind.Given as goal

abbrev pub invariant-loop-first : goal.invariant-loop-first
invariant-loop-first l = (l.at ≤ length l.bodies.items) × (l.first ≡ length (groups_in (take l.at l.bodies.items)))

abbrev pub decreases-loop-first : goal.decreases-loop-first
decreases-loop-first l = l.at
