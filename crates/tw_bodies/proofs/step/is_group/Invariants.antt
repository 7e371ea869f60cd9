use Rattle.std.proofs.Common.{◌≡◌, ◌-◌, length, drop}
use Rattle.tw_bodies.specs.Body.{is_group, has_no_point}
use Rattle.tw_bodies.proofs.step.is_group.Given as goal

abbrev pub invariant-loop-at : goal.invariant-loop-at
invariant-loop-at l = has_no_point (drop l.at l.ops.items) ≡ is_group l.ops.items

abbrev pub decreases-loop-at : goal.decreases-loop-at
decreases-loop-at l = length l.ops.items - l.at
