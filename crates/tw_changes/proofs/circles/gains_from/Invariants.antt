-- what was gained so far, and what the operations that are left gain, is all
use Rattle.std.proofs.Common.{◌≡◌, ◌-◌, ◌++◌, drop, length}
use Rattle.tw_changes.specs.Circles.{gains}
use Rattle.tw_changes.proofs.circles.gains_from.Given as goal

abbrev pub invariant-loop-at : goal.invariant-loop-at
invariant-loop-at l = l.all.items ++ gains (drop l.at l.ops.items) ≡ gains (drop l.from l.ops.items)

abbrev pub decreases-loop-at : goal.decreases-loop-at
decreases-loop-at l = length l.ops.items - l.at
