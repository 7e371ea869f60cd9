use Rattle.std.proofs.Common.{◌≡◌, ◌-◌, ◌≤◌, length, drop}
use Rattle.timew_interval.specs.Interval.{in_order}
use Rattle.timew_interval.proofs.interval.order.in_order.Given as goal

abbrev pub invariant-loop-at : goal.invariant-loop-at
invariant-loop-at l = (1 ≤ l.at) × (in_order (drop (l.at - 1) l.rows) ≡ in_order l.rows)

abbrev pub decreases-loop-at : goal.decreases-loop-at
decreases-loop-at l = length l.rows - l.at
