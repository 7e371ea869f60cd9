use Rattle.std.proofs.Common.{◌≡◌, ◌++◌, ◌-◌, ◌≤◌, length, drop, take}
use Rattle.timew_interval.specs.Placing.{inserted}
use Rattle.timew_cmd.proofs.placing.place_of.Given as goal

abbrev pub invariant-loop-at : goal.invariant-loop-at
invariant-loop-at l = (l.at ≤ length l.rows.items) × (take l.at l.rows.items ++ inserted l.new (drop l.at l.rows.items) ≡ inserted l.new l.rows.items)

abbrev pub decreases-loop-at : goal.decreases-loop-at
decreases-loop-at l = length l.rows.items - l.at
