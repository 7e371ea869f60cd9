use Rattle.std.proofs.Common.{◌≡◌, ◌≤◌, ◌-◌, length, drop}
use Rattle.timew_interval.proofs.edit.same_at_the_end.Given as goal

abbrev pub invariant-loop-count : goal.invariant-loop-count
invariant-loop-count l = (l.count ≤ length l.rows) × (l.count ≤ length l.others) × (drop (length l.rows - l.count) l.rows ≡ drop (length l.others - l.count) l.others)

abbrev pub decreases-loop-count : goal.decreases-loop-count
decreases-loop-count l = length l.rows - l.count
