use Rattle.std.proofs.Common.{◌≡◌, ◌-◌, ◌≤◌, true, take, length}
use Rattle.std.specs.List.{list_all}
use Rattle.timew_interval.specs.Line.{is_bare}
use Rattle.timew_month.proofs.read.bare.tag_length.Given as goal

abbrev pub invariant-loop-at : goal.invariant-loop-at
invariant-loop-at l = (l.at ≤ length l.bytes) × (list_all is_bare (take l.at l.bytes) ≡ true)

abbrev pub decreases-loop-at : goal.decreases-loop-at
decreases-loop-at l = length l.bytes - l.at
