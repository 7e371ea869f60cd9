use Rattle.std.proofs.Common.{◌-◌, ◌≤◌, length, take}
use Rattle.tw_numbers.specs.Assigned.{IsIndex}
use Rattle.tw_numbers.proofs.indexed.index_of.Given as goal

abbrev pub invariant-loop-at : goal.invariant-loop-at
invariant-loop-at l = IsIndex l.index (take l.at l.places.items) × (l.at ≤ length l.places.items)

abbrev pub decreases-loop-at : goal.decreases-loop-at
decreases-loop-at l = length l.places.items - l.at
