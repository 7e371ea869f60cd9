use Rattle.std.proofs.Common.{◌≡◌, ◌-◌, ◌≤◌, length, take, false}
use Rattle.tw_numbers.specs.Numbering.{is_placed}
use Rattle.tw_numbers.proofs.few.place_of.Given as goal

abbrev pub invariant-loop-at : goal.invariant-loop-at
invariant-loop-at l = (is_placed (take l.at l.places.items) l.uuid ≡ false) × (l.at ≤ length l.places.items)

abbrev pub decreases-loop-at : goal.decreases-loop-at
decreases-loop-at l = length l.places.items - l.at
