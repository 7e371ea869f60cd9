use Rattle.std.proofs.Common.{◌≡◌, take, map}
use Rattle.tw_numbers.specs.Assigned.{left_place}
use Rattle.tw_numbers.proofs.numbering.left_places.Given as goal

abbrev pub invariant-loop-place : goal.invariant-loop-place
invariant-loop-place l = l.places.items ≡ map (left_place l.tasks l.touched.keys) (take l.place-index l.numbers.items)
