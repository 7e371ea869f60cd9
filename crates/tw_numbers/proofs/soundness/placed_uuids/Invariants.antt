use Rattle.std.proofs.Common.{◌≡◌, take}
use Rattle.tw_numbers.specs.Placed.{placed_uuids}
use Rattle.tw_numbers.proofs.soundness.placed_uuids.Given as goal

abbrev pub invariant-loop-place : goal.invariant-loop-place
invariant-loop-place l = l.uuids.items ≡ placed_uuids (take l.place-index l.places.items)
