use Rattle.std.proofs.Common.{◌≡◌, drop, map}
use Rattle.timew_month.specs.Gathered.{first_spot, spot_of}
use Rattle.timew_month.proofs.read.rows.first_spot.Given as goal

abbrev pub invariant-loop-at : goal.invariant-loop-at
invariant-loop-at l = first_spot l.at l.late (map spot_of (drop l.at l.spots.items)) ≡ first_spot 0 l.late (map spot_of l.spots.items)
