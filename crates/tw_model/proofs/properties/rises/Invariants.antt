use Rattle.std.proofs.Common.{◌≡◌, ◌≤◌, ◌-◌, true, length, drop}
use Rattle.std.specs.FinMap as map
use Rattle.tw_model.specs.Maps.{bytes_cmp}
use Rattle.tw_model.proofs.properties.rises.Given as goal

abbrev pub invariant-loop-at : goal.invariant-loop-at
invariant-loop-at l = (l.at ≤ length l.pairs.items) × (map.is_sorted bytes_cmp (drop (l.at - 1) l.pairs.items) ≡ true)

abbrev pub decreases-loop-at : goal.decreases-loop-at
decreases-loop-at l = l.at
