use Rattle.std.proofs.Common.{◌-◌}
use Rattle.tw_model.proofs.Sorted.{IsSearching}
use Rattle.tw_model.proofs.properties.property_place.Given as goal

abbrev pub invariant-loop-low : goal.invariant-loop-low
invariant-loop-low l = IsSearching l.entries.items l.property l.low l.high

abbrev pub decreases-loop-low : goal.decreases-loop-low
decreases-loop-low l = l.high - l.low
