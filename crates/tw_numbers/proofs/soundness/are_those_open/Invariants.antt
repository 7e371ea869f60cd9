use Rattle.std.proofs.Common.{◌≡◌, ◌≤◌, length, drop}
use lib.Pointwise.{pointwise}
use Rattle.std.specs.FinMap.{entries}
use Rattle.tw_model.specs.Maps.{same_bytes}
use Rattle.tw_numbers.specs.Placed.{open_uuids}
use Rattle.tw_numbers.proofs.soundness.are_those_open.Given as goal

abbrev pub invariant-loop-uuid : goal.invariant-loop-uuid
invariant-loop-uuid l = (pointwise same_bytes (drop l.at l.uuids.items) (open_uuids l.uuid-iterator) ≡ pointwise same_bytes l.uuids.items (open_uuids (entries l.tasks))) × (l.at ≤ length l.uuids.items)
