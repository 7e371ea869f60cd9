use Rattle.std.proofs.Common.{◌≡◌, ◌-◌, ◌+◌, length, drop}
use Rattle.tw_model.specs.Places.{id_from}
use Rattle.tw_model.proofs.places.id_of.Given as goal

abbrev pub invariant-loop-at : goal.invariant-loop-at
invariant-loop-at l = id_from (l.at + 1) l.uuid (drop l.at l.numbers.items) ≡ id_from 1 l.uuid l.numbers.items

abbrev pub decreases-loop-at : goal.decreases-loop-at
decreases-loop-at l = length l.numbers.items - l.at
