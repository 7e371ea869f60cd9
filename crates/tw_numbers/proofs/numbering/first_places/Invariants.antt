use Rattle.std.proofs.Common.{◌≡◌, [], map}
use Rattle.std.specs.FinMap.{keys}
use Rattle.tw_numbers.specs.Numbering.{with_ranks}
use Rattle.tw_numbers.proofs.FirstPlaces.{AreFound, uuid_in}
use Rattle.tw_numbers.proofs.numbering.first_places.Given as goal

abbrev pub invariant-loop-uuid : goal.invariant-loop-uuid
invariant-loop-uuid l = (with_ranks [] l.tasks l.ranks.keys (map uuid_in l.uuid-iterator) ≡ with_ranks [] l.tasks [] (keys l.tasks)) × AreFound l.tasks l.uuid-iterator
