use Rattle.std.proofs.Common.{◌≡◌, []}
use Rattle.tw_numbers.specs.Numbering.{with_ranks}
use Rattle.tw_numbers.specs.Assigned.{IsIndex, vacated_all}
use Rattle.tw_numbers.proofs.indexed.assign_in.Given as goal

abbrev pub invariant-loop-uuid : goal.invariant-loop-uuid
invariant-loop-uuid l = record {
  index : IsIndex l.index l.places.items;
  places : vacated_all l.tasks l.places.items l.uuid-iterator ≡ vacated_all l.tasks l.fn.places.items l.touched.keys;
  ranks : with_ranks l.places.items l.tasks l.ranks.keys l.uuid-iterator ≡ with_ranks l.fn.places.items l.tasks [] l.touched.keys;
}
