use Rattle.std.proofs.Common.{◌≡◌}
use Rattle.std.specs.List.Sorted.{IsStrictlySortedBy}
use Rattle.tw_model.specs.Maps.{bytes_cmp}
use Rattle.tw_state.specs.Part.{with_part, part_of, HasNone}
use Rattle.tw_state.proofs.copies.part_of.Given as goal

abbrev pub invariant-loop-uuid : goal.invariant-loop-uuid
invariant-loop-uuid l = record {
  copies : with_part l.uuid-iterator l.tasks l.part ≡ part_of l.touched.keys l.tasks;
  free : HasNone l.uuid-iterator l.part;
  ordered : IsStrictlySortedBy bytes_cmp l.uuid-iterator;
}
