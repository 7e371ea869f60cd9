use Rattle.std.proofs.Common.{◌≡◌}
use Rattle.std.specs.List.Sorted.{IsStrictlySortedBy}
use Rattle.tw_model.specs.Maps.{bytes_cmp}
use Rattle.tw_state.specs.Part.{with_part, AgreeAmong, HasRoom}
use Rattle.tw_state.proofs.copies.take_part.Given as goal

abbrev pub invariant-loop-uuid : goal.invariant-loop-uuid
invariant-loop-uuid l = record {
  taken : with_part l.uuid-iterator l.fn.part l.tasks ≡ with_part l.touched.keys l.fn.part l.fn.tasks;
  left : AgreeAmong l.uuid-iterator l.part l.fn.part;
  room : HasRoom l.uuid-iterator l.fn.part l.tasks;
  ordered : IsStrictlySortedBy bytes_cmp l.uuid-iterator;
}
