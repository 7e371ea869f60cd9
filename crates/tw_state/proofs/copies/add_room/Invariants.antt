use Rattle.std.proofs.Common.{◌≡◌, drop}
use Rattle.tw_state.specs.Part.{taken_out, with_room}
use Rattle.tw_state.proofs.copies.add_room.Given as goal

abbrev pub invariant-loop-uuid : goal.invariant-loop-uuid
invariant-loop-uuid l = record {
  room : with_room (drop l.uuid-index l.fresh.items) l.tasks ≡ with_room l.fresh.items l.fn.tasks;
  others : taken_out l.fresh.items l.tasks ≡ taken_out l.fresh.items l.fn.tasks;
}
