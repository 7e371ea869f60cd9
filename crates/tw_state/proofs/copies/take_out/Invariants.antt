use Rattle.std.proofs.Common.{◌≡◌, drop}
use Rattle.tw_state.specs.Part.{taken_out}
use Rattle.tw_state.proofs.copies.take_out.Given as goal

abbrev pub invariant-loop-uuid : goal.invariant-loop-uuid
invariant-loop-uuid l = taken_out (drop l.uuid-index l.uuids.items) l.tasks ≡ taken_out l.uuids.items l.fn.tasks
