use Rattle.std.proofs.Common.{◌≡◌, ◌++◌}
use Rattle.tw_state.specs.Part.{fresh_among}
use Rattle.tw_state.proofs.copies.fresh_among.Given as goal

abbrev pub invariant-loop-uuid : goal.invariant-loop-uuid
invariant-loop-uuid l = l.fresh.items ++ fresh_among l.part l.tasks l.uuid-iterator ≡ fresh_among l.part l.tasks l.touched.keys
