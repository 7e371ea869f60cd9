use Rattle.std.proofs.Common.{◌≡◌}
use Rattle.timew_bridge.specs.Candidates.{with_active}
use Rattle.timew_bridge.proofs.candidates.put_all_named.Given as goal

abbrev pub invariant-loop-uuid : goal.invariant-loop-uuid
invariant-loop-uuid l = with_active l.tasks l.now l.uuid-iterator l.part ≡ with_active l.tasks l.now l.named.keys l.fn.part
