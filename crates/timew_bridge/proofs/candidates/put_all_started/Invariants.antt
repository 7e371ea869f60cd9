use Rattle.std.proofs.Common.{◌≡◌, drop}
use Rattle.timew_bridge.specs.Candidates.{with_active}
use Rattle.timew_bridge.proofs.candidates.put_all_started.Given as goal

abbrev pub invariant-loop-uuid : goal.invariant-loop-uuid
invariant-loop-uuid l = with_active l.tasks l.now (drop l.uuid-index l.uuids) l.part ≡ with_active l.tasks l.now l.uuids l.fn.part
