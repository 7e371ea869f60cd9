use Rattle.std.proofs.Common.{◌≡◌, ◌++◌, map}
use Rattle.std.specs.List.{flat_map}
use Rattle.timew_bridge.specs.Active.{started, uuid_if, active_uuids, later, latest_of, latest}
use Rattle.timew_bridge.specs.Known.{known_of, all_known}
use Rattle.timew_bridge.proofs.drivers.asked_of.Given as goal

abbrev pub invariant-loop-uuid : goal.invariant-loop-uuid
invariant-loop-uuid l = record {
  known : l.known.items ++ map known_of l.uuid-iterator ≡ all_known l.tasks;
  started : l.uuids.items ++ flat_map (λ e. uuid_if (started l.now e)) l.uuid-iterator ≡ active_uuids l.tasks l.now;
  active : later l.active (latest_of l.now l.uuid-iterator) ≡ latest l.tasks l.now;
}
