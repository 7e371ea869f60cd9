use Rattle.std.proofs.Common.{◌≡◌, ◌++◌}
use Rattle.std.specs.FinMap.{entries}
use Rattle.tw_audit.specs.Differences.{lacking}
use Rattle.tw_audit.proofs.differences.add_lacking.Given as goal

abbrev pub invariant-loop-uuid : goal.invariant-loop-uuid
invariant-loop-uuid l = record {
  left : l.uuids.items ++ lacking l.others l.uuid-iterator ≡ l.fn.uuids.items ++ lacking l.others (entries l.tasks);
}
