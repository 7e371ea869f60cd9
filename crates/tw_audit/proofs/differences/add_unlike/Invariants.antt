use Rattle.std.proofs.Common.{◌≡◌, ◌++◌}
use Rattle.std.specs.FinMap.{entries}
use Rattle.tw_model.specs.LocalOps.{same_task}
use Rattle.tw_audit.specs.Differences.{unlike}
use Rattle.tw_audit.proofs.differences.add_unlike.Given as goal

abbrev pub invariant-loop-uuid : goal.invariant-loop-uuid
invariant-loop-uuid l = record {
  left : l.uuids.items ++ unlike same_task l.others l.uuid-iterator ≡ l.fn.uuids.items ++ unlike same_task l.others (entries l.tasks);
}
