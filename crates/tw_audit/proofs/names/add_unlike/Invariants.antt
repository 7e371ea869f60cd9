use Rattle.std.proofs.Common.{◌≡◌, ◌++◌, drop}
use Rattle.std.specs.FinMap.{entries}
use Rattle.tw_model.specs.Maps.{same_bytes}
use Rattle.tw_audit.specs.Differences.{unlike}
use Rattle.tw_audit.proofs.names.add_unlike.Given as goal

abbrev pub invariant-loop-n : goal.invariant-loop-n
invariant-loop-n l = record {
  left : l.names.items ++ unlike same_bytes l.other (drop l.n (entries l.task)) ≡ l.fn.names.items ++ unlike same_bytes l.other (entries l.task);
}
