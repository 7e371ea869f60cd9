use Rattle.std.proofs.Common.{◌≡◌, ◌++◌, drop}
use Rattle.std.specs.FinMap.{entries}
use Rattle.tw_audit.specs.Differences.{lacking}
use Rattle.tw_audit.proofs.names.add_lacking.Given as goal

abbrev pub invariant-loop-n : goal.invariant-loop-n
invariant-loop-n l = record {
  left : l.names.items ++ lacking l.other (drop l.n (entries l.task)) ≡ l.fn.names.items ++ lacking l.other (entries l.task);
}
