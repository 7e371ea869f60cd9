use Rattle.std.proofs.Common.{◌≡◌, ◌≤◌, ◌++◌, drop}
use Rattle.std.specs.FinMap.{entries}
use Rattle.tw_export.specs.Export.{in_order}
use Rattle.tw_export.specs.Owns.{owns_in, tokens_of}
use Rattle.tw_export.proofs.members.put_members.Given as goal

abbrev pub invariant-loop-n : goal.invariant-loop-n
invariant-loop-n l = record {
  few : l.next ≤ 5;
  written : l.writer.tokens ++ in_order l.subject.task.now l.second (owns_in l.subject l.next) (drop l.n (entries l.subject.task.now)) ≡ l.initial.writer.tokens ++ tokens_of l.subject l.second;
  before : l.writer.before ≡ l.initial.writer.before;
}
