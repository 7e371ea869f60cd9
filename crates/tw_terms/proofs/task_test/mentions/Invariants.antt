-- what is left gives what all give
use Rattle.std.proofs.Common.{◌≡◌, drop}
use Rattle.std.specs.List.{list_any}
use Rattle.std.specs.FinMap.{entries}
use Rattle.tw_terms.specs.Holds.{mentions}
use Rattle.tw_terms.proofs.task_test.mentions.Given as goal

abbrev pub invariant-loop-n : goal.invariant-loop-n
invariant-loop-n l = list_any (mentions l.value) (drop l.n (entries l.task)) ≡ list_any (mentions l.value) (entries l.task)
