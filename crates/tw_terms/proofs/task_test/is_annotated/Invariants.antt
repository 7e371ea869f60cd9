-- what is left gives what all give
use Rattle.std.proofs.Common.{◌≡◌, drop}
use Rattle.std.specs.List.{list_any}
use Rattle.std.specs.FinMap.{keys}
use Rattle.tw_urgency.specs.Stored.{is_annotation}
use Rattle.tw_terms.proofs.task_test.is_annotated.Given as goal

abbrev pub invariant-loop-n : goal.invariant-loop-n
invariant-loop-n l = list_any is_annotation (drop l.n (keys l.task)) ≡ list_any is_annotation (keys l.task)
