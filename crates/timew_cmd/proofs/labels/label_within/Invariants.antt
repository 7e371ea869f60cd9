use Rattle.std.proofs.Common.{◌≡◌, ◌++◌, drop}
use Rattle.timew_cmd.specs.Labels.{each_of, with_label}
use Rattle.timew_cmd.proofs.labels.label_within.Given as goal

abbrev pub invariant-loop-k : goal.invariant-loop-k
invariant-loop-k l = l.out.items ++ each_of l.ids.given.now (with_label l.label) (drop l.k l.rows) ≡ each_of l.ids.given.now (with_label l.label) (drop l.at l.rows)
