use Rattle.std.proofs.Common.{◌≡◌, ◌++◌}
use Rattle.timew_interval.proofs.interval.texts.Texts.of_set.Given as goal

abbrev pub invariant-loop-text : goal.invariant-loop-text
invariant-loop-text l = l.texts ++ l.text-iterator ≡ l.initial.text-iterator
