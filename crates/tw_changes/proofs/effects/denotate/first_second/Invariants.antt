-- what is left gives what all give
use Rattle.std.proofs.Common.{◌≡◌, drop}
use Rattle.std.specs.FinMap.{entries}
use Rattle.tw_changes.specs.Effects.Denotate.{first_among, first_second}
use Rattle.tw_changes.proofs.effects.denotate.first_second.Given as goal

abbrev pub invariant-loop-n : goal.invariant-loop-n
invariant-loop-n l = first_among l.whole l.text l.first (drop l.n (entries l.task)) ≡ first_second l.whole l.text l.task
