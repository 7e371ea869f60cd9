use Rattle.timew_month.proofs.PutFiles.{ComesAfter}
use Rattle.timew_month.proofs.changed.index_of.Given as goal

abbrev pub invariant-loop-at : goal.invariant-loop-at
invariant-loop-at l = ComesAfter l.name l.files.items l.at
