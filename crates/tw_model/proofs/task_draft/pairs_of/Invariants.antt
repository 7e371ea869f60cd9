use Rattle.std.proofs.Common.{◌≡◌, ◌++◌}
use Rattle.tw_model.proofs.task_draft.pairs_of.Given as goal

abbrev pub invariant-loop-entry : goal.invariant-loop-entry
invariant-loop-entry l = l.pairs.items ++ l.entry-iterator ≡ l.fn.entries.entries
