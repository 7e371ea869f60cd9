use Rattle.std.proofs.Common.{◌≡◌}
use Rattle.timew_store.specs.History.{exchanged}
use Rattle.timew_month.specs.Records.{changes_of}
use Rattle.timew_store.proofs.undo.exchanged.Given as goal

abbrev pub invariant-loop-file : goal.invariant-loop-file
invariant-loop-file l = changes_of l.files.items ≡ exchanged (changes_of l.yielded)
