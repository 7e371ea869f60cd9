use Rattle.std.proofs.Common.{◌≡◌, drop}
use Rattle.timew_month.specs.Gathered.{files_of}
use Rattle.timew_month.specs.NamedFiles.{with_names, names_in}
use Rattle.timew_month.specs.MonthTexts.{texts_of}
use Rattle.timew_month.proofs.write.changes.all_names.Given as goal

abbrev pub invariant-loop-text : goal.invariant-loop-text
invariant-loop-text l = with_names (texts_of (drop l.text-index l.texts.items)) l.names.items ≡ with_names (texts_of l.texts.items) (names_in (files_of l.files.items))
