use Rattle.std.proofs.Common.{◌≡◌, ◌++◌, drop}
use Rattle.std.specs.List.{flat_map}
use Rattle.timew_month.specs.Gathered.{files_of}
use Rattle.timew_month.specs.NamedFiles.{one_change}
use Rattle.timew_month.specs.MonthTexts.{texts_of}
use Rattle.timew_month.specs.Records.{changes_of}
use Rattle.timew_month.proofs.write.changes.changes_to.Given as goal

abbrev pub invariant-loop-name : goal.invariant-loop-name
invariant-loop-name l =
    changes_of l.changes.items ++ flat_map (one_change (files_of l.months.files.items) (texts_of l.texts.items)) (drop l.name-index l.name-items)
    ≡ flat_map (one_change (files_of l.months.files.items) (texts_of l.texts.items)) l.name-items
