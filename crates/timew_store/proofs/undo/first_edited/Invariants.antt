use Rattle.std.proofs.Common.{◌≡◌, drop}
use Rattle.timew_month.specs.Gathered.{files_of}
use Rattle.timew_month.specs.NamedFiles.{first_edited_in}
use Rattle.timew_month.specs.Records.{changes_of}
use Rattle.timew_store.proofs.undo.first_edited.Given as goal

abbrev pub invariant-loop-file : goal.invariant-loop-file
invariant-loop-file l = first_edited_in (files_of l.files.items) (changes_of (drop l.file-index l.change.items)) ≡ first_edited_in (files_of l.files.items) (changes_of l.change.items)
