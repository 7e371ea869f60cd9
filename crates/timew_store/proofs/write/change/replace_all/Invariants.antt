use Rattle.timew_month.specs.Records.{changes_of}
use Rattle.timew_store.specs.Held.{Replacing}
use Rattle.timew_store.proofs.write.change.replace_all.Given as goal

abbrev pub invariant-loop-file : goal.invariant-loop-file
invariant-loop-file g l = Replacing g.F.Folder.model (changes_of l.files.items) l.fn.folder l.folder l.file-index
