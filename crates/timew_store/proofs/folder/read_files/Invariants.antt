use Rattle.timew_store.proofs.FilesRead.{AreReadTo}
use Rattle.timew_store.proofs.folder.read_files.Given as goal

abbrev pub invariant-loop-name : goal.invariant-loop-name
invariant-loop-name g l = AreReadTo g.F.Folder.model l.fn.folder l.folder l.name-items l.files.items l.name-index
