use Rattle.std.proofs.Common.{None, subst, sym}
use Rattle.std.specs.String.{string_bytes}
use Rattle.tw_files.specs.FolderFiles.{FilesStay}
use Rattle.tw_files.proofs.FolderFiles.{not_memory}
use Rattle.tw_files.proofs.file_folder.FileFolderFolder.names.Goals as goal

pub returns-in-Err-clause-only : goal.returns-in-Err-clause-only
returns-in-Err-clause-only g c = λ failed.
    not_memory _ (λ s. g.S.Folders.lists s (string_bytes c.args.self.now.path) None) c.in-Err.error _ _ c.refuse.ensures.system c.in-Err.ensures.failed (c.refuse.ensures.failed (cc)).0

pub returns-in-Err-clause-stay : goal.returns-in-Err-clause-stay
returns-in-Err-clause-stay g c = subst (λ s. FilesStay g.S.Folders.has g.S.Folders.lists c.args.self.now.system s) (sym c.refuse.ensures.system) c.sorted_names.ensures.stay
