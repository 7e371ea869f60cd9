use Rattle.std.proofs.Common.{subst, sym}
use Rattle.std.specs.String.{string_bytes}
use Rattle.tw_files.specs.FolderFiles.{ReplacesOne}
use Rattle.tw_files.proofs.file_folder.FileFolderFolder.replace.Goals as goal

pub returns-in-Err-clause-replaces : goal.returns-in-Err-clause-replaces
returns-in-Err-clause-replaces g c =
    subst (λ s. ReplacesOne g.S.Folders.has (string_bytes c.args.self.now.path) c.args.name.now c.args.bytes.now c.args.self.now.system s) (sym c.fail.ensures.system) c.put.ensures.replaces
