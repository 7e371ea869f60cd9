use Rattle.std.proofs.Common.{refl, sym, subst}
use Rattle.tw_files.specs.FolderFiles.{HasBytes}
use Rattle.tw_files.proofs.Overwriting.{written_whole}
use Rattle.tw_files.proofs.file_folder.new_file.Goals as goal

pub returns-clause-at : goal.returns-clause-at
returns-clause-at g c = c.stabilize.ensures.at _ (c.write_all_at.ensures.at _ (c.resize.ensures.at _ c.in_ok-file.ensures.at))

pub returns-clause-bytes : goal.returns-clause-bytes
returns-clause-bytes g c =
    subst (λ held. HasBytes held c.args.bytes.now) (sym c.stabilize.ensures.contents) (written_whole _ _ _ c.args.bytes.now c.in_ok-resize.ensures.resized (c.if-not-write_all_at.ensures.whole refl))
