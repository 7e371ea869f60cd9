use Rattle.std.proofs.Common.{inl}
use Rattle.tw_files.proofs.folders.RefHostRuntimeFolders.rename.Goals as goal

pub returns-clause-either : goal.returns-clause-either
returns-clause-either c = λ bytes there. inl tt
