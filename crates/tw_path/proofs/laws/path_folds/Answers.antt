use Rattle.tw_path.proofs.Versions.{path_folds}
use Rattle.tw_path.proofs.laws.path_folds.Goals as goal

pub returns : goal.returns
returns c = path_folds
