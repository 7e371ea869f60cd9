use Rattle.tw_groups.proofs.Cutting.{cut_splits}
use Rattle.tw_groups.proofs.laws.cut_splits.Goals as goal

pub returns : goal.returns
returns c = cut_splits
