use Rattle.tw_groups.proofs.Cutting.{cut_of_all}
use Rattle.tw_groups.proofs.laws.cut_of_all.Goals as goal

pub returns : goal.returns
returns c = cut_of_all
