use Rattle.tw_groups.proofs.Cutting.{cut_is_first}
use Rattle.tw_groups.proofs.laws.cut_is_first.Goals as goal

pub returns : goal.returns
returns c = cut_is_first
