use Rattle.tw_groups.proofs.Grouping.{renewed_is_of_groups}
use Rattle.tw_groups.proofs.laws.renewed_is_of_groups.Goals as goal

pub returns : goal.returns
returns c = renewed_is_of_groups
