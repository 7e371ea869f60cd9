use Rattle.tw_groups.proofs.Grouping.{renewed_goes_back}
use Rattle.tw_groups.proofs.laws.renewed_goes_back.Goals as goal

pub returns : goal.returns
returns c = renewed_goes_back
