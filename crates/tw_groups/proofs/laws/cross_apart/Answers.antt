use Rattle.tw_groups.proofs.Grouping.{cross_apart}
use Rattle.tw_groups.proofs.laws.cross_apart.Goals as goal

pub returns : goal.returns
returns c = cross_apart
