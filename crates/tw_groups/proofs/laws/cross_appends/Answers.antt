use Rattle.tw_groups.proofs.Grouping.{cross_appends}
use Rattle.tw_groups.proofs.laws.cross_appends.Goals as goal

pub returns : goal.returns
returns c = cross_appends
