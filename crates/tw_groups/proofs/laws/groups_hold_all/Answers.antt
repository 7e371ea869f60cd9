use Rattle.tw_groups.proofs.Grouping.{groups_hold_all}
use Rattle.tw_groups.proofs.laws.groups_hold_all.Goals as goal

pub returns : goal.returns
returns c = groups_hold_all
