use Rattle.tw_groups.proofs.Grouping.{cross_is_grid}
use Rattle.tw_groups.proofs.laws.cross_is_grid.Goals as goal

pub returns : goal.returns
returns c = cross_is_grid
