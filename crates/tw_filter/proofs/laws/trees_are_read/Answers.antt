use Rattle.tw_filter.proofs.ReadTrees.{trees_are_read}
use Rattle.tw_filter.proofs.laws.trees_are_read.Goals as goal

pub returns : goal.returns
returns c = trees_are_read
