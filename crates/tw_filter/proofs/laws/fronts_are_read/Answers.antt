use Rattle.tw_filter.proofs.ReadFronts.{fronts_are_read}
use Rattle.tw_filter.proofs.laws.fronts_are_read.Goals as goal

pub returns : goal.returns
returns c = fronts_are_read
