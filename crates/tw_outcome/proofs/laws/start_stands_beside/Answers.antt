use Rattle.tw_outcome.proofs.Ends.{start_stands_beside}
use Rattle.tw_outcome.proofs.laws.start_stands_beside.Goals as goal

pub returns : goal.returns
returns c = start_stands_beside
