use Rattle.tw_outcome.proofs.Ends.{stopped_starts_there}
use Rattle.tw_outcome.proofs.laws.stopped_starts_there.Goals as goal

pub returns : goal.returns
returns c = stopped_starts_there
