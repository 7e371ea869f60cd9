use Rattle.tw_outcome.proofs.Ends.{end_agrees}
use Rattle.tw_outcome.proofs.laws.end_agrees.Goals as goal

pub returns : goal.returns
returns c = end_agrees
