use Rattle.tw_outcome.proofs.Ends.{stopped_is_partly}
use Rattle.tw_outcome.proofs.laws.stopped_is_partly.Goals as goal

pub returns : goal.returns
returns c = stopped_is_partly
