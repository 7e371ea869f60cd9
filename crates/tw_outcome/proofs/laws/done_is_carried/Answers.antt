use Rattle.tw_outcome.proofs.Ends.{done_is_carried}
use Rattle.tw_outcome.proofs.laws.done_is_carried.Goals as goal

pub returns : goal.returns
returns c = done_is_carried
