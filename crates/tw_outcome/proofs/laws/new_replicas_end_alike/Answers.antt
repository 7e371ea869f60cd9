use Rattle.tw_outcome.proofs.Ends.{new_replicas_end_alike}
use Rattle.tw_outcome.proofs.laws.new_replicas_end_alike.Goals as goal

pub returns : goal.returns
returns c = new_replicas_end_alike
