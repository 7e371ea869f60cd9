use Rattle.tw_sync.proofs.Ends.{new_replica_agrees}
use Rattle.tw_sync.proofs.laws.a_new_replica_agrees.Goals as goal

pub returns : goal.returns
returns c = new_replica_agrees
