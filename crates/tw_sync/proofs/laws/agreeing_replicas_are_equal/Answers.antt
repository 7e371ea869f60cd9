use Rattle.tw_sync.proofs.Folds.{agreeing_replicas_are_equal}
use Rattle.tw_sync.proofs.laws.agreeing_replicas_are_equal.Goals as goal

pub returns : goal.returns
returns c = agreeing_replicas_are_equal
