use Rattle.tw_recur.proofs.Once.{instances_are_apart}
use Rattle.tw_recur.proofs.laws.instances_are_apart.Goals as goal

pub returns : goal.returns
returns c = instances_are_apart
