use Rattle.tw_recur.proofs.Once.{instances_are_changes}
use Rattle.tw_recur.proofs.laws.instances_are_changes.Goals as goal

pub returns : goal.returns
returns c = instances_are_changes
