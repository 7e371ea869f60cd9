use Rattle.tw_audit.proofs.First.{difference_is_first}
use Rattle.tw_audit.proofs.laws.the_task_is_the_first.Goals as goal

pub returns : goal.returns
returns c = difference_is_first
