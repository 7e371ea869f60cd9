use Rattle.tw_audit.proofs.Differing.{equal_if, none_if}
use Rattle.tw_audit.proofs.laws.equal_tasks_differ_in_nothing.Goals as goal

pub returns : goal.returns
returns c = λ here there. (equal_if here there, none_if here there)
