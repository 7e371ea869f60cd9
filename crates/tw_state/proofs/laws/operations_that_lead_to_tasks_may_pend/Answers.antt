use Rattle.tw_state.proofs.Soundness.{leading_may_pend}
use Rattle.tw_state.proofs.laws.operations_that_lead_to_tasks_may_pend.Goals as goal

pub returns : goal.returns
returns c = leading_may_pend
