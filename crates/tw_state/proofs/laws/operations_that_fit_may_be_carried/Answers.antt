use Rattle.tw_state.proofs.Soundness.{fitting_may_be_carried}
use Rattle.tw_state.proofs.laws.operations_that_fit_may_be_carried.Goals as goal

pub returns : goal.returns
returns c = fitting_may_be_carried
