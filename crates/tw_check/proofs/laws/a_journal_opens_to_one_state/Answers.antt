use Rattle.tw_check.proofs.OneState.{one_state}
use Rattle.tw_check.proofs.laws.a_journal_opens_to_one_state.Goals as goal

pub returns : goal.returns
returns c = one_state
