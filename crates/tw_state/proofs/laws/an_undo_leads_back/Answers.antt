use Rattle.tw_state.proofs.Soundness.{undo_leads_back}
use Rattle.tw_state.proofs.laws.an_undo_leads_back.Goals as goal

pub returns : goal.returns
returns c = undo_leads_back
