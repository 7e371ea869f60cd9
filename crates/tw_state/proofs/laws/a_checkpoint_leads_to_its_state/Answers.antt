use Rattle.tw_state.proofs.Soundness.{checkpoint_leads}
use Rattle.tw_state.proofs.laws.a_checkpoint_leads_to_its_state.Goals as goal

pub returns : goal.returns
returns c = checkpoint_leads
