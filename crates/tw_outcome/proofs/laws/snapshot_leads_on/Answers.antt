use Rattle.tw_outcome.proofs.Ends.{snapshot_leads_on}
use Rattle.tw_outcome.proofs.laws.snapshot_leads_on.Goals as goal

pub returns : goal.returns
returns c = snapshot_leads_on
