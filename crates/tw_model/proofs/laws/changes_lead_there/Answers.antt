use Rattle.tw_model.proofs.Leading.{changes_lead}
use Rattle.tw_model.proofs.laws.changes_lead_there.Goals as goal

pub returns : goal.returns
returns c = changes_lead
