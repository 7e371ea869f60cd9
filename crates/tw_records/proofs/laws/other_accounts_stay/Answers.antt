use Rattle.tw_records.proofs.Demands.{other_accounts_stay}
use Rattle.tw_records.proofs.laws.other_accounts_stay.Goals as goal

pub returns : goal.returns
returns c = other_accounts_stay
