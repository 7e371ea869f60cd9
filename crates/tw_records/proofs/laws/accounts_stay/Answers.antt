use Rattle.tw_records.proofs.Demands.{accounts_stay}
use Rattle.tw_records.proofs.laws.accounts_stay.Goals as goal

pub returns : goal.returns
returns c = accounts_stay
