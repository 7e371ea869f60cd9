use Rattle.tw_server.proofs.LogLaws.{other_accounts_stay}
use Rattle.tw_server.proofs.laws.other_accounts_stay.Goals as goal

pub returns : goal.returns
returns c = other_accounts_stay
