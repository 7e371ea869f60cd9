use Rattle.tw_server.proofs.LogLaws.{own_account_is_answered}
use Rattle.tw_server.proofs.laws.own_account_is_answered.Goals as goal

pub returns : goal.returns
returns c = own_account_is_answered
