use Rattle.tw_records.proofs.Demands.{own_account_is_answered}
use Rattle.tw_records.proofs.laws.own_account_is_answered.Goals as goal

pub returns : goal.returns
returns c = own_account_is_answered
