use Rattle.tw_protocol.proofs.Responses.{response_keeps_account}
use Rattle.tw_protocol.proofs.laws.response_keeps_account.Goals as goal

pub returns : goal.returns
returns c = response_keeps_account
