use Rattle.tw_protocol.proofs.Responses.{response_grows}
use Rattle.tw_protocol.proofs.laws.response_grows.Goals as goal

pub returns : goal.returns
returns c = response_grows
