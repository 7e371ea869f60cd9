use Rattle.tw_protocol.proofs.Responses.{response_draws_once}
use Rattle.tw_protocol.proofs.laws.response_draws_once.Goals as goal

pub returns : goal.returns
returns c = response_draws_once
