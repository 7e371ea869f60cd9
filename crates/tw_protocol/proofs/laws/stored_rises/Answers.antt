use Rattle.tw_protocol.proofs.Responses.{stored_rises}
use Rattle.tw_protocol.proofs.laws.stored_rises.Goals as goal

pub returns : goal.returns
returns c = stored_rises
