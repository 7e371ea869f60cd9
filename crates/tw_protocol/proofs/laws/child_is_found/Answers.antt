use Rattle.tw_protocol.proofs.Telling.{child_is_found}
use Rattle.tw_protocol.proofs.laws.child_is_found.Goals as goal

pub returns : goal.returns
returns c = child_is_found
