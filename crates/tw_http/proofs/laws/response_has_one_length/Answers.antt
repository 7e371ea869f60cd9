use Rattle.tw_http.proofs.Ending.{one_length}
use Rattle.tw_http.proofs.laws.response_has_one_length.Goals as goal

pub returns : goal.returns
returns c = one_length
