use Rattle.std.proofs.Common.{Some}
use Rattle.tw_http.proofs.Ending.{one_length}
use Rattle.tw.proofs.link.ResponsesFraming.len_of.Goals as goal

pub returns-clause-only : goal.returns-clause-only
returns-clause-only c n ends = one_length c.args.bytes.now c.response_len.result (Some n) c.response_len.ensures.is ends.len
