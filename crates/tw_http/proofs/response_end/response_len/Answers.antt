use Rattle.std.proofs.Common.{◌∙◌, ap, sym, arith, length}
use Rattle.std.proofs.lemmas.List.{length-take}
use Rattle.tw_http.specs.Messages.{max_head}
use Rattle.tw_http.specs.Heads.{head_len}
use Rattle.tw_http.proofs.Ending.{response_ends}
use Rattle.tw_http.proofs.response_end.response_len.Goals as goal

pub returns-in-Some-clause-ends : goal.returns-in-Some-clause-ends
returns-in-Some-clause-ends c = response_ends c.args.bytes.now c.in-Some.n c.len_by_head.result (ap head_len (sym c.first_bytes.ensures) ∙ sym c.head_len.ensures.read ∙ c.in-Some.is) c.len_by_head.ensures

pub len_by_head-requires : goal.len_by_head-requires
len_by_head-requires c =
    let n = c.in-Some.ensures.within in
    let same = ap length c.first_bytes.ensures in
    omega (arith, n, same, length-take max_head c.args.bytes.now, length-take c.in-Some.n c.args.bytes.now)

pub slice_bounds-len_by_head-end : goal.slice_bounds-len_by_head-end
slice_bounds-len_by_head-end c =
    let n = c.in-Some.ensures.within in
    let same = ap length c.first_bytes.ensures in
    omega (arith, n, same, length-take max_head c.args.bytes.now, length-take c.in-Some.n c.args.bytes.now)
