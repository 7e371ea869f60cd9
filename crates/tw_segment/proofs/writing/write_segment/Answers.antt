use Rattle.std.proofs.Common.{◌≡◌, ◌∙◌, ap, arith, length}
use Rattle.std.specs.Vec.{vec_len}
use Rattle.tw_segment.proofs.writing.write_segment.Goals as goal

pub returns-then-bytes-gt16777216-clause-err : goal.returns-then-bytes-gt16777216-clause-err
returns-then-bytes-gt16777216-clause-err c =
    let counted : vec_len c.in_ok-text.text ≡ length c.in_ok-text.text.items = omega arith in
    (c.len-bytes.ensures ∙ counted ∙ ap length c.in_ok-text.ensures.text, c.if-bytes-gt16777216.true)
