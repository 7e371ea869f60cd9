use Rattle.std.proofs.Common.{◌≡◌, ◌+◌, ◌∷◌, [], length, arith, rules}
use Rattle.tw_segment.specs.Segment.{segment_text}
use Rattle.tw_path.proofs.Batching.{one_len}
use Rattle.tw_path.proofs.batch.op_len.Goals as goal

pub overflow_sub-result : goal.overflow_sub-result
overflow_sub-result c =
    let e : c.len.result ≡ length (segment_text (c.args.op.now ∷ [])) = search rules in
    let n = one_len c.args.op.now c.len.result e in
    omega (arith, n)

pub returns-in-Ok : goal.returns-in-Ok
returns-in-Ok c =
    let e : c.len.result ≡ length (segment_text (c.args.op.now ∷ [])) = search rules in
    let n = one_len c.args.op.now c.len.result e in
    omega (arith, n)

pub returns-in-Err-TooLong : goal.returns-in-Err-TooLong
returns-in-Err-TooLong c =
    let e : c.in-Err-TooLong.bytes ≡ length (segment_text (c.args.op.now ∷ [])) = search rules in
    let n = one_len c.args.op.now c.in-Err-TooLong.bytes e in
    omega (arith, n)
