use Rattle.std.proofs.Common.{ap, ◌∙◌, take, arith, length}
use Rattle.tw_text.proofs.TextFacts.{digits_of_front}
use Rattle.tw_segment.proofs.Decimals.{below_a_second}
use Rattle.tw_segment.proofs.timestamp.after_point.Goals as goal

pub number-requires-clause-digits : goal.number-requires-clause-digits
number-requires-clause-digits c =
    digits_of_front c.args.text.now c.split_at.result.0.now (c.split_at.ensures.front ∙ ap (λ n. take n c.args.text.now) c.count_digits.ensures.value)

pub overflow_cast-result : goal.overflow_cast-result
overflow_cast-result c =
    let small = below_a_second c.number.result (length c.split_at.result.0.now) c.pow-worth.result (omega arith) c.number.ensures.bound c.pow-worth.ensures in
    omega (arith, small)

pub returns-clause-bound : goal.returns-clause-bound
returns-clause-bound c =
    below_a_second c.number.result (length c.split_at.result.0.now) c.pow-worth.result (omega arith) c.number.ensures.bound c.pow-worth.ensures
