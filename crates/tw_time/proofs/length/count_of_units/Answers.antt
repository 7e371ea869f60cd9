use Rattle.std.proofs.Common.{arith}
use Rattle.tw_time.proofs.LengthFacts.{small_parts, product_bound}
use Rattle.tw_time.proofs.length.count_of_units.Goals as goal

pub overflow_mul-result : goal.overflow_mul-result
overflow_mul-result c =
    let small = small_parts c.args.one c.requires.small in
    let fits = product_bound c.args.one.months c.number-n.result _ 12 small.0 c.number-n.ensures.bound (omega arith) in
    omega (arith, fits)

pub overflow_mul-result-2 : goal.overflow_mul-result-2
overflow_mul-result-2 c =
    let small = small_parts c.args.one c.requires.small in
    let fits = product_bound c.args.one.days c.number-n.result _ 14 small.1 c.number-n.ensures.bound (omega arith) in
    omega (arith, fits)
