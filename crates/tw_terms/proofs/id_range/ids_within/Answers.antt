use Rattle.std.proofs.Common.{◌≡◌, min, length, arith}
use Rattle.tw_terms.proofs.IdRanges.{begins}
use Rattle.tw_terms.proofs.id_range.ids_within.Goals as goal

pub loop-at-init : goal.loop-at-init
loop-at-init c =
    let places = c.args.numbers.now.items in
    let is : c.min-end.result ≡ min c.args.last (length places) = omega (arith, c.min-end.ensures, c.len.ensures) in
    record {
      inside = omega (arith, is);
      known = λ u. begins c.args.first c.args.last c.min-end.result u places c.new-ids.result c.new-ids.ensures.empty is;
    }
