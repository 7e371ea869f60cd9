use Rattle.std.proofs.Common.{arith, subst, sym}
use Rattle.tw_numbers.specs.Assigned.{IsIndex}
use Rattle.tw_numbers.proofs.IndexedPlaces.{index_more}
use Rattle.tw_numbers.proofs.indexed.index_of.Goals as goal

pub loop-at-preserved : goal.loop-at-preserved
loop-at-preserved c = (
  index_more c.index_place.new.index c.args.places.now.items c.loop-at.at c.index.result.now (omega arith) c.index.ensures c.requires
      (λ before after here is once. c.in_ok-index_place.ensures before after (subst (IsIndex c.loop-at.index) (sym is) c.loop-at.invariant.0) here once),
  omega arith,
)
