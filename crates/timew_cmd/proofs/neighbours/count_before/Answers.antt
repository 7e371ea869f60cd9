use Rattle.std.proofs.Common.{length, sym, ◌∙◌, arith}
use Rattle.timew_cmd.proofs.NumbersFound.{none_in_front}
use Rattle.timew_cmd.proofs.PlacedAside.{before_more}
use Rattle.timew_cmd.proofs.neighbours.count_before.Goals as goal

pub loop-count-preserved : goal.loop-count-preserved
loop-count-preserved c = record {
  inside = omega arith;
  before = before_more c.args.new.now c.args.rows.now c.loop-count.count c.index-rows-count.result (omega arith) c.index-rows-count.is (sym c.stands_before.ensures ∙ c.if-stands_before.true) c.loop-count.invariant.before;
  others = none_in_front c.args.ids.now.given.now (length c.args.rows.now) c.loop-count.count c.loop-count.invariant.others (sym c.has.ensures ∙ c.if-not-has.true);
}
