use Rattle.std.proofs.Common.{sym, ◌∙◌, arith}
use Rattle.timew_cmd.proofs.NumbersFound.{none_in_front}
use Rattle.timew_cmd.proofs.chosen.Chosen.in_front.Goals as goal

pub loop-front-preserved : goal.loop-front-preserved
loop-front-preserved c = record {
  inside = omega arith;
  others = none_in_front c.args.self.now.given.now c.args.count c.loop-front.front c.loop-front.invariant.others (sym c.has.ensures ∙ c.if-not-has.true);
}
