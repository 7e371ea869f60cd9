use Rattle.std.proofs.Common.{sym, ◌∙◌, arith}
use Rattle.timew_cmd.proofs.NumbersFound.{none_behind}
use Rattle.timew_cmd.proofs.chosen.Chosen.at_the_end.Goals as goal

pub loop-back-preserved : goal.loop-back-preserved
loop-back-preserved c = record {
  inside = omega arith;
  others = none_behind c.args.self.now.given.now c.loop-back.back c.loop-back.invariant.others (sym c.has.ensures ∙ c.if-not-has.true);
}
