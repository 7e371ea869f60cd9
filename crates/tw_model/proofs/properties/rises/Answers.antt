use Rattle.std.proofs.Common.{sym, arith}
use Rattle.tw_model.proofs.Rising.{step_back, step_fails, short_end}
use Rattle.tw_model.proofs.properties.rises.Goals as goal

pub loop-at-init : goal.loop-at-init
loop-at-init c = (omega arith, short_end c.args.pairs.now.items c.len-at.result (omega arith))

pub returns-then-not-is_before : goal.returns-then-not-is_before
returns-then-not-is_before c = sym (step_fails c.args.pairs.now.items c.loop-at.at c.index.result.now c.index-in-loop-at.result.now c.is_before.result c.loop-at-test.true c.loop-at.invariant.0 c.index.ensures c.index-in-loop-at.ensures c.is_before.ensures c.if-not-is_before.true)

pub loop-at-preserved : goal.loop-at-preserved
loop-at-preserved c = (omega (arith, c.loop-at.invariant.0), step_back c.args.pairs.now.items c.loop-at.at c.index.result.now c.index-in-loop-at.result.now c.is_before.result c.loop-at-test.true c.loop-at.invariant.0 c.index.ensures c.index-in-loop-at.ensures c.is_before.ensures c.if-not-is_before.false c.loop-at.invariant.1)
