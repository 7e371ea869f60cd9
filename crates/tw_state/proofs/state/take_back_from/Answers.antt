use Rattle.std.proofs.Common.{arith, drop}
use Rattle.tw_model.specs.LocalOps.{take_back_all}
use Rattle.tw_state.proofs.LastUndoPoint.{taken_back_more}
use Rattle.tw_state.proofs.state.take_back_from.Goals as goal

pub loop-at-preserved : goal.loop-at-preserved
loop-at-preserved c = (
  omega (arith, c.loop-at.invariant.0, c.loop-at-test.true),
  omega (arith, c.loop-at.invariant.1),
  taken_back_more c.args.tasks.now c.loop-at.tasks c.invert.new.self c.args.ops.now.items c.args.from c.loop-at.at c.index.result.now (take_back_all c.args.tasks.now (drop c.args.from c.args.ops.now.items)) c.loop-at-test.true c.loop-at.invariant.1 c.index.ensures c.in_ok-invert.ensures.ok c.loop-at.invariant.2,
)
