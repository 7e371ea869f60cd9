use Rattle.std.proofs.Common.{◌∙◌, sym, arith}
use Rattle.tw_state.specs.State.{before_all}
use Rattle.tw_state.proofs.BeforePending.{walk_on, walk_ends}
use Rattle.tw_state.proofs.pends.take_all_back.Goals as goal

pub returns-then-not-is_left_by : goal.returns-then-not-is_left_by
returns-then-not-is_left_by c = walk_ends c.loop-at.tasks c.args.ops.now.items c.loop-at.at c.index-op.result.now (before_all c.args.tasks.now c.args.ops.now.items) c.loop-at-test.true c.loop-at.invariant.0 c.index-op.ensures (sym c.is_left_by.ensures ∙ c.if-not-is_left_by.true) c.loop-at.invariant.1

pub loop-at-preserved : goal.loop-at-preserved
loop-at-preserved c = (
  omega (arith, c.loop-at.invariant.0),
  walk_on c.loop-at.tasks c.invert.new.self c.args.ops.now.items c.loop-at.at c.index-op.result.now (before_all c.args.tasks.now c.args.ops.now.items) c.loop-at-test.true c.loop-at.invariant.0 c.index-op.ensures (sym c.is_left_by.ensures ∙ c.if-not-is_left_by.false) c.in_ok-invert.ensures.ok c.loop-at.invariant.1,
)
