use Rattle.std.proofs.Common.{sym, ◌∙◌, ◌-◌, drop, arith, length-drop}
use Rattle.timew_interval.proofs.InOrder.{short_in_order}
use Rattle.timew_interval.proofs.interval.order.in_order.Goals as goal

pub returns : goal.returns
returns c = sym (short_in_order (drop (c.loop-at.at - 1) c.args.rows.now) (omega (arith, length-drop (c.loop-at.at - 1) c.args.rows.now, c.loop-at-test.false))) ∙ c.loop-at.invariant.1
