use Rattle.std.proofs.Common.{◌∙◌, sym, arith}
use Rattle.tw_state.proofs.RunsOfOps.{run_on, stops}
use Rattle.tw_state.proofs.state.apply_ops.Goals as goal

pub returns-then-next-at-clause-fit : goal.returns-then-next-at-clause-fit
returns-then-next-at-clause-fit c =
    sym (stops c.loop-at.at c.loop-at.tasks c.args.ops.now.items c.loop-at.at (omega (arith, c.loop-at-test.true)) (c.in_ok-next.ensures.stopped c.if-next-at.true)) ∙ c.loop-at.invariant.0

pub loop-at-preserved : goal.loop-at-preserved
loop-at-preserved c =
    let run = c.in_ok-next.ensures in
    let on = run_on c.loop-at.tasks c.apply_run.new.self c.args.ops.now.items c.loop-at.at c.in_ok-next.next run.begins run.ends run.fit run.left in
    (on.0 ∙ c.loop-at.invariant.0, on.1 ∙ c.loop-at.invariant.1)
