use Rattle.std.proofs.Common.{◌∙◌, arith}
use Rattle.tw_state.proofs.RunsOfOps.{sync_run_on}
use Rattle.tw_state.proofs.state.apply_sync_ops.Goals as goal

pub loop-at-preserved : goal.loop-at-preserved
loop-at-preserved c =
    let run = c.in_ok-at.ensures in
    sync_run_on c.loop-at.tasks c.apply_sync_run.new.self c.args.ops.now.items c.loop-at.at c.in_ok-at.at (omega (arith, run.begins)) run.left ∙ c.loop-at.invariant
