use Rattle.std.proofs.Common.{◌∙◌}
use Rattle.tw_state.proofs.RunsOfOps.{applied_left}
use Rattle.tw_state.proofs.state.apply_synced.Goals as goal

pub loop-unread-preserved : goal.loop-unread-preserved
loop-unread-preserved c = applied_left c.loop-unread.tasks c.apply_sync_ops.new.tasks c.loop-unread.unread c.in_ok-some.some.items c.read_some.new.self c.in_ok-some.ensures.read c.in_ok-apply_sync_ops.ensures ∙ c.loop-unread.invariant
