use Rattle.std.proofs.Common.{◌≡◌, length}
use Rattle.tw_model.specs.Ops.{apply_all}
use Rattle.tw_state.proofs.state.apply_synced.Given as goal

abbrev pub invariant-loop-unread : goal.invariant-loop-unread
invariant-loop-unread l = apply_all l.tasks l.unread ≡ apply_all l.fn.tasks l.ops

abbrev pub decreases-loop-unread : goal.decreases-loop-unread
decreases-loop-unread l = length l.unread
