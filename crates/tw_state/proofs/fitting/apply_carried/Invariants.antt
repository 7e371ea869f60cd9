use Rattle.std.proofs.Common.{◌≡◌, ◌≤◌, ◌-◌, length}
use Rattle.tw_model.specs.Ops.{apply_all}
use Rattle.tw_state.specs.State.{misfit_synced}
use Rattle.tw_state.proofs.fitting.apply_carried.Given as goal

abbrev pub invariant-loop-unread : goal.invariant-loop-unread
invariant-loop-unread l = record {
  inside : length l.unread ≤ l.all;
  fit : misfit_synced (l.all - length l.unread) l.tasks l.unread ≡ misfit_synced 0 l.fn.tasks l.ops;
  left : apply_all l.tasks l.unread ≡ apply_all l.fn.tasks l.ops;
}

abbrev pub decreases-loop-unread : goal.decreases-loop-unread
decreases-loop-unread l = length l.unread
