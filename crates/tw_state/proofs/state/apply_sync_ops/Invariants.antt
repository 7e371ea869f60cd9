use Rattle.std.proofs.Common.{◌≡◌, ◌-◌, length, drop}
use Rattle.tw_model.specs.Ops.{apply_all}
use Rattle.tw_state.proofs.state.apply_sync_ops.Given as goal

abbrev pub invariant-loop-at : goal.invariant-loop-at
invariant-loop-at l = apply_all l.tasks (drop l.at l.ops.items) ≡ apply_all l.fn.tasks l.ops.items

abbrev pub decreases-loop-at : goal.decreases-loop-at
decreases-loop-at l = length l.ops.items - l.at
