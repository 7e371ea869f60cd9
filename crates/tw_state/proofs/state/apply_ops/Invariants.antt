use Rattle.std.proofs.Common.{◌≡◌, ◌-◌, length, drop}
use Rattle.tw_model.specs.LocalOps.{apply_all_local}
use Rattle.tw_state.specs.State.{misfit}
use Rattle.tw_state.proofs.state.apply_ops.Given as goal

abbrev pub invariant-loop-at : goal.invariant-loop-at
invariant-loop-at l = (misfit l.at l.tasks (drop l.at l.ops.items) ≡ misfit 0 l.fn.tasks l.ops.items) × (apply_all_local l.tasks (drop l.at l.ops.items) ≡ apply_all_local l.fn.tasks l.ops.items)

abbrev pub decreases-loop-at : goal.decreases-loop-at
decreases-loop-at l = length l.ops.items - l.at
