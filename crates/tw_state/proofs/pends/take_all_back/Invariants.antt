use Rattle.std.proofs.Common.{◌≡◌, ◌≤◌, length, take}
use Rattle.tw_state.specs.State.{before_all}
use Rattle.tw_state.proofs.pends.take_all_back.Given as goal

abbrev pub invariant-loop-at : goal.invariant-loop-at
invariant-loop-at l = (l.at ≤ length l.ops.items) × (before_all l.tasks (take l.at l.ops.items) ≡ before_all l.fn.tasks l.ops.items)

abbrev pub decreases-loop-at : goal.decreases-loop-at
decreases-loop-at l = l.at
