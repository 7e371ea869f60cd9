use Rattle.std.proofs.Common.{◌≡◌, ◌-◌, ◌≤◌, length, take, drop}
use Rattle.tw_model.specs.LocalOps.{take_back_all}
use Rattle.tw_state.proofs.state.take_back_from.Given as goal

abbrev pub invariant-loop-at : goal.invariant-loop-at
invariant-loop-at l = (l.from ≤ l.at) × (l.at ≤ length l.ops.items) × (take_back_all l.tasks (take (l.at - l.from) (drop l.from l.ops.items)) ≡ take_back_all l.fn.tasks (drop l.from l.ops.items))

abbrev pub decreases-loop-at : goal.decreases-loop-at
decreases-loop-at l = l.at
