use Rattle.std.proofs.Common.{◌≡◌, ◌≤◌, length, drop}
use Rattle.tw_path.specs.Walk.{IsBefore}
use Rattle.tw_path.proofs.walker.Walker.take_back_all.Given as goal

abbrev pub invariant-loop-at : goal.invariant-loop-at
invariant-loop-at l = (l.at ≤ length l.ops.items) × IsBefore l.hand (drop l.at l.ops.items) l.self × (l.self.at ≡ l.fn.self.at) × (l.self.carried ≡ l.fn.self.carried)

abbrev pub decreases-loop-at : goal.decreases-loop-at
decreases-loop-at l = l.at
