use Rattle.std.proofs.Common.{◌≡◌, ◌-◌, length, drop}
use Rattle.tw_path.specs.Path.{Reached}
use Rattle.tw_path.specs.Over.{over_all}
use Rattle.tw_path.specs.Walk.{StandsAt}
use Rattle.tw_path.proofs.walker.Walker.go_over_all.Given as goal

abbrev pub invariant-loop-at : goal.invariant-loop-at
invariant-loop-at l = (r : Reached) → StandsAt l.hand r l.fn.self → (now : Reached) × StandsAt l.hand now l.self × (over_all now (drop l.at l.ops.items) ≡ over_all r l.ops.items)

abbrev pub decreases-loop-at : goal.decreases-loop-at
decreases-loop-at l = length l.ops.items - l.at
