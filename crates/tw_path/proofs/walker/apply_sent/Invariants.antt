use Rattle.std.proofs.Common.{◌≡◌, ◌-◌, length, drop}
use Rattle.tw_model.specs.Ops.{TasksValue, apply_all}
use Rattle.tw_path.specs.Presence.{Tells}
use Rattle.tw_path.proofs.walker.apply_sent.Given as goal

abbrev pub invariant-loop-at : goal.invariant-loop-at
invariant-loop-at l = (apply_all l.tasks (drop l.at l.ops.items) ≡ apply_all l.fn.tasks l.ops.items)
    × ((hand other : TasksValue) → Tells l.fn.there hand other → (now : TasksValue) × Tells l.there hand now × (apply_all now (drop l.at l.ops.items) ≡ apply_all other l.ops.items))

abbrev pub decreases-loop-at : goal.decreases-loop-at
decreases-loop-at l = length l.ops.items - l.at
