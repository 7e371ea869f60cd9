use Rattle.std.proofs.Common.{◌≡◌, ◌-◌, ◌++◌, length, drop}
use Rattle.tw_model.specs.Ops.{apply_all}
use Rattle.tw_groups.specs.Groups.{renewed}
use Rattle.tw_groups.proofs.renewing.put_all_renewed.Given as goal

abbrev pub invariant-loop-at : goal.invariant-loop-at
invariant-loop-at l = (l.ops.items ++ renewed l.tasks (drop l.at l.group.items) ≡ l.fn.ops.items ++ renewed l.fn.tasks l.group.items) × (apply_all l.tasks (drop l.at l.group.items) ≡ apply_all l.fn.tasks l.group.items)

abbrev pub decreases-loop-at : goal.decreases-loop-at
decreases-loop-at l = length l.group.items - l.at
