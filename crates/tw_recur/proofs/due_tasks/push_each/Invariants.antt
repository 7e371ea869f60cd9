use Rattle.std.proofs.Common.{◌≡◌, ◌++◌, take}
use Rattle.tw_recur.specs.Instances.{ops_each}
use Rattle.tw_recur.proofs.due_tasks.push_each.Given as goal

abbrev pub invariant-loop-change : goal.invariant-loop-change
invariant-loop-change l = l.ops.items ≡ l.initial.ops.items ++ ops_each l.tasks (take l.change-index l.changes.items) l.at
