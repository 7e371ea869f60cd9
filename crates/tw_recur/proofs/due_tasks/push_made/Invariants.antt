-- the changes so far and those of what is left are all
use Rattle.std.proofs.Common.{◌≡◌, ◌++◌}
use Rattle.std.specs.FinMap as map
use Rattle.tw_recur.specs.Instances.{made_changes}
use Rattle.tw_recur.proofs.due_tasks.push_made.Given as goal

abbrev pub invariant-loop-left : goal.invariant-loop-left
invariant-loop-left l = l.changes.items ++ made_changes (map.entries l.left) ≡ l.initial.changes.items ++ made_changes (map.entries l.fn.made)

abbrev pub decreases-loop-left : goal.decreases-loop-left
decreases-loop-left l = map.len l.left
