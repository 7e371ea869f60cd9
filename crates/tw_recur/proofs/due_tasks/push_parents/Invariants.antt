use Rattle.std.proofs.Common.{◌≡◌}
use Rattle.std.specs.FinMap as map
use Rattle.tw_recur.specs.Instances.{with_parents}
use Rattle.tw_recur.specs.Grown.{asked_in, making_in}
use Rattle.tw_recur.proofs.due_tasks.push_parents.Given as goal

abbrev pub invariant-loop-uuid : goal.invariant-loop-uuid
invariant-loop-uuid l = with_parents (asked_in l.asking) (making_in l.made l.parents) l.uuid-iterator ≡ with_parents (asked_in l.asking) (making_in l.initial.made l.initial.parents) (map.entries l.asking.tasks.now)
