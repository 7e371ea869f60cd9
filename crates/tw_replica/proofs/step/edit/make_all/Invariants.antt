use Rattle.std.proofs.Common.{◌≡◌, ◌++◌}
use Rattle.std.specs.Vec.Iter.{into_iter_items}
use Rattle.tw_model.specs.Ops.{TasksValue}
use Rattle.tw_model.specs.Changes.{changed_all, ops_of_all}
use Rattle.tw_replica.specs.Prepared.{ChangedAmong}
use Rattle.tw_replica.proofs.step.edit.make_all.Given as goal

abbrev pub invariant-loop-change : goal.invariant-loop-change
invariant-loop-change l = record {
  tasks : changed_all l.tasks (into_iter_items l.change-iterator) ≡ changed_all l.fn.tasks l.fn.changes.items;
  ops : l.ops.items ++ ops_of_all l.tasks (into_iter_items l.change-iterator) l.at ≡ l.fn.ops.items ++ ops_of_all l.fn.tasks l.fn.changes.items l.at;
  among : (first : TasksValue) → ChangedAmong l.fn.touched.keys first l.fn.tasks → ChangedAmong l.touched.keys first l.tasks;
}
