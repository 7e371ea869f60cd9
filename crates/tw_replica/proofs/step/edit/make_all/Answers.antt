use Rattle.std.proofs.Common.{◌++◌}
use Rattle.std.specs.Vec.Iter.{into_iter_items}
use Rattle.tw_model.specs.Changes.{changed_all, ops_of_all}
use Rattle.tw_numbers.specs.Assigned.{is_among}
use Rattle.tw_state.proofs.CommittedChanges.{tasks_more, ops_more, among_more}
use Rattle.tw_replica.proofs.step.edit.make_all.Goals as goal

pub loop-change-preserved : goal.loop-change-preserved
loop-change-preserved c =
    let i = c.loop-change.invariant in
    let e = c.in_ok-make_one.ensures in
    let left = into_iter_items c.loop-change.change-iterator in
    let rest = into_iter_items c.next.new.self in
    record {
      tasks = tasks_more c.loop-change.tasks c.make_one.new.tasks c.in-Some.change left rest (changed_all c.args.tasks.now c.args.changes.items) c.in-Some.ensures.steps.0 e.tasks i.tasks;
      ops = ops_more c.loop-change.tasks c.make_one.new.tasks c.in-Some.change left rest c.args.at c.loop-change.ops.items c.make_one.new.ops.items (c.args.ops.now.items ++ ops_of_all c.args.tasks.now c.args.changes.items c.args.at) c.in-Some.ensures.steps.0 e.tasks e.ops i.ops;
      among = λ first changed. among_more first c.loop-change.tasks c.make_one.new.tasks c.in-Some.change (is_among c.loop-change.touched.keys) (is_among c.make_one.new.touched.keys) e.tasks e.touched (i.among first changed);
    }
