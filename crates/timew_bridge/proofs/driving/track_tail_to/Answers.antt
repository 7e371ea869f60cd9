use Rattle.std.proofs.Common.{ap, ◌∙◌, take}
use Rattle.timew_bridge.proofs.Tails.{driven_order}
use Rattle.timew_bridge.proofs.driving.track_tail_to.Goals as goal

pub returns-clause-tail : goal.returns-clause-tail
returns-clause-tail c = record {
  whole = c.requires.tail.whole;
  edit = record {
    inside = c.requires.tail.edit.inside;
    are = driven_order c.args.tasks.now c.args.now.seconds c.args.edit.at c.args.edit.count c.args.edit.rows.items c.in_ok-rows.rows.items c.split_at.result.0.now c.args.rows.now c.args.now.in_years c.requires.tail.whole (c.split_at.ensures.front ∙ ap (take c.args.edit.at) c.as_slice.ensures.value) c.in_ok-rows.ensures c.requires.tail.edit.are;
  };
  closed = c.requires.tail.closed;
}
