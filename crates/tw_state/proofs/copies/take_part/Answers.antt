use Rattle.std.proofs.Common.{◌∙◌, ap, sym, None, is_some}
use Rattle.std.specs.FinMap.{get}
use Rattle.tw_model.specs.Maps.{set_at}
use Rattle.tw_state.proofs.PartInTurns.{first_inside, taken_more, ordered_more, left_agree, left_room}
use Rattle.tw_state.proofs.copies.take_part.Goals as goal

pub take_task-requires : goal.take_task-requires
take_task-requires c = λ there.
    let u = c.in-Some.uuid.now in
    let inside = first_inside c.loop-uuid.uuid-iterator c.next.new.self u c.in-Some.ensures.steps in
    c.loop-uuid.invariant.room u inside (ap is_some (sym (c.loop-uuid.invariant.left u inside)) ∙ there)

pub loop-uuid-preserved : goal.loop-uuid-preserved
loop-uuid-preserved c =
    let before = c.loop-uuid.uuid-iterator in
    let rest = c.next.new.self in
    let u = c.in-Some.uuid.now in
    let next = c.in-Some.ensures.steps in
    let first = c.args.part in
    let part = c.loop-uuid.part in
    let tasks = c.loop-uuid.tasks in
    let is = c.loop-uuid.invariant in
    let e = c.take_task.ensures in
    record {
      taken = taken_more before rest u next first tasks c.take_task.new.tasks _ (e.tasks ∙ ap (set_at tasks u) (is.left u (first_inside before rest u next))) is.taken;
      left = left_agree before rest u next is.ordered first part c.take_task.new.part None e.part is.left;
      room = left_room before rest u next is.ordered first tasks c.take_task.new.tasks (get part u) e.tasks is.room;
      ordered = ordered_more before rest u next is.ordered;
    }
