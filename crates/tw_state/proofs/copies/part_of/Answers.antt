use Rattle.std.proofs.Common.{◌∙◌, ap, subst, sym}
use Rattle.std.specs.FinMap.{get, get-empty}
use Rattle.std.specs.List.Sorted.{IsStrictlySortedBy}
use Rattle.tw_model.specs.Maps.{bytes_cmp}
use Rattle.tw_model.specs.Ops.{TasksValue}
use Rattle.tw_state.specs.Part.{with_part}
use Rattle.tw_state.proofs.PartInTurns.{first_inside, taken_more, ordered_more, left_free}
use Rattle.tw_state.proofs.copies.part_of.Goals as goal

pub loop-uuid-init : goal.loop-uuid-init
loop-uuid-init c =
    let gives = c.into_iter-uuid-iterator.ensures.into_iter_gives in
    record {
      copies = λ i. with_part (gives.0 i) c.args.tasks.now (c.new-part.ensures i);
      free = λ u inside. ap (λ (t : TasksValue). get t u) c.new-part.ensures ∙ get-empty bytes_cmp u;
      ordered = subst (IsStrictlySortedBy bytes_cmp) (sym gives.0) gives.4;
    }

pub copy_task-requires : goal.copy_task-requires
copy_task-requires c = c.loop-uuid.invariant.free c.in-Some.uuid.now (first_inside c.loop-uuid.uuid-iterator c.next.new.self c.in-Some.uuid.now c.in-Some.ensures.steps)

pub loop-uuid-preserved : goal.loop-uuid-preserved
loop-uuid-preserved c =
    let before = c.loop-uuid.uuid-iterator in
    let rest = c.next.new.self in
    let u = c.in-Some.uuid.now in
    let next = c.in-Some.ensures.steps in
    let tasks = c.args.tasks.now in
    let part = c.loop-uuid.part in
    let new = c.copy_task.new.part in
    let is = c.loop-uuid.invariant in
    record {
      copies = taken_more before rest u next tasks part new _ c.in_ok-copy_task.ensures is.copies;
      free = left_free before rest u next is.ordered part new (get tasks u) c.in_ok-copy_task.ensures is.free;
      ordered = ordered_more before rest u next is.ordered;
    }
