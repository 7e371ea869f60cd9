use Rattle.std.proofs.Common.{◌<◌, ◌∙◌, ap, length, get_or, arith}
use Rattle.std.specs.FinMap.{empty}
use Rattle.tw_model.specs.Maps.{set_if_none}
use Rattle.tw_state.proofs.PartInTurns.{room_more, others_same}
use Rattle.tw_state.proofs.copies.add_room.Goals as goal

pub loop-uuid-preserved : goal.loop-uuid-preserved
loop-uuid-preserved c =
    let us = c.args.fresh.now.items in
    let at = c.loop-uuid.uuid-index in
    let u = c.uuid-item.result in
    let tasks = c.loop-uuid.tasks in
    let new = c.insert.new.self in
    let lt : at < length us = omega (arith, c.loop-uuid-test.true, ap length c.deref-uuid-items.ensures.value) in
    let here = c.uuid-item.is ∙ ap (λ vs. get_or vs at u) c.deref-uuid-items.ensures.value in
    let put = c.in_ok-insert.ensures.ok ∙ ap (set_if_none tasks u) c.new.ensures in
    record {
      room = room_more us at u lt here tasks new _ put c.loop-uuid.invariant.room;
      others = others_same us at u lt here tasks new _ empty put c.loop-uuid.invariant.others;
    }
