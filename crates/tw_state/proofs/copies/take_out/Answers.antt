use Rattle.std.proofs.Common.{◌<◌, ◌∙◌, ap, length, get_or, arith}
use Rattle.tw_state.proofs.PartInTurns.{out_more}
use Rattle.tw_state.proofs.copies.take_out.Goals as goal

pub loop-uuid-preserved : goal.loop-uuid-preserved
loop-uuid-preserved c =
    let us = c.args.uuids.now.items in
    let at = c.loop-uuid.uuid-index in
    let u = c.uuid-item.result in
    let lt : at < length us = omega (arith, c.loop-uuid-test.true, ap length c.deref-uuid-items.ensures.value) in
    out_more us at u lt (c.uuid-item.is ∙ ap (λ vs. get_or vs at u) c.deref-uuid-items.ensures.value) c.loop-uuid.tasks c.remove.new.self _ c.remove.ensures.left c.loop-uuid.invariant
