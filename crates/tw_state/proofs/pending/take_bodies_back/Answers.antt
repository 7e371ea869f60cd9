use Rattle.std.proofs.Common.{◌∙◌, ap, arith}
use Rattle.tw_state.specs.Groups.{group_in}
use Rattle.tw_state.proofs.BodiesBack.{back_more, touched_more}
use Rattle.tw_state.proofs.pending.take_bodies_back.Goals as goal

pub loop-at-preserved : goal.loop-at-preserved
loop-at-preserved c =
    let bodies = c.args.bodies.now.items in
    let is = c.in_ok-ops.ensures ∙ ap group_in c.deref.ensures.value in
    let so_far = c.loop-at.invariant in
    record {
      inside = omega (arith, so_far.inside);
      tasks = back_more bodies c.loop-at.at c.index.result.now c.in_ok-ops.ops.items c.loop-at.tasks c.take_these_back.new.tasks _ so_far.inside c.loop-at-test.true c.index.ensures is c.in_ok-take_these_back.ensures.tasks so_far.tasks;
      touched = λ u. touched_more bodies c.loop-at.at c.index.result.now c.in_ok-ops.ops.items u _ _ _ so_far.inside c.loop-at-test.true c.index.ensures is (c.in_ok-take_these_back.ensures.touched u) (so_far.touched u);
    }
