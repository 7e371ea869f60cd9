use Rattle.std.proofs.Common.{◌≡◌, ◌<◌, List, length, get_or, arith}
use Rattle.std.specs.Global.{Vec}
use Rattle.tw_model.specs.declared.SyncOp.{SyncOp}
use Rattle.tw_path.proofs.Taking.{group_put}
use Rattle.tw_path.proofs.batch.Batch.sent.Goals as goal

pub loop-at-preserved : goal.loop-at-preserved
loop-at-preserved c =
    let vs : List (Vec SyncOp) = c.args.left.now.items in
    let v : Vec SyncOp = c.index-group.result.now in
    let inside : c.loop-at.at < length vs = omega (arith, c.loop-at-test.true, c.loop-at.invariant.1) in
    let is : v ≡ get_or vs c.loop-at.at v = c.index-group.ensures in (
      omega (arith, c.loop-at-test.true),
      c.loop-at.invariant.1,
      group_put vs c.loop-at.at v c.loop-at.ops.items c.put_first.new.ops.items c.len-count.result inside is (omega (arith, c.len-count.ensures)) c.in_ok-put_first.ensures c.loop-at.invariant.2,
    )
