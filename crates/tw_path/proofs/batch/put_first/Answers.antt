use Rattle.std.proofs.Common.{◌≡◌, ◌+◌, ◌<◌, ◌++◌, ◌∷◌, ◌∙◌, [], List, length, get_or, min, arith, ap}
use Rattle.tw_model.specs.declared.SyncOp.{SyncOp}
use Rattle.tw_path.proofs.Taking.{put_turn, put_all}
use Rattle.tw_path.proofs.batch.put_first.Goals as goal

pub loop-at-preserved : goal.loop-at-preserved
loop-at-preserved c =
    let group : List SyncOp = c.args.group.now.items in
    let op : SyncOp = c.index.result.now in
    let inside : c.loop-at.at < length group = omega (arith, c.loop-at-test.true, c.loop-at.invariant.1) in
    let is : op ≡ get_or group c.loop-at.at op = c.index.ensures in
    let copy : c.in_ok-copy.field-0 ≡ op = c.in_ok-copy.ensures in (
      omega (arith, c.loop-at-test.true),
      c.loop-at.invariant.1,
      put_turn c.loop-at.ops.items c.push.new.self.items c.args.ops.now.items group c.loop-at.at op inside is (c.in_ok-push.ensures.items ∙ ap (λ x. c.loop-at.ops.items ++ x ∷ []) copy) c.loop-at.invariant.2,
    )

pub returns : goal.returns
returns c =
    let counted : c.len.result ≡ length c.args.group.now.items = omega (arith, c.len.ensures) in
    put_all c.loop-at.ops.items c.args.ops.now.items c.args.group.now.items c.loop-at.at c.lesser-end.result c.args.count (omega (arith, c.loop-at-test.false)) c.loop-at.invariant.0
    (c.lesser-end.ensures ∙ ap (λ n. min c.args.count n) counted) c.loop-at.invariant.2
