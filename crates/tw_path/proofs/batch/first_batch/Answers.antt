use Rattle.std.proofs.Common.{◌≡◌, ◌<◌, ◌∙◌, List, length, get_or, arith, subst}
use Rattle.std.specs.Global.{Vec}
use Rattle.tw_model.specs.declared.SyncOp.{SyncOp}
use Rattle.tw_path.specs.Sums.{IsSumWithin}
use Rattle.tw_path.proofs.Batching.{group_sum, group_goes_on, group_stops, if_ok_three}
use Rattle.tw_path.proofs.batch.first_batch.Goals as goal

pub returns-in-None : goal.returns-in-None
returns-in-None c =
    let vs : List (Vec SyncOp) = c.args.left.now.items in
    let v : Vec SyncOp = c.index-group.result.now in
    let inside : c.loop-at.at < length vs = omega (arith, c.loop-at-test.true) in
    let is : v ≡ get_or vs c.loop-at.at v = c.index-group.ensures in
    let long = subst (λ o. IsSumWithin c.loop-at.sum v.items o) c.in-None.is c.in_ok-next.ensures in
    if_ok_three c.batch_in.result _ _ _ _ (λ b whole none part. c.loop-at.invariant.2 ∙ group_stops vs c.loop-at.at c.loop-at.sum v inside is c.loop-at.invariant.1 c.loop-at.invariant.0 long b whole none part) c.batch_in.ensures.whole c.batch_in.ensures.none c.batch_in.ensures.part

pub loop-at-preserved : goal.loop-at-preserved
loop-at-preserved c =
    let vs : List (Vec SyncOp) = c.args.left.now.items in
    let v : Vec SyncOp = c.index-group.result.now in
    let inside : c.loop-at.at < length vs = omega (arith, c.loop-at-test.true) in
    let is : v ≡ get_or vs c.loop-at.at v = c.index-group.ensures in
    let s = subst (λ o. IsSumWithin c.loop-at.sum v.items o) c.in-Some.is c.in_ok-next.ensures in (
      s.1,
      group_sum vs c.loop-at.at c.loop-at.sum c.in-Some.next v inside is c.loop-at.invariant.1 s.0,
      c.loop-at.invariant.2 ∙ group_goes_on vs c.loop-at.at c.loop-at.sum c.in-Some.next v inside is c.loop-at.invariant.1 s.0 s.1,
    )
