use Rattle.std.proofs.Common.{◌≡◌, ◌<◌, ◌∙◌, List, length, get_or, arith, sym}
use Rattle.tw_model.specs.declared.SyncOp.{SyncOp}
use Rattle.tw_path.proofs.Batching.{part_turn, part_goes_on, part_ends}
use Rattle.tw_path.proofs.batch.part_within.Goals as goal

pub returns-then-is_over : goal.returns-then-is_over
returns-then-is_over c =
    let g : List SyncOp = c.args.ops.now.items in
    let op : SyncOp = c.index-in-loop-at.result.now in
    let inside : c.loop-at.at < length g = omega (arith, c.loop-at-test.true) in
    let is : op ≡ get_or g c.loop-at.at op = c.index-in-loop-at.ensures in
    record { some = c.loop-at.invariant.0; split = c.loop-at.invariant.3 ∙ part_ends g c.loop-at.at c.loop-at.sum c.in_ok-len.len op inside is c.in_ok-len.ensures c.loop-at.invariant.2 (c.is_over.ensures.over c.if-is_over.true) }

pub loop-at-preserved : goal.loop-at-preserved
loop-at-preserved c =
    let g : List SyncOp = c.args.ops.now.items in
    let op : SyncOp = c.index-in-loop-at.result.now in
    let inside : c.loop-at.at < length g = omega (arith, c.loop-at-test.true) in
    let is : op ≡ get_or g c.loop-at.at op = c.index-in-loop-at.ensures in
    let le = c.is_over.ensures.within c.if-is_over.false in (
      omega arith,
      omega (arith, inside),
      sym (part_turn g c.loop-at.at c.loop-at.sum c.in_ok-len.len op inside is c.in_ok-len.ensures c.loop-at.invariant.2),
      c.loop-at.invariant.3 ∙ part_goes_on g c.loop-at.at c.loop-at.sum c.in_ok-len.len op inside is c.in_ok-len.ensures c.loop-at.invariant.2 le,
    )
