use Rattle.std.proofs.Common.{◌∷◌, ◌++◌, ◌∙◌, [], List, length, length-append, arith, sym, ap}
use Rattle.std.proofs.lemmas.List.{nil_from_length}
use Rattle.tw_model.specs.declared.Op.{Op}
use Rattle.tw_groups.specs.Held.{groups_in}
use Rattle.tw_path.proofs.Parting.{none_parted, one_parted, all_parted}
use Rattle.tw_path.proofs.grouped.groups_of.Goals as goal

pub loop-op-init : goal.loop-op-init
loop-op-init c = none_parted c.args.pending.items c.in_ok-group.group.items c.new-groups.result.items c.in_ok-group.ensures c.new-groups.ensures.items

pub loop-op-smaller : goal.loop-op-smaller
loop-op-smaller c =
    let e = ap length (c.in-Some.ensures.items ∙ ap (λ (ops : List Op). ops ++ c.in-Some.op ∷ []) (sym c.release.ensures)) in
    let sums = length-append c.release.new.pending.items (c.in-Some.op ∷ []) in
    omega (arith, e, sums)

pub loop-op-preserved : goal.loop-op-preserved
loop-op-preserved c =
    one_parted c.args.pending.items c.loop-op.pending.items c.release.new.pending.items c.in-Some.op c.loop-op.group.items c.put_in_front.new.group.items c.loop-op.groups.items c.put_in_front.new.groups.items
    (c.in-Some.ensures.items ∙ ap (λ (ops : List Op). ops ++ c.in-Some.op ∷ []) (sym c.release.ensures)) c.in_ok-put_in_front.ensures c.loop-op.invariant

pub returns : goal.returns
returns c =
    ap groups_in c.reverse.ensures.items
    ∙ all_parted c.args.pending.items c.loop-op.pending.items c.loop-op.group.items c.loop-op.groups.items (nil_from_length c.loop-op.pending.items (omega (arith, c.in_default.ensures.cases.0))) c.loop-op.invariant
