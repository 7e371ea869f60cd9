use Rattle.std.proofs.Common.{◌+◌, ◌++◌, ◌∙◌, List, [], ap, drop, refl, sym, arith}
use Rattle.std.proofs.lemmas.List.{drop_all}
use Rattle.tw_model.specs.declared.Op.{Op}
use Rattle.tw_state.specs.Groups.{group_in, groups_in}
use Rattle.tw_state.proofs.PendingBodies.{one_more, none_left}
use Rattle.tw_state.proofs.pending.read_from.Goals as goal

pub loop-at-init : goal.loop-at-init
loop-at-init c = one_more c.args.bodies.now.items c.args.from c.index.result.now [] c.in_ok-ops.ops.items _ (omega arith) c.index.ensures (c.in_ok-ops.ensures ∙ ap group_in c.deref.ensures.value) refl

pub loop-at-preserved : goal.loop-at-preserved
loop-at-preserved c =
    ap (λ (l : List Op). l ++ groups_in (drop (c.loop-at.at + 1) c.args.bodies.now.items)) c.in_ok-append.ensures.items
    ∙ one_more c.args.bodies.now.items c.loop-at.at c.index-in-loop-at.result.now c.loop-at.ops.items c.in_ok-group.group.items _ (omega arith) c.index-in-loop-at.ensures (c.in_ok-group.ensures ∙ ap group_in c.deref-in-loop-at.ensures.value) c.loop-at.invariant

pub returns : goal.returns
returns c = none_left c.args.bodies.now.items c.loop-at.at c.loop-at.ops.items _ (omega arith) c.loop-at.invariant

pub returns-then-from-len : goal.returns-then-from-len
returns-then-from-len c = c.new.ensures.items ∙ ap groups_in (sym (drop_all c.args.from c.args.bodies.now.items (omega arith)))
