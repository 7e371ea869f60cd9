use Rattle.std.proofs.Common.{◌∙◌, ◌-◌, take, drop, ap, arith}
use Rattle.std.proofs.lemmas.List.{length-drop, take_at}
use Rattle.tw_state.proofs.PendingBodies.{read_behind, none_behind, fewer_before, some_before}
use Rattle.tw_state.proofs.pending.read_behind.Goals as goal

pub overflow_sub-first : goal.overflow_sub-first
overflow_sub-first c =
    let some = some_before c.args.bodies.now.items c.loop-first.at c.loop-first.first c.args.from c.loop-first.invariant.1 c.loop-first-test.true in
    (fewer_before c.args.bodies.now.items c.loop-first.at c.index.result.now c.loop-first.first c.requires.each c.loop-first.invariant.0 some c.index.ensures c.loop-first.invariant.1).0

pub loop-first-preserved : goal.loop-first-preserved
loop-first-preserved c =
    let some = some_before c.args.bodies.now.items c.loop-first.at c.loop-first.first c.args.from c.loop-first.invariant.1 c.loop-first-test.true in
    (omega (arith, c.loop-first.invariant.0), (fewer_before c.args.bodies.now.items c.loop-first.at c.index.result.now c.loop-first.first c.requires.each c.loop-first.invariant.0 some c.index.ensures c.loop-first.invariant.1).1)

pub returns-then-before-held : goal.returns-then-before-held
returns-then-before-held c = c.new.ensures.items ∙ none_behind c.args.bodies.now.items c.loop-first.at c.args.from c.loop-first.first c.in_ok-ops.ops.items c.loop-first.invariant.1 (omega arith) c.in_ok-ops.ensures (omega arith)

pub returns : goal.returns
returns c =
    let ops = c.in_ok-ops.ops.items in
    let before = c.args.from - c.loop-first.first in
    c.truncate.ensures.items ∙ ap (take (c.len-held.result - before)) c.rotate_left.ensures.items ∙ take_at (drop before ops) (take before ops) (c.len-held.result - before) (omega (arith, length-drop before ops))
    ∙ read_behind c.args.bodies.now.items c.loop-first.at c.args.from c.loop-first.first ops c.loop-first.invariant.1 (omega arith) c.in_ok-ops.ensures
