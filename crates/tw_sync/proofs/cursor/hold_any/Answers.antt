use Rattle.std.proofs.Common.{◌≡◌, ◌<◌, ◌∙◌, length, arith, rules, ap, sym}
use Rattle.std.proofs.lemmas.List.{drop_all}
use Rattle.tw_groups.specs.Groups.{joined}
use Rattle.tw_groups.specs.Held.{groups_in}
use Rattle.tw_sync.proofs.Holding.{held_here, none_here}
use Rattle.tw_sync.proofs.cursor.hold_any.Goals as goal

pub loop-at-preserved : goal.loop-at-preserved
loop-at-preserved c =
    let inside : c.loop-at.at < length c.args.groups.now.items = omega (arith, c.loop-at-test.true) in
    let empty : length c.index.result.now.items ≡ 0 = search rules in
    none_here c.args.groups.now.items c.loop-at.at c.index.result.now inside c.index.ensures empty ∙ c.loop-at.invariant

pub returns-then-not-is_empty-clause-some : goal.returns-then-not-is_empty-clause-some
returns-then-not-is_empty-clause-some c = λ is none.
    let inside : c.loop-at.at < length c.args.groups.now.items = omega (arith, c.loop-at-test.true) in
    let some : ¬ (length c.index.result.now.items ≡ 0) = search rules in
    held_here c.args.groups.now.items c.loop-at.at c.index.result.now inside c.index.ensures some (c.loop-at.invariant ∙ none)

pub returns-clause-none : goal.returns-clause-none
returns-clause-none c = λ is.
    sym c.loop-at.invariant ∙ ap (λ vs. joined (groups_in vs)) (drop_all c.loop-at.at c.args.groups.now.items (omega (arith, c.loop-at-test.false)))
