use Rattle.std.proofs.Common.{◌<◌, ◌∙◌, sym, arith, length}
use Rattle.std.specs.declared.cmp.Ordering.TheVariants.{Less, Equal, Greater}
use Rattle.tw_world.proofs.RisingNames.{added_at, there_already, below_more}
use Rattle.timew_interval.proofs.RisingTags.{compared_at}
use Rattle.timew_interval.proofs.interval.tags.index_of.Goals as goal

pub returns-in-Less-clause-absent : goal.returns-in-Less-clause-absent
returns-in-Less-clause-absent c =
    let lt : c.loop-at.at < length c.args.tags.now.items = omega arith in
    (omega arith, added_at c.args.tag.now c.args.tags.now.items c.loop-at.at c.loop-at.invariant (omega (arith, lt)) (λ below. compared_at c.args.tags.now.items c.loop-at.at c.index.result.now c.args.tag.now Less lt c.index.ensures (sym c.in-Less.is ∙ c.order_of.ensures)))

pub returns-in-Equal-clause-there : goal.returns-in-Equal-clause-there
returns-in-Equal-clause-there c =
    let lt : c.loop-at.at < length c.args.tags.now.items = omega arith in
    there_already c.args.tag.now c.args.tags.now.items c.loop-at.at c.loop-at.invariant lt (compared_at c.args.tags.now.items c.loop-at.at c.index.result.now c.args.tag.now Equal lt c.index.ensures (sym c.in-Equal.is ∙ c.order_of.ensures))

pub loop-at-preserved : goal.loop-at-preserved
loop-at-preserved c =
    let lt : c.loop-at.at < length c.args.tags.now.items = omega arith in
    below_more c.args.tag.now c.args.tags.now.items c.loop-at.at c.loop-at.invariant (compared_at c.args.tags.now.items c.loop-at.at c.index.result.now c.args.tag.now Greater lt c.index.ensures (sym c.in-Greater.is ∙ c.order_of.ensures))

pub returns-clause-absent : goal.returns-clause-absent
returns-clause-absent c =
    (omega arith, added_at c.args.tag.now c.args.tags.now.items c.len.result (λ j lt. c.loop-at.invariant j (omega (arith, lt))) (omega arith) (λ lt. absurd (omega (arith, lt))))
