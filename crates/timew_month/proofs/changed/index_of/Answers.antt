use Rattle.std.proofs.Common.{◌<◌, ◌∙◌, sym, arith, length}
use Rattle.std.specs.declared.cmp.Ordering.TheVariants.{Less, Equal, Greater}
use Rattle.timew_month.proofs.PutFiles.{compared_file, after_more, put_before, put_instead}
use Rattle.timew_month.proofs.changed.index_of.Goals as goal

pub returns-in-Less-clause-absent : goal.returns-in-Less-clause-absent
returns-in-Less-clause-absent c =
    let lt : c.loop-at.at < length c.args.files.now.items = omega arith in
    (omega arith, put_before c.args.name.now c.args.files.now.items c.loop-at.at c.loop-at.invariant (omega (arith, lt)) (λ below. compared_file c.args.files.now.items c.loop-at.at c.index.result.now c.args.name.now Less lt c.index.ensures (sym c.in-Less.is ∙ c.order_of.ensures)))

pub returns-in-Equal-clause-there : goal.returns-in-Equal-clause-there
returns-in-Equal-clause-there c =
    let lt : c.loop-at.at < length c.args.files.now.items = omega arith in
    (lt, put_instead c.args.name.now c.args.files.now.items c.loop-at.at c.loop-at.invariant lt (compared_file c.args.files.now.items c.loop-at.at c.index.result.now c.args.name.now Equal lt c.index.ensures (sym c.in-Equal.is ∙ c.order_of.ensures)))

pub loop-at-preserved : goal.loop-at-preserved
loop-at-preserved c =
    let lt : c.loop-at.at < length c.args.files.now.items = omega arith in
    after_more c.args.name.now c.args.files.now.items c.loop-at.at c.loop-at.invariant (compared_file c.args.files.now.items c.loop-at.at c.index.result.now c.args.name.now Greater lt c.index.ensures (sym c.in-Greater.is ∙ c.order_of.ensures))

pub returns-clause-absent : goal.returns-clause-absent
returns-clause-absent c =
    (omega arith, put_before c.args.name.now c.args.files.now.items c.len.result (λ j d lt. c.loop-at.invariant j d (omega (arith, lt))) (omega arith) (λ lt. absurd (omega (arith, lt))))
