use Rattle.std.proofs.Common.{◌<◌, ◌∙◌, sym, arith, map, length}
use Rattle.std.proofs.lemmas.List.{length-map}
use Rattle.std.specs.String.{string_bytes}
use Rattle.std.specs.declared.cmp.Ordering.TheVariants.{Less, Equal, Greater}
use Rattle.tw_world.proofs.Puts.{compared_at}
use Rattle.tw_world.proofs.RisingNames.{added_at, there_already, below_more}
use Rattle.tw_world.proofs.memory_folder.index_of.Goals as goal

pub returns-in-Less-clause-absent : goal.returns-in-Less-clause-absent
returns-in-Less-clause-absent c =
    let lt : c.loop-at.at < length c.args.names.now.items = omega arith in
    let long = length-map c.args.names.now.items string_bytes in
    (omega arith, added_at c.args.name.now (map string_bytes c.args.names.now.items) c.loop-at.at c.loop-at.invariant (omega (arith, long, lt)) (λ below. compared_at c.args.names.now.items c.loop-at.at c.index.result.now c.args.name.now Less lt c.index.ensures (sym c.in-Less.is ∙ c.order_of.ensures)))

pub returns-in-Equal-clause-there : goal.returns-in-Equal-clause-there
returns-in-Equal-clause-there c =
    let lt : c.loop-at.at < length c.args.names.now.items = omega arith in
    let long = length-map c.args.names.now.items string_bytes in
    there_already c.args.name.now (map string_bytes c.args.names.now.items) c.loop-at.at c.loop-at.invariant (omega (arith, long, lt)) (compared_at c.args.names.now.items c.loop-at.at c.index.result.now c.args.name.now Equal lt c.index.ensures (sym c.in-Equal.is ∙ c.order_of.ensures))

pub loop-at-preserved : goal.loop-at-preserved
loop-at-preserved c =
    let lt : c.loop-at.at < length c.args.names.now.items = omega arith in
    below_more c.args.name.now (map string_bytes c.args.names.now.items) c.loop-at.at c.loop-at.invariant (compared_at c.args.names.now.items c.loop-at.at c.index.result.now c.args.name.now Greater lt c.index.ensures (sym c.in-Greater.is ∙ c.order_of.ensures))

pub returns-clause-absent : goal.returns-clause-absent
returns-clause-absent c =
    let long = length-map c.args.names.now.items string_bytes in
    (omega arith, added_at c.args.name.now (map string_bytes c.args.names.now.items) c.len.result (λ j lt. c.loop-at.invariant j (omega (arith, lt))) (omega (arith, long)) (λ lt. absurd (omega (arith, long, lt))))
