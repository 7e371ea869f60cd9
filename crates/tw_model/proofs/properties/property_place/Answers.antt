use Rattle.std.proofs.Common.{sym, arith}
use Rattle.tw_model.proofs.Sorted.{searching_less, searching_greater}
use Rattle.tw_model.proofs.properties.property_place.Goals as goal

pub loop-low-preserved-in-Less : goal.loop-low-preserved-in-Less
loop-low-preserved-in-Less c =
    searching_less c.args.entries.now.items c.args.property.now c.loop-low.low c.loop-low.high _ c.index.result.now c.requires c.loop-low.invariant (omega arith) (omega arith) c.index.ensures (sym c.in-Less.ensures)

pub loop-low-preserved : goal.loop-low-preserved
loop-low-preserved c =
    searching_greater c.args.entries.now.items c.args.property.now c.loop-low.low c.loop-low.high _ c.index.result.now c.requires c.loop-low.invariant (omega arith) (omega arith) c.index.ensures (sym c.in-Greater.ensures)
