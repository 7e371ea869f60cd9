use Rattle.std.proofs.Common.{arith}
use Rattle.tw_model.specs.Places.{id_from}
use Rattle.tw_model.proofs.Placing.{id_more, id_found, id_end}
use Rattle.tw_model.proofs.places.id_of.Goals as goal

pub returns-then-has_uuid : goal.returns-then-has_uuid
returns-then-has_uuid c = id_found c.args.numbers.now.items c.args.uuid c.loop-at.at c.index.result.now c.has_uuid.result (id_from 1 c.args.uuid c.args.numbers.now.items) (omega arith) c.index.ensures c.has_uuid.ensures c.if-has_uuid.true c.loop-at.invariant

pub loop-at-preserved : goal.loop-at-preserved
loop-at-preserved c = id_more c.args.numbers.now.items c.args.uuid c.loop-at.at c.index.result.now c.has_uuid.result (id_from 1 c.args.uuid c.args.numbers.now.items) (omega arith) c.index.ensures c.has_uuid.ensures c.if-has_uuid.false c.loop-at.invariant

pub returns : goal.returns
returns c = id_end c.args.numbers.now.items c.args.uuid c.loop-at.at (id_from 1 c.args.uuid c.args.numbers.now.items) (omega arith) c.loop-at.invariant
