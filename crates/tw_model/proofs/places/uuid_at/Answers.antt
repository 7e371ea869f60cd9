use Rattle.std.proofs.Common.{arith}
use Rattle.tw_model.proofs.Placing.{uuid_at_get, uuid_at_end}
use Rattle.tw_model.proofs.places.uuid_at.Goals as goal

pub returns-then-at-len : goal.returns-then-at-len
returns-then-at-len c = uuid_at_get c.args.numbers.now.items c.args.at c.index.result.now (omega arith) c.index.ensures

pub returns-else-at-len : goal.returns-else-at-len
returns-else-at-len c = uuid_at_end c.args.numbers.now.items c.args.at (omega arith)
