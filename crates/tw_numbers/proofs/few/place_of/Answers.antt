use Rattle.std.proofs.Common.{arith}
use Rattle.tw_numbers.proofs.FoundByScan.{not_yet, found_there, found_nowhere}
use Rattle.tw_numbers.proofs.few.place_of.Goals as goal

pub returns-then-is_of-clause-found : goal.returns-then-is_of-clause-found
returns-then-is_of-clause-found c = found_there c.args.places.now.items c.args.uuid c.loop-at.at c.index.result.now c.is_of.result (omega arith) c.index.ensures c.is_of.ensures c.if-is_of.true

pub loop-at-preserved : goal.loop-at-preserved
loop-at-preserved c = (not_yet c.args.places.now.items c.args.uuid c.loop-at.at c.index.result.now c.is_of.result (omega arith) c.index.ensures c.is_of.ensures c.if-is_of.false c.loop-at.invariant.0, omega arith)

pub returns-clause-none : goal.returns-clause-none
returns-clause-none c = found_nowhere c.args.places.now.items c.args.uuid c.loop-at.at (omega arith) c.loop-at.invariant.0
