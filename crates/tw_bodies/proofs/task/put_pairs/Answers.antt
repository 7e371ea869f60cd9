use Rattle.std.proofs.Common.{◌++◌, arith}
use Rattle.std.specs.List.{flat_map}
use Rattle.std.specs.FinMap as map
use Rattle.tw_bodies.specs.Body.{pair_bytes}
use Rattle.tw_bodies.proofs.TaskWritten.{written_more, written_end, pairs_more, pairs_end}
use Rattle.tw_bodies.proofs.task.put_pairs.Goals as goal

pub loop-n-preserved : goal.loop-n-preserved
loop-n-preserved c = (written_more c.args.task.now c.loop-n.n c.loop-n.out.items c.put_pair.new.out.items (c.args.out.now.items ++ flat_map pair_bytes (map.entries c.args.task.now)) (omega arith) c.in_ok-put_pair.ensures.put c.loop-n.invariant.0, pairs_more c.args.task.now c.loop-n.n (omega arith) c.in_ok-put_pair.ensures.is c.loop-n.invariant.1)

pub returns-clause-is : goal.returns-clause-is
returns-clause-is c = pairs_end c.args.task.now c.loop-n.n (omega arith) c.loop-n.invariant.1

pub returns-clause-put : goal.returns-clause-put
returns-clause-put c = written_end c.args.task.now c.loop-n.n c.loop-n.out.items (c.args.out.now.items ++ flat_map pair_bytes (map.entries c.args.task.now)) (omega arith) c.loop-n.invariant.0
