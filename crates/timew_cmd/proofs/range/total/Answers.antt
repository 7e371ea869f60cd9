use Rattle.std.proofs.Common.{arith}
use Rattle.timew_cmd.proofs.Totals.{room}
use Rattle.timew_cmd.proofs.range.total.Goals as goal

pub overflow_add-seconds : goal.overflow_add-seconds
overflow_add-seconds c = omega (arith, c.seconds_within-seconds.ensures, room c.args.from c.args.to c.args.now c.loop-row.seconds c.args.rows.now c.loop-row.row-index c.row-item.result c.requires.rows c.requires.now c.loop-row-test.true c.row-item.is c.loop-row.invariant)
