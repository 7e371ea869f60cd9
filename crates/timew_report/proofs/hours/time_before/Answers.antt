use Rattle.std.proofs.Common.{arith}
use Rattle.timew_cmd.proofs.Totals.{room}
use Rattle.timew_report.proofs.Seconds.{late_rest}
use Rattle.timew_report.proofs.hours.time_before.Goals as goal

pub overflow_add-seconds : goal.overflow_add-seconds
overflow_add-seconds c = omega (arith, c.seconds_within-seconds.ensures, room c.args.from c.args.to c.args.now c.loop-row.seconds c.args.rows.now c.loop-row.row-index c.row-item.result c.requires.rows c.requires.now c.loop-row-test.true c.row-item.is c.loop-row.invariant)

pub returns-then-to-row : goal.returns-then-to-row
returns-then-to-row c = late_rest c.args.from c.args.to c.args.now c.loop-row.row-index c.args.rows.now c.row-item.result c.loop-row.seconds c.requires.rows c.loop-row-test.true c.row-item.is c.if-to-row.true c.loop-row.invariant
