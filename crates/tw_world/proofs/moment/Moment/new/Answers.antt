use Rattle.std.proofs.Common.{arith, sym}
use Rattle.tw_world.proofs.Range.{moment_of-numbers, moment_of-late, moment_of-full}
use Rattle.tw_world.proofs.moment.Moment.new.Goals as goal
use Rattle.tw_world.proofs.moment.Moment.new.Goals.{else-seconds-lt-MOMENT_LIMIT-via-then-seconds-lt-MOMENT_LIMIT+else-nanos-lt1000000000, else-seconds-lt-MOMENT_LIMIT-via-else-seconds-lt-MOMENT_LIMIT}

pub returns-then-nanos-lt1000000000 : goal.returns-then-nanos-lt1000000000
returns-then-nanos-lt1000000000 c = sym (moment_of-numbers _)

pub returns-else-seconds-lt-MOMENT_LIMIT : goal.returns-else-seconds-lt-MOMENT_LIMIT
returns-else-seconds-lt-MOMENT_LIMIT c = elim c.else-seconds-lt-MOMENT_LIMIT.branch [
  | else-seconds-lt-MOMENT_LIMIT-via-then-seconds-lt-MOMENT_LIMIT+else-nanos-lt1000000000 w ↦ sym (moment_of-full c.args.seconds c.args.nanos (omega (arith, w)))
  | else-seconds-lt-MOMENT_LIMIT-via-else-seconds-lt-MOMENT_LIMIT w ↦ sym (moment_of-late c.args.seconds c.args.nanos (omega (arith, w)))
]
