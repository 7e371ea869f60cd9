use Rattle.std.proofs.Common.{◌≡◌, ◌+◌, length}
use Rattle.tw_bodies.specs.Reading.{sync_op_at}
use Rattle.tw_bodies.specs.Runs.{IsRun}
use Rattle.tw_fields.specs.Reading.{many_at, with_front}
use Rattle.tw_bodies.proofs.run.read_run.Given as goal

abbrev pub invariant-loop-left : goal.invariant-loop-left
invariant-loop-left l = record {
  read : with_front l.ops.items (many_at sync_op_at l.left l.rest) ≡ many_at sync_op_at l.count l.bytes;
  run : IsRun l.ops.items;
  sum : length l.ops.items + l.left ≡ l.count;
}

abbrev pub decreases-loop-left : goal.decreases-loop-left
decreases-loop-left l = l.left
