use Rattle.std.proofs.Common.{◌≡◌, ◌≤◌, ◌+◌, true, length, drop}
use Rattle.tw_bodies.specs.Body.{has_no_point}
use Rattle.tw_bodies.specs.Reading.{op_at}
use Rattle.tw_fields.specs.Reading.{many_at, with_front}
use Rattle.tw_state.specs.State.{begins_with_point}
use Rattle.tw_state.specs.Restoring.{begins_a_command}
use Rattle.tw_state.proofs.restore.read_command.Given as goal

abbrev pub invariant-loop-left : goal.invariant-loop-left
invariant-loop-left l = record {
  read : with_front l.ops.items (many_at op_at l.left l.rest) ≡ many_at op_at l.count l.bytes;
  first : begins_with_point l.ops.items ≡ begins_a_command l.bytes;
  others : has_no_point (drop 1 l.ops.items) ≡ true;
  sum : length l.ops.items + l.left ≡ l.count;
  some : 1 ≤ length l.ops.items;
}

abbrev pub decreases-loop-left : goal.decreases-loop-left
decreases-loop-left l = l.left
