use Rattle.std.proofs.Common.{◌≡◌, ◌-◌}
use Rattle.tw_bodies.specs.Reading.{op_at}
use Rattle.tw_fields.specs.Reading.{many_at}
use Rattle.tw_fields.proofs.ReadLoop.{with_front}
use Rattle.tw_bodies.proofs.op.read_ops.Given as goal

abbrev pub invariant-loop : goal.invariant-loop
invariant-loop l = with_front l.ops.items (many_at op_at (l.count - l.counter) l.rest) ≡ many_at op_at l.count l.bytes
