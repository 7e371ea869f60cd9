use Rattle.std.proofs.Common.{◌≡◌, ◌-◌}
use Rattle.tw_bodies.specs.Reading.{pair_at}
use Rattle.tw_fields.specs.Reading.{many_at}
use Rattle.tw_fields.proofs.ReadLoop.{with_front}
use Rattle.tw_bodies.proofs.task.read_pairs.Given as goal

abbrev pub invariant-loop : goal.invariant-loop
invariant-loop l = with_front l.pairs.items (many_at pair_at (l.count - l.counter) l.rest) ≡ many_at pair_at l.count l.bytes
