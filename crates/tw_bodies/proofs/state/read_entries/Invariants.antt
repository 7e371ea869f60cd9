use Rattle.std.proofs.Common.{◌≡◌, ◌-◌}
use Rattle.tw_bodies.specs.Reading.{entry_at}
use Rattle.tw_fields.specs.Reading.{many_at}
use Rattle.tw_fields.proofs.ReadLoop.{with_front}
use Rattle.tw_bodies.proofs.state.read_entries.Given as goal

abbrev pub invariant-loop : goal.invariant-loop
invariant-loop l = with_front l.entries.items (many_at entry_at (l.count - l.counter) l.rest) ≡ many_at entry_at l.count l.bytes
