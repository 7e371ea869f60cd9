use Rattle.std.proofs.Common.{◌≡◌, ◌-◌}
use Rattle.tw_bodies.specs.Reading.{place_at}
use Rattle.tw_fields.specs.Reading.{many_at}
use Rattle.tw_fields.proofs.ReadLoop.{with_front}
use Rattle.tw_bodies.proofs.state.read_places.Given as goal

abbrev pub invariant-loop : goal.invariant-loop
invariant-loop l = with_front l.places.items (many_at place_at (l.count - l.counter) l.rest) ≡ many_at place_at l.count l.bytes
