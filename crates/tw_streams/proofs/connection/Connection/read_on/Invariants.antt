use Rattle.std.proofs.Common.{◌≡◌, ◌-◌, ℕ, List, length}
use Rattle.std.specs.Io.KnownBytes.{Consumes}
use Rattle.tw_streams.proofs.connection.Connection.read_on.Given as goal

abbrev pub invariant-loop-count : goal.invariant-loop-count
invariant-loop-count g l = (bytes : List ℕ) × Consumes (g.S.TimedStream.remaining l.fn.self.stream) (g.S.TimedStream.remaining l.self.stream) bytes × (l.count ≡ length bytes) × (g.S.TimedStream.is_ended l.fn.self.stream → g.S.TimedStream.is_ended l.self.stream) × (g.S.TimedStream.contents l.self.stream ≡ g.S.TimedStream.contents l.fn.self.stream) × (l.self ≡ record l.fn.self { stream = l.self.stream })

abbrev pub decreases-loop-count : goal.decreases-loop-count
decreases-loop-count g l = 67108864 - l.count
