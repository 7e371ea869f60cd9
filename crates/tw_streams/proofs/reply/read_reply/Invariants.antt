use Rattle.std.proofs.Common.{◌≤◌, ◌-◌, length}
use Rattle.std.specs.Io.KnownBytes.{Consumes}
use Rattle.tw_streams.specs.Framing.{longest, IsNoMore}
use Rattle.tw_streams.proofs.reply.read_reply.Given as goal

abbrev pub invariant-loop-piece : goal.invariant-loop-piece
invariant-loop-piece g l = (length l.reply.items ≤ longest) × Consumes (g.S.Reader.remaining l.fn.stream) (g.S.Reader.remaining l.stream) l.reply.items × IsNoMore g.N.Framing.ends_at l.reply.items

abbrev pub decreases-loop-piece : goal.decreases-loop-piece
decreases-loop-piece g l = longest - length l.reply.items
