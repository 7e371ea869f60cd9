use Rattle.std.proofs.Common.{length}
use Rattle.tw_server.proofs.Buckets.{IsWalk}
use Rattle.tw_server.proofs.versions.found.Given as goal

abbrev pub invariant-loop-after : goal.invariant-loop-after
invariant-loop-after l = IsWalk (length l.index.ends.items) l.by_parent l.client l.key l.entries l.after l.first

abbrev pub decreases-loop-after : goal.decreases-loop-after
decreases-loop-after l = l.after
