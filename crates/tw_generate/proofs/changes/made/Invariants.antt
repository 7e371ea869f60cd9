-- the changes of the tasks so far
use Rattle.std.proofs.Common.{◌≡◌}
use Rattle.tw_generate.specs.Changes.{made}
use Rattle.tw_generate.proofs.changes.made.Given as goal

abbrev pub invariant-loop-i : goal.invariant-loop-i
invariant-loop-i l = l.changes.items ≡ made l.seed l.i
