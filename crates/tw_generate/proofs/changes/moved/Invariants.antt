-- the changes of the tasks so far
use Rattle.std.proofs.Common.{◌≡◌}
use Rattle.tw_generate.specs.Changes.{moved}
use Rattle.tw_generate.proofs.changes.moved.Given as goal

abbrev pub invariant-loop-i : goal.invariant-loop-i
invariant-loop-i l = l.changes.items ≡ moved l.seed l.divisor l.project l.i
