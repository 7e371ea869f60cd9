use Rattle.std.proofs.Common.{◌≡◌, ◌++◌, drop}
use Rattle.timew_cmd.specs.Commands.Split.{halved}
use Rattle.timew_cmd.proofs.commands.split.halved_within.Given as goal

abbrev pub invariant-loop-k : goal.invariant-loop-k
invariant-loop-k l = l.out.items ++ halved l.ids.given.now l.now (drop l.k l.rows) ≡ halved l.ids.given.now l.now (drop l.at l.rows)
