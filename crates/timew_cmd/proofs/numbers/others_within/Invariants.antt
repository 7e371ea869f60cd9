use Rattle.std.proofs.Common.{◌≡◌, ◌++◌, drop}
use Rattle.timew_cmd.specs.Numbers.{numbered, without, rows_in}
use Rattle.timew_cmd.proofs.numbers.others_within.Given as goal

abbrev pub invariant-loop-k : goal.invariant-loop-k
invariant-loop-k l = l.others.items ++ rows_in (without l.ids.given.now (numbered (drop l.k l.rows))) ≡ rows_in (without l.ids.given.now (numbered (drop l.at l.rows)))
