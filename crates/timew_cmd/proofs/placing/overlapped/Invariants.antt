use Rattle.std.proofs.Common.{◌≡◌, drop}
use Rattle.timew_cmd.specs.Numbers.{numbered, without}
use Rattle.timew_cmd.specs.Placing.{overlapped, later_of}
use Rattle.timew_cmd.proofs.placing.overlapped.Given as goal

abbrev pub invariant-loop-k : goal.invariant-loop-k
invariant-loop-k l = later_of (overlapped l.new (without l.ids.given.now (numbered (drop l.k l.rows)))) l.found ≡ overlapped l.new (without l.ids.given.now (numbered l.rows))
