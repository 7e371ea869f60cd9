use Rattle.std.proofs.Common.{◌≤◌, ◌-◌}
use Rattle.timew_cmd.specs.Numbers.{NoneAmong}
use Rattle.timew_cmd.proofs.chosen.Chosen.at_the_end.Given as goal

abbrev pub invariant-loop-back : goal.invariant-loop-back
invariant-loop-back l = record {
  inside : l.back ≤ l.count;
  others : NoneAmong l.self.given.now 0 l.back;
}

abbrev pub decreases-loop-back : goal.decreases-loop-back
decreases-loop-back l = l.count - l.back
