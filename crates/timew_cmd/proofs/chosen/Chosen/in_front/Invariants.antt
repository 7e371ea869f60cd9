use Rattle.std.proofs.Common.{◌≤◌, ◌-◌}
use Rattle.timew_cmd.specs.Numbers.{NoneAmong}
use Rattle.timew_cmd.proofs.chosen.Chosen.in_front.Given as goal

abbrev pub invariant-loop-front : goal.invariant-loop-front
invariant-loop-front l = record {
  inside : l.front ≤ l.count;
  others : NoneAmong l.self.given.now (l.count - l.front) l.count;
}

abbrev pub decreases-loop-front : goal.decreases-loop-front
decreases-loop-front l = l.count - l.front
