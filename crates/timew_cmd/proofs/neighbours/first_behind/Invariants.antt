use Rattle.std.proofs.Common.{◌≤◌, ◌-◌, length, drop}
use Rattle.timew_cmd.specs.Numbers.{NoneAmong}
use Rattle.timew_cmd.specs.Placing.{AllBehind}
use Rattle.timew_cmd.proofs.neighbours.first_behind.Given as goal

abbrev pub invariant-loop-at : goal.invariant-loop-at
invariant-loop-at l = record {
  enough : l.from ≤ l.at;
  inside : l.at ≤ length l.rows;
  behind : AllBehind l.new (drop l.at l.rows);
  others : NoneAmong l.ids.given.now 0 (length l.rows - l.at);
}

abbrev pub decreases-loop-at : goal.decreases-loop-at
decreases-loop-at l = l.at
