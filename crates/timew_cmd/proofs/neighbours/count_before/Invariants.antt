use Rattle.std.proofs.Common.{◌≤◌, ◌-◌, length, take}
use Rattle.timew_cmd.specs.Numbers.{NoneAmong}
use Rattle.timew_cmd.specs.Placing.{AllBefore}
use Rattle.timew_cmd.proofs.neighbours.count_before.Given as goal

abbrev pub invariant-loop-count : goal.invariant-loop-count
invariant-loop-count l = record {
  inside : l.count ≤ length l.rows;
  before : AllBefore l.new (take l.count l.rows);
  others : NoneAmong l.ids.given.now (length l.rows - l.count) (length l.rows);
}

abbrev pub decreases-loop-count : goal.decreases-loop-count
decreases-loop-count l = length l.rows - l.count
