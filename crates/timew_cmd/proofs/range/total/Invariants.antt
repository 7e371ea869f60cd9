use Rattle.std.proofs.Common.{◌≡◌, ◌+◌, drop}
use Rattle.timew_cmd.specs.Ranges.{total}
use Rattle.timew_cmd.proofs.range.total.Given as goal

abbrev pub invariant-loop-row : goal.invariant-loop-row
invariant-loop-row l = l.seconds + total l.from l.to l.now (drop l.row-index l.rows) ≡ total l.from l.to l.now l.rows
