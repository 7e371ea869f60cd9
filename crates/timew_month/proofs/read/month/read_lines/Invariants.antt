use Rattle.std.proofs.Common.{◌≡◌, ◌+◌, ◌≤◌, true, length}
use Rattle.timew_month.specs.Month.{lines, rows_from, month_rows, with_rows}
use Rattle.std.specs.List.{AllByRecursion}
use Rattle.timew_interval.specs.Interval.{IsRow}
use Rattle.timew_month.proofs.ExactMonth.{IsFrontAfter}
use Rattle.timew_month.proofs.read.month.read_lines.Given as goal

abbrev pub invariant-loop-tails : goal.invariant-loop-tails
invariant-loop-tails l = record {
  numbers : l.number + length l.rest ≤ length l.bytes + 1;
  read : with_rows l.month.rows.items (rows_from l.number (lines l.rest)) ≡ with_rows l.fn.rows.items (month_rows l.bytes);
  are : AllByRecursion IsRow l.fn.rows.items → AllByRecursion IsRow l.month.rows.items;
  text : l.month.is_text ≡ true → IsFrontAfter l.fn.rows.items l.bytes l.rest l.month.rows.items;
}

abbrev pub decreases-loop-tails : goal.decreases-loop-tails
decreases-loop-tails l = length l.rest
