use Rattle.std.proofs.Common.{◌≡◌, ◌++◌, drop}
use Rattle.timew_interval.specs.MonthName.{month_text}
use Rattle.timew_interval.proofs.month.month_text.Given as goal

abbrev pub invariant-loop-row : goal.invariant-loop-row
invariant-loop-row l = l.out.items ++ month_text l.name (drop l.row-index l.rows) ≡ month_text l.name l.rows
