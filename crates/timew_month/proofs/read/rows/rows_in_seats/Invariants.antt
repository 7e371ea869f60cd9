use Rattle.std.proofs.Common.{◌≡◌}
use Rattle.timew_month.specs.Gathered.{seats_of}
use Rattle.timew_month.specs.Rows.{rows_in}
use Rattle.timew_month.proofs.read.rows.rows_in_seats.Given as goal

abbrev pub invariant-loop-seat : goal.invariant-loop-seat
invariant-loop-seat l = l.rows.items ≡ rows_in (seats_of l.yielded)
