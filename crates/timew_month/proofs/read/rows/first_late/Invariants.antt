use Rattle.std.proofs.Common.{◌≡◌, take, None}
use Rattle.timew_month.specs.Gathered.{seats_of}
use Rattle.timew_month.proofs.LateRows.{IsLatest, rest_late}
use Rattle.timew_month.proofs.read.rows.first_late.Given as goal

abbrev pub invariant-loop-seat : goal.invariant-loop-seat
invariant-loop-seat l = IsLatest l.end (seats_of (take l.seat-index l.seats.items)) × (rest_late l.seats.items l.seat-index l.least ≡ rest_late l.seats.items 0 None)
