-- The end of the last interval.
use Rattle.std.proofs.Common.{◌≡◌, ℕ, ◌<◌, List, [], ◌∷◌, ◌++◌, refl, arith}
use Rattle.timew_interval.specs.declared.interval.Interval.{Interval}
use Rattle.timew_interval.specs.Interval.{limit, AreRows}
use Rattle.timew_cmd.specs.Ranges.{measured}
use Rattle.timew_cmd.proofs.RowsInOrder.{last_row}
use Rattle.timew_cmd.proofs.Totals.{within_ends}
use Rattle.timew_report.specs.Bounds.{last_end}

pub last_of : (now : ℕ) (front : List Interval) (r : Interval) → last_end now (front ++ r ∷ []) ≡ measured now r
last_of now [] r = refl
last_of now (x ∷ []) r = refl
last_of now (x ∷ y ∷ front) r = last_of now (y ∷ front) r

pub last_in_range : (now : ℕ) (front : List Interval) (r : Interval) → AreRows (front ++ r ∷ []) → now < limit → measured now r < limit
last_in_range now front r are small = let end = within_ends limit now r (last_row front r are) small in omega (arith, end)
