-- The open interval, and the moment at which it ends.
use Rattle.std.specs.Prelude.{ℕ, List, [], ◌∷◌, Option, Some, None, if◌then◌else◌, ◌++◌, nat_le}
use Rattle.timew_interval.specs.Placing.{spanning}
use Rattle.timew_interval.specs.declared.interval.Interval.{Interval}

-- the rows before the open one, and it
abbrev pub in_front : Interval → Option (List Interval × Interval) → Option (List Interval × Interval)
in_front r None = None
in_front r (Some open_row) = Some (r ∷ open_row.0, open_row.1)

abbrev pub open_or : Option ℕ → Interval → Option (List Interval × Interval)
open_or None r = Some ([], r)
open_or (Some end) r = None

-- after these rows
abbrev pub open_from_rows : List Interval → Option (List Interval × Interval) → Option (List Interval × Interval)
open_from_rows front None = None
open_from_rows front (Some o) = Some (front ++ o.0, o.1)

abbrev pub open_of : List Interval → Option (List Interval × Interval)
open_of [] = None
open_of (r ∷ []) = open_or r.end r
open_of (r ∷ next ∷ rows) = in_front r (open_of (next ∷ rows))

abbrev pub moment_or : ℕ → Option ℕ → ℕ
moment_or now None = now
moment_or now (Some at) = at

-- the open interval ends at a moment, if it has begun then
abbrev pub with_ended : ℕ → List Interval → Option (List Interval × Interval) → List Interval
with_ended at rows None = rows
with_ended at rows (Some o) = if nat_le o.1.start at then o.0 ++ spanning o.1.start (Some at) o.1 ∷ [] else rows
