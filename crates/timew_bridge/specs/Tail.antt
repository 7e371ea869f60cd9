-- Edits of the last intervals.
use Rattle.std.specs.Prelude.{◌≡◌, ◌+◌, true, is_some, List, length, take}
use Rattle.std.specs.List.{AllByRecursion}
use Rattle.timew_interval.specs.declared.interval.Interval.{Interval}
use Rattle.timew_interval.specs.declared.edit.Edit.{Edit}
use Rattle.timew_interval.specs.Edit.{IsEditOf}

-- the interval has an end
abbrev pub IsClosed : Interval → Type 0
IsClosed r = is_some r.end ≡ true

-- the edit of these intervals goes to their end, leaves them in order, and the ones before it have ended
pub record IsTailOf (rows : List Interval) (e : Edit) : Type 0 where
  pub whole : e.at + e.count ≡ length rows
  pub edit : IsEditOf rows e
  pub closed : AllByRecursion IsClosed (take e.at rows)
