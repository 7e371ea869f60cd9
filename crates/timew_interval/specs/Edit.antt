-- Intervals that give way to others.
use Rattle.std.specs.Prelude.{ℕ, ◌+◌, ◌≤◌, List, ◌++◌, length, take, drop}
use Rattle.timew_interval.specs.declared.interval.Interval.{Interval}
use Rattle.timew_interval.specs.declared.edit.Edit.{Edit}
use Rattle.timew_interval.specs.Interval.{AreRows}

-- so many intervals from an index on give way to others
abbrev pub spliced : ℕ → ℕ → List Interval → List Interval → List Interval
spliced at count new rows = take at rows ++ (new ++ drop (at + count) rows)

-- the intervals after an edit
abbrev pub edited : Edit → List Interval → List Interval
edited e rows = spliced e.at e.count e.rows.items rows

-- the edit is one of these intervals, and leaves them in order
pub record IsEditOf (rows : List Interval) (e : Edit) : Type 0 where
  pub inside : e.at + e.count ≤ length rows
  pub are : AreRows (edited e rows)
