-- The text of the month file of a year and a month.
use Rattle.std.specs.Prelude.{ℕ, ℤ, pos, unsigned_abs, int_le, nat_le, Bool, ◌&&◌, cond, List, []}
use Rattle.timew_interval.specs.MonthName.{month_text, name_of}
use Rattle.timew_interval.specs.declared.interval.Interval.{Interval}

-- the name of a month file has four digits of the year, and a month from 01 to 12
abbrev pub is_month_of : ℤ → ℕ → Bool
is_month_of year month = int_le (pos 0) year && int_le year (pos 9999) && nat_le 1 month && nat_le month 12

-- the lines of the intervals that start in the month; one that has no name has none
abbrev pub text_of_month : ℤ → ℕ → List Interval → List ℕ
text_of_month year month rows = cond (is_month_of year month) (month_text (name_of (unsigned_abs year) month) rows) []
