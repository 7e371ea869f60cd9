-- Names of month files, and the texts that the files of these names have.
use Rattle.std.specs.Prelude.{ℕ, ◌+◌, ◌-◌, ◌*◌, Bool, ◌&&◌, ◌==◌, nat_le, List, [], ◌∷◌, ◌++◌, length, take, drop, slice_index, codes, cond, filter}
use Rattle.std.specs.Char.{is_ascii_digit}
use Rattle.std.specs.List.{list_all}
use Rattle.tw_world.specs.Folder.{same_bytes}
use Rattle.tw_time.specs.Basic.{text_of_parts, utc_parts}
use Rattle.tw_time.specs.Forms.{digit_at}
use Rattle.timew_interval.specs.Line.{line_text, lines_text}
use Rattle.timew_interval.specs.declared.interval.Interval.{Interval}

-- the number of two digits
abbrev pub two_digits : List ℕ → ℕ
two_digits digits = (slice_index digits 0 - 48) * 10 + (slice_index digits 1 - 48)

-- the name of a month file: four digits of a year, a hyphen, a month from 01 to 12, and `.data`
abbrev pub is_month_name : List ℕ → Bool
is_month_name name =
    (length name == 12) && list_all is_ascii_digit (take 4 name) && (slice_index name 4 == 45) && list_all is_ascii_digit (take 2 (drop 5 name))
    && nat_le 1 (two_digits (drop 5 name)) && nat_le (two_digits (drop 5 name)) 12 && same_bytes (drop 7 name) (codes ".data")

-- the name of the month file for a second
unfoldable pub month_name : ℕ → List ℕ
month_name at = text_of_parts (codes "YYYY-MM.data") (utc_parts at)

-- the name of the month file of a year and a month
abbrev pub name_of : ℕ → ℕ → List ℕ
name_of year month = digit_at year 1000 ∷ digit_at year 100 ∷ digit_at year 10 ∷ digit_at year 1 ∷ 45 ∷ digit_at month 10 ∷ digit_at month 1 ∷ codes ".data"

-- the interval starts in the month of a file
abbrev pub is_in_month : List ℕ → Interval → Bool
is_in_month name r = same_bytes (month_name r.start) name

-- the text of a month file: the lines of the intervals that start in its month
abbrev pub month_text : List ℕ → List Interval → List ℕ
month_text name rows = lines_text (filter (is_in_month name) rows)

-- what a month file has of an interval
abbrev pub row_text : List ℕ → Interval → List ℕ
row_text name r = cond (is_in_month name r) (line_text r ++ 10 ∷ []) []
