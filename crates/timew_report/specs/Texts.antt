-- What the reports of hours print: timew(1).
use Rattle.std.specs.Prelude.{ℕ, ◌-◌, min, false, List, [], ◌∷◌, ◌++◌, codes, map, Result, Ok, Err}
use Rattle.std.specs.List.{flat_map}
use Rattle.std.specs.FinMap.{entries}
use Rattle.tw_text.specs.Columns.{cell_text}
use Rattle.tw_text.specs.Table.{Layout, table}
use Rattle.tw_time.specs.Moments.{TimeZone, moment}
use Rattle.tw_time.specs.Shown.{shown_day_text}
use Rattle.tw_time.specs.declared.error.DateError.{DateError}
use Rattle.timew_interval.specs.declared.interval.Interval.{Interval}
use Rattle.timew_cmd.specs.Texts.{shown_text, length_text}
use Rattle.timew_words.specs.declared.command.TimeReport.{TimeReport}
use Rattle.timew_words.specs.declared.command.TimeReport.TheVariants.{Gaps, Days, Weeks, Totals}
use Rattle.timew_report.specs.declared.days.Span.{Span}
use Rattle.timew_report.specs.declared.days.Span.TheVariants.{Day, Week}
use Rattle.timew_report.specs.Time.{count, time}
use Rattle.timew_report.specs.Gaps.{Stretch, gaps, is_free}
use Rattle.timew_report.specs.Days.{end_of, days}
use Rattle.timew_report.specs.Totals.{totals}

-- a blank line and a sum
abbrev pub sum_text : ℕ → List ℕ
sum_text seconds = codes "\nTotal " ++ length_text seconds ++ codes "\n"

-- a name and a time
abbrev pub line_text : List ℕ → ℕ → List ℕ
line_text name seconds = name ++ codes " " ++ length_text seconds ++ codes "\n"

-- ---- gaps

abbrev pub columns : Layout
columns = (codes "Start", false) ∷ (codes "End", false) ∷ (codes "Time", false) ∷ []

abbrev pub gap_cells : TimeZone → Stretch → List (List ℕ)
gap_cells zone t = shown_text zone t.0 ∷ shown_text zone t.1 ∷ length_text (t.1 - t.0) ∷ []

abbrev pub gaps_text : List Interval → (from to now : ℕ) → TimeZone → List ℕ
gaps_text rows from to now zone =
    table columns (map (gap_cells zone) (gaps rows from to now)) ++ sum_text (count (is_free rows now) from (to - from))

-- ---- days and weeks

-- the Monday of a week that begins at this moment; the only week with moments that begins before the first one has that of 1969
abbrev pub monday_text : TimeZone → Result ℕ DateError → List ℕ
monday_text zone (Ok at) = shown_day_text zone at
monday_text zone (Err e) = codes "1969-12-29"

-- the day of a second, or the Monday of its week
abbrev pub name_of : Span → TimeZone → ℕ → List ℕ
name_of Day zone at = shown_day_text zone at
name_of Week zone at = monday_text zone (moment (codes "sow") at zone)

-- a day's name, and the time from its first tracked second to its end, or to that of the range
abbrev pub day_line : Span → TimeZone → List Interval → (to now : ℕ) → ℕ → List ℕ
day_line span zone rows to now at = line_text (name_of span zone at) (time rows at (min (end_of span zone at) to) now)

abbrev pub days_text : Span → TimeZone → List Interval → (from to now : ℕ) → List ℕ
days_text span zone rows from to now =
    flat_map (day_line span zone rows to now) (days span zone rows from to now) ++ sum_text (time rows from to now)

-- ---- tags

abbrev pub tag_line : List ℕ × ℕ → List ℕ
tag_line t = line_text (cell_text t.0) t.1

abbrev pub totals_text : List Interval → (from to now : ℕ) → List ℕ
totals_text rows from to now = flat_map tag_line (entries (totals rows from to now)) ++ sum_text (time rows from to now)

-- ---- all

-- the text of a report of the hours in a range
abbrev pub time_text : TimeReport → List Interval → (from to now : ℕ) → TimeZone → List ℕ
time_text Gaps rows from to now zone = gaps_text rows from to now zone
time_text Days rows from to now zone = days_text Day zone rows from to now
time_text Weeks rows from to now zone = days_text Week zone rows from to now
time_text Totals rows from to now zone = totals_text rows from to now
