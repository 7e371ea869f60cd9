-- `summary`: the intervals as a table, timew-summary(1).
use Rattle.std.specs.Fmt.{decimal}
use Rattle.std.specs.Prelude.{ℕ, List, [], ◌∷◌, codes, true, false, map, ◌++◌, max, min}
use Rattle.tw_text.specs.Table.{Layout, table}
use Rattle.tw_time.specs.Moments.{TimeZone}
use Rattle.timew_interval.specs.declared.interval.Interval.{Interval}
use Rattle.timew_cmd.specs.Ranges.{measured, rows_within, seconds_within, total}
use Rattle.timew_cmd.specs.Texts.{tags_text, shown_text, length_text}

abbrev pub columns : Layout
columns = (codes "ID", true) ∷ (codes "Start", false) ∷ (codes "End", false) ∷ (codes "Time", false) ∷ (codes "Tags", false) ∷ []

-- a row of the table: an interval with its number, cut to a range
abbrev pub cells : (from to now : ℕ) → TimeZone → ℕ × Interval → List (List ℕ)
cells from to now zone r =
    decimal r.0 ∷ shown_text zone (max r.1.start from) ∷ shown_text zone (min (measured now r.1) to)
    ∷ length_text (seconds_within from to now r.1) ∷ tags_text r.1.tags ∷ []

-- the intervals in a range as a table, and how long they are together
abbrev pub summary : List Interval → (from to now : ℕ) → TimeZone → List ℕ
summary rows from to now zone =
    table columns (map (cells from to now zone) (rows_within from to now rows))
    ++ codes "\nTotal " ++ length_text (total from to now rows) ++ codes "\n"
