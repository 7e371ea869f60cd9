-- What a zone's clock shows, as a text of a form.
use Rattle.std.specs.Prelude.{ℕ, List, codes, Option, Some}
use Rattle.jiff.specs.Types.{TimeZone}
use Rattle.tw_time.specs.declared.form.Parts.{Parts}
use Rattle.tw_time.specs.Civil.{shown_date, shown_time}
use Rattle.tw_time.specs.Basic.{◌>>=◌, parts_of, text_of_parts}

-- the numbers that a zone's clock shows at a second, if it shows a date then
abbrev pub shown_parts : TimeZone → ℕ → Option Parts
shown_parts tz at = do
  date ← shown_date tz at
  time ← shown_time tz at
  Some (parts_of date time)

-- the day that it shows, as 2026-03-04
unfoldable pub shown_day_text : TimeZone → ℕ → List ℕ
shown_day_text tz at = text_of_parts (codes "YYYY-MM-DD") (shown_parts tz at)
