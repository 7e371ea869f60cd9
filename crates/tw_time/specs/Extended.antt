-- The extended format of ISO 8601 in UTC, without a fraction of the second and without a mark for the zone.
use Rattle.std.specs.Prelude.{ℕ, List, codes, Option, Some, ℤ, pos, ◌+ℤ◌, ◌*ℤ◌}
use Rattle.jiff_core.specs.Time.{time_seconds}
use Rattle.jiff.specs.Types.{Date, Time}
use Rattle.jiff.specs.Words.{epoch_day}
use Rattle.tw_time.specs.declared.form.Parts.{Parts}
use Rattle.tw_time.specs.Civil.{date_of, time_of}
use Rattle.tw_time.specs.Forms.{filled}
use Rattle.tw_time.specs.Basic.{◌>>=◌, utc_parts, text_of_parts}

-- the extended text of a second, as 2026-03-04T10:00:00
unfoldable pub extended : ℕ → List ℕ
extended at = text_of_parts (codes "YYYY-MM-DDThh:mm:ss") (utc_parts at)

-- the seconds from 1970-01-01T00:00:00 to a date and time
abbrev pub civil_second : Date → Time → ℤ
civil_second d t = epoch_day d *ℤ pos 86_400 +ℤ pos (time_seconds t)

-- the seconds up to the date and time with these numbers, if the calendar and the clock have them
unfoldable pub second_of_parts : Parts → Option ℤ
second_of_parts p = do
  date ← date_of (pos p.year) p.month p.day
  time ← time_of p.hour p.minute p.second
  Some (civil_second date time)

-- the seconds up to the date and time whose extended text this is; those before 1970 are below 0
unfoldable pub extended_second : List ℕ → Option ℤ
extended_second text = filled (codes "YYYY-MM-DDThh:mm:ss") text >>= second_of_parts

-- the second of the day at a time of day whose text is hh:mm
unfoldable pub clock_second : List ℕ → Option ℕ
clock_second text = do
  p ← filled (codes "hh:mm") text
  time ← time_of p.hour p.minute 0
  Some (time_seconds time)
