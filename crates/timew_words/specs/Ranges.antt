-- Ranges of time: timew-ranges(7).
use Rattle.std.specs.Prelude.{ℕ, codes, Result, Ok, Err}
use Rattle.tw_time.specs.Moments.{TimeZone, moment}
use Rattle.tw_time.specs.declared.error.DateError.{DateError}
use Rattle.timew_interval.specs.Interval.{limit}
use Rattle.timew_words.specs.declared.range.Range.{Range}
use Rattle.timew_words.specs.declared.range.Range.TheVariants.{Day, Week, All, Between}

-- the moment, if it is in range
abbrev pub or_else : ℕ → Result ℕ DateError → ℕ
or_else other (Ok at) = at
or_else other (Err e) = other

-- from which second on a range is, and up to which
abbrev pub bounds : Range → (now : ℕ) → TimeZone → ℕ × ℕ
bounds Day now zone = (or_else 0 (moment (codes "today") now zone), or_else limit (moment (codes "tomorrow") now zone))
bounds Week now zone = (or_else 0 (moment (codes "sow") now zone), or_else limit (moment (codes "monday") now zone))
bounds All now zone = (0, limit)
bounds (Between start end) now zone = (start, end)
