-- From which second on a report of hours is, and up to which.
use Rattle.std.specs.Prelude.{ℕ, ◌-◌, List, [], ◌∷◌, min}
use Rattle.tw_time.specs.Moments.{TimeZone}
use Rattle.timew_interval.specs.declared.interval.Interval.{Interval}
use Rattle.timew_interval.specs.Interval.{limit}
use Rattle.timew_words.specs.Ranges.{bounds}
use Rattle.timew_cmd.specs.Ranges.{measured}
use Rattle.timew_words.specs.declared.range.Range.{Range}
use Rattle.timew_words.specs.declared.range.Range.TheVariants.{All}

abbrev pub first_start : List Interval → ℕ
first_start [] = 0
first_start (r ∷ rows) = r.start

-- the end of the last interval, which is the latest
abbrev pub last_end : (now : ℕ) → List Interval → ℕ
last_end now [] = 0
last_end now (r ∷ []) = measured now r
last_end now (r ∷ next ∷ rows) = last_end now (next ∷ rows)

-- all is from the first start to the last end; another range ends with the last second of the range of moments at the latest
abbrev pub hours_of : Range → List Interval → (now : ℕ) → TimeZone → ℕ × ℕ
hours_of All rows now zone = (first_start rows, last_end now rows)
hours_of range rows now zone = ((bounds range now zone).0, min (bounds range now zone).1 (limit - 1))
