-- The days and the weeks of a range in which something is tracked.
use Rattle.std.specs.Prelude.{ℕ, zero, suc, ◌+◌, ◌-◌, Bool, cond, ◌&&◌, nat_lt, nat_le, List, [], ◌∷◌, codes}
use Rattle.tw_time.specs.Moments.{TimeZone, moment}
use Rattle.timew_interval.specs.declared.interval.Interval.{Interval}
use Rattle.timew_interval.specs.Interval.{limit}
use Rattle.timew_words.specs.Ranges.{or_else}
use Rattle.timew_report.specs.Time.{is_tracked}
use Rattle.timew_report.specs.declared.days.Span.{Span}
use Rattle.timew_report.specs.declared.days.Span.TheVariants.{Day, Week}

-- the next one if it is later; else an hour later, for a clock that went back over midnight
abbrev pub later : (at next : ℕ) → ℕ
later at next = cond (nat_lt at next) next (at + 3600)

-- at which second the day or the week of a second ends: at the zone's next midnight, or next Monday's
abbrev pub end_of : Span → TimeZone → ℕ → ℕ
end_of Day zone at = later at (or_else limit (moment (codes "tomorrow") at zone))
end_of Week zone at = later at (or_else limit (moment (codes "monday") at zone))

-- the first second with a property of each day among so many seconds from one on; a day goes up to its end, and none begins before
-- a second
abbrev pub begins : (ℕ → Bool) → (ℕ → ℕ) → (until from n : ℕ) → List ℕ
begins p end until from zero = []
begins p end until from (suc n) = cond (p from && nat_le until from) (from ∷ begins p end (end from) (suc from) n) (begins p end until (suc from) n)

-- the first tracked second of each day, or of each week, of a range
abbrev pub days : Span → TimeZone → List Interval → (from to now : ℕ) → List ℕ
days span zone rows from to now = begins (is_tracked rows now) (end_of span zone) 0 from (to - from)
