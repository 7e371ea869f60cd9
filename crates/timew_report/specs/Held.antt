-- Stretches, days and times as they are held.
use Rattle.std.specs.Prelude.{◌≡◌, ℕ, ◌<◌, ◌≤◌, ◌+◌, Bool, cond, nat_lt, List, [], ◌∷◌, Some, min, max, unwrap_or}
use Rattle.std.specs.FinMap.{get, insert}
use Rattle.timew_interval.specs.declared.interval.Interval.{Interval}
use Rattle.timew_cmd.specs.Ranges.{measured}
use Rattle.tw_time.specs.Moments.{TimeZone}
use Rattle.timew_report.specs.declared.gaps.Stretch.{Stretch as HeldStretch}
use Rattle.timew_report.specs.declared.days.Day.{Day as HeldDay}
use Rattle.timew_report.specs.declared.days.Span.{Span}
use Rattle.timew_report.specs.Gaps.{Stretch}
use Rattle.timew_report.specs.Time.{time}
use Rattle.timew_report.specs.Days.{end_of}
use Rattle.timew_report.specs.Totals.{Times}

abbrev pub stretch_of : HeldStretch → Stretch
stretch_of t = (t.start, t.end)

-- a stretch with a second, up to a bound
pub record IsGap (to : ℕ) (t : HeldStretch) : Type 0 where
  pub order : t.start < t.end
  pub inside : t.end ≤ to

-- a stretch that has a second, or none
abbrev pub stretch_if : (start end : ℕ) → List HeldStretch
stretch_if start end = cond (nat_lt start end) (record { start = start; end = end } ∷ []) []

-- the second from which on the others are, after an interval, if they were from one on
abbrev pub passed : (now at : ℕ) → Interval → ℕ
passed now at r = cond (nat_lt r.start (measured now r)) (max at (measured now r)) at

-- what lies in front of an interval that has a second
abbrev pub gap_before : (to now at : ℕ) → Interval → List HeldStretch
gap_before to now at r = cond (nat_lt r.start (measured now r)) (stretch_if at (min r.start to)) []

-- a day with the time from its first second to its end
pub record IsDay (span : Span) (zone : TimeZone) (rows : List Interval) (to now : ℕ) (d : HeldDay) : Type 0 where
  pub inside : d.start < to
  pub seconds : d.seconds ≡ time rows d.start (min (end_of span zone d.start) to) now

-- with more seconds of a tag
abbrev pub with_more : Times → List ℕ → ℕ → Times
with_more times tag seconds = insert times tag (unwrap_or (get times tag) 0 + seconds)

-- with more seconds of each tag that passes a test
abbrev pub AreMore : (List ℕ → Bool) → ℕ → (old new : Times) → Type 0
AreMore test seconds old new = (tag : List ℕ) → get new tag ≡ cond (test tag) (Some (unwrap_or (get old tag) 0 + seconds)) (get old tag)
