-- Ranges of time, and which intervals are in them: timew-ranges(7).
use Rattle.std.specs.Prelude.{ℕ, List, Bool, if◌then◌else◌, nat_lt, map, filter, ◌&&◌, nat_le, ◌-◌, max, min, sum, unwrap_or}
use Rattle.timew_interval.specs.declared.interval.Interval.{Interval}
use Rattle.timew_cmd.specs.Numbers.{Numbered, numbered}

-- where an interval ends; an open one is measured to now, or to its start if now is earlier
abbrev pub measured : (now : ℕ) → Interval → ℕ
measured now r = unwrap_or r.end (max now r.start)

-- an interval shares a second with a range; one without a second starts in it, or at its end
abbrev pub is_within : (from to now : ℕ) → Interval → Bool
is_within from to now r =
    if nat_lt r.start (measured now r) then nat_lt (max r.start from) (min (measured now r) to)
    else nat_le from r.start && nat_le r.start to

-- the intervals in a range, with their numbers
abbrev pub rows_within : (from to now : ℕ) → List Interval → Numbered
rows_within from to now rows = filter (λ r. is_within from to now r.1) (numbered rows)

-- the seconds of an interval that are in a range
abbrev pub seconds_within : (from to now : ℕ) → Interval → ℕ
seconds_within from to now r = min (measured now r) to - max r.start from

-- the seconds of all of them
abbrev pub total : (from to now : ℕ) → List Interval → ℕ
total from to now rows = sum (map (seconds_within from to now) rows)
