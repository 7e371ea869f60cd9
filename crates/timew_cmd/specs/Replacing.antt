-- Placing an interval in the stead of one with a number.
use Rattle.std.specs.Prelude.{ℕ, List, [], ◌∷◌, Bool, true, Option, Some, None, ◌+◌, ◌==◌, Result, Ok, Err, if◌then◌else◌, ◌*◌, nat_lt}
use Rattle.tw_time.specs.declared.length.Length.{Length}
use Rattle.timew_interval.specs.Interval.{limit}
use Rattle.timew_interval.specs.declared.interval.Interval.{Interval}
use Rattle.timew_cmd.specs.Placing.{place}
use Rattle.timew_cmd.specs.declared.error.TimewError.{TimewError}
use Rattle.timew_cmd.specs.declared.error.TimewError.TheVariants.{Range}

-- the end is in range
abbrev pub is_in_range : Option ℕ → Bool
is_in_range None = true
is_in_range (Some end) = nat_lt end limit

-- an interval is placed in its own stead, if its end is in range
abbrev pub replaced : ℕ → ℕ → Bool → Interval → List Interval → Result (List Interval) TimewError
replaced word id adjust new rows = if is_in_range new.end then place adjust new (id ∷ []) rows else Err (Range word)

-- so many seconds, if a length has no months
abbrev pub seconds_of : ℕ → Length → Result ℕ TimewError
seconds_of word l = if l.months == 0 then Ok (l.seconds + l.days * 86400) else Err (Range word)

abbrev pub closed_end : ℕ → Option ℕ → Result ℕ TimewError
closed_end word None = Err (Range word)
closed_end word (Some end) = Ok end
