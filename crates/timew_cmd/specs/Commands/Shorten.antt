-- `shorten`: moves the end of a closed interval to an earlier moment.
use Rattle.std.specs.Prelude.{ℕ, List, Bool, Option, Some, ◌+◌, Result, Ok, Err, if◌then◌else◌, length, nat_le, ◌-◌}
use Rattle.tw_time.specs.declared.length.Length.{Length}
use Rattle.timew_interval.specs.Placing.{spanning}
use Rattle.timew_interval.specs.declared.interval.Interval.{Interval}
use Rattle.timew_cmd.specs.Numbers.{row_at}
use Rattle.timew_cmd.specs.Replacing.{replaced, seconds_of, closed_end}
use Rattle.timew_words.specs.Results.{◌>>=◌}
use Rattle.timew_cmd.specs.declared.error.TimewError.{TimewError}
use Rattle.timew_cmd.specs.declared.error.TimewError.TheVariants.{Range}

abbrev pub shorter : ℕ → ℕ → ℕ → ℕ → Result (Option ℕ) TimewError
shorter word start end seconds = if nat_le (start + seconds) end then Ok (Some (end - seconds)) else Err (Range word)

abbrev pub shortened : (id word : ℕ) → Length → Bool → List Interval → Result (List Interval) TimewError
shortened id word length adjust rows = do
  r ← row_at id rows
  end ← closed_end word r.end
  seconds ← seconds_of word length
  less ← shorter word r.start end seconds
  replaced word id adjust (spanning r.start less r) rows
