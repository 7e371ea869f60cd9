-- `lengthen`: moves the end of a closed interval to a later moment.
use Rattle.std.specs.Prelude.{ℕ, List, Bool, Some, ◌+◌, Result, length}
use Rattle.tw_time.specs.declared.length.Length.{Length}
use Rattle.timew_interval.specs.Placing.{spanning}
use Rattle.timew_interval.specs.declared.interval.Interval.{Interval}
use Rattle.timew_cmd.specs.Numbers.{row_at}
use Rattle.timew_cmd.specs.Replacing.{replaced, seconds_of, closed_end}
use Rattle.timew_words.specs.Results.{◌>>=◌}
use Rattle.timew_cmd.specs.declared.error.TimewError.{TimewError}

abbrev pub lengthened : (id word : ℕ) → Length → Bool → List Interval → Result (List Interval) TimewError
lengthened id word length adjust rows = do
  r ← row_at id rows
  end ← closed_end word r.end
  seconds ← seconds_of word length
  replaced word id adjust (spanning r.start (Some (end + seconds)) r) rows
