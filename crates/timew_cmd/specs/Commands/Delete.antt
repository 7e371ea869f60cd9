-- `delete`: drops intervals.
use Rattle.std.specs.Prelude.{ℕ, List, Result, Ok, length}
use Rattle.timew_interval.specs.declared.interval.Interval.{Interval}
use Rattle.timew_cmd.specs.Numbers.{numbered, without, rows_in, checked}
use Rattle.timew_words.specs.Results.{◌>>=◌}
use Rattle.timew_cmd.specs.declared.error.TimewError.{TimewError}

abbrev pub deleted : List ℕ → List Interval → Result (List Interval) TimewError
deleted ids rows = checked (length rows) ids >>= λ n. Ok (rows_in (without ids (numbered rows)))
