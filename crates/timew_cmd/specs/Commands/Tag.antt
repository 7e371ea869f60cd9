-- `tag`: adds tags to intervals.
use Rattle.std.specs.Prelude.{ℕ, List, Result, Ok}
use Rattle.timew_interval.specs.declared.interval.Interval.{Interval}
use Rattle.timew_cmd.specs.Labels.{targets, each_of, with_tags}
use Rattle.timew_words.specs.Results.{◌>>=◌}
use Rattle.timew_cmd.specs.declared.error.TimewError.{TimewError}

abbrev pub tagged : List ℕ → List (List ℕ) → List Interval → Result (List Interval) TimewError
tagged ids tags rows = targets ids rows >>= λ those. Ok (each_of those (with_tags tags) rows)
