-- `continue`: begins an interval with the tags of another.
use Rattle.std.specs.Prelude.{ℕ, List, Bool, Option, Some, None, Result, Err}
use Rattle.timew_interval.specs.declared.interval.Interval.{Interval}
use Rattle.timew_cmd.specs.Commands.Start.{begun}
use Rattle.timew_cmd.specs.Numbers.{row_at}
use Rattle.timew_words.specs.Results.{◌>>=◌}
use Rattle.timew_cmd.specs.declared.error.TimewError.{TimewError}
use Rattle.timew_cmd.specs.declared.error.TimewError.TheVariants.{AlreadyOpen}

abbrev pub continued : Option ℕ → Bool → List Interval → ℕ → Option (List Interval × Interval) → Result (List Interval) TimewError
continued None adjust rows now (Some o) = Err (AlreadyOpen 1)
continued None adjust rows now None = row_at 1 rows >>= λ r. begun 0 None r.tags adjust rows now
continued (Some id) adjust rows now o = row_at id rows >>= λ r. begun 0 None r.tags adjust rows now
