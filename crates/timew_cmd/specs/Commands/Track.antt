-- `track`: places a closed interval.
use Rattle.std.specs.Prelude.{ℕ, List, [], Bool, Some, Result, Err, if◌then◌else◌, nat_lt}
use Rattle.timew_interval.specs.declared.interval.Interval.{Interval}
use Rattle.timew_cmd.specs.Placing.{place}
use Rattle.timew_cmd.specs.declared.error.TimewError.{TimewError}
use Rattle.timew_cmd.specs.declared.error.TimewError.TheVariants.{Range}

abbrev pub tracked : (word start end : ℕ) → List (List ℕ) → Bool → List Interval → Result (List Interval) TimewError
tracked word start end tags adjust rows =
    if nat_lt start end then place adjust (record { start = start; end = Some end; tags = tags; annotation = [] }) [] rows else Err (Range word)
