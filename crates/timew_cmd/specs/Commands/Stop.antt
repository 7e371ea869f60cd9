-- `stop`: ends the open interval.
use Rattle.std.specs.Prelude.{ℕ, List, [], ◌∷◌, Option, Some, None, Result, Ok, Err, if◌then◌else◌, nat_lt, ◌++◌}
use Rattle.timew_interval.specs.Placing.{spanning}
use Rattle.timew_interval.specs.declared.interval.Interval.{Interval}
use Rattle.timew_cmd.specs.declared.error.TimewError.{TimewError}
use Rattle.timew_cmd.specs.declared.error.TimewError.TheVariants.{Range, NoOpen}

abbrev pub stopped : ℕ → ℕ → Option (List Interval × Interval) → Result (List Interval) TimewError
stopped word at None = Err NoOpen
stopped word at (Some o) = if nat_lt at o.1.start then Err (Range word) else Ok (o.0 ++ spanning o.1.start (Some at) o.1 ∷ [])
