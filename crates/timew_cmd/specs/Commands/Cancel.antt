-- `cancel`: drops the open interval.
use Rattle.std.specs.Prelude.{List, Option, Some, None, Result, Ok, Err}
use Rattle.timew_interval.specs.declared.interval.Interval.{Interval}
use Rattle.timew_cmd.specs.declared.error.TimewError.{TimewError}
use Rattle.timew_cmd.specs.declared.error.TimewError.TheVariants.{NoOpen}

abbrev pub cancelled : Option (List Interval × Interval) → Result (List Interval) TimewError
cancelled None = Err NoOpen
cancelled (Some o) = Ok o.0
