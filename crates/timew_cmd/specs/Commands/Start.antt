-- `start`: ends the open interval, and begins one.
use Rattle.std.specs.Prelude.{ℕ, List, [], Bool, false, Option, Some, None, Result, Err, if◌then◌else◌, nat_lt}
use Rattle.tw_time.specs.Moments.{moment}
use Rattle.timew_interval.specs.declared.interval.Interval.{Interval}
use Rattle.timew_cmd.specs.Open.{open_of, moment_or, with_ended}
use Rattle.timew_cmd.specs.Placing.{place}
use Rattle.timew_cmd.specs.declared.error.TimewError.{TimewError}
use Rattle.timew_cmd.specs.declared.error.TimewError.TheVariants.{Range}

abbrev pub is_past : ℕ → Option ℕ → Bool
is_past now None = false
is_past now (Some at) = nat_lt now at

abbrev pub begins_after : ℕ → Option (List Interval × Interval) → Bool
begins_after now None = false
begins_after now (Some o) = nat_lt now o.1.start

-- an open interval from a moment on
abbrev pub open_from : ℕ → List (List ℕ) → Interval
open_from at tags = record { start = at; end = None; tags = tags; annotation = [] }

abbrev pub begun : (word : ℕ) → Option ℕ → List (List ℕ) → Bool → List Interval → ℕ → Result (List Interval) TimewError
begun word moment tags adjust rows now =
    if is_past now moment then Err (Range word)
    else (if begins_after now (open_of rows) then Err (Range 0)
    else place adjust (open_from (moment_or now moment) tags) [] (with_ended (moment_or now moment) rows (open_of rows)))
