-- `move`: moves an interval to another start.
use Rattle.std.specs.Prelude.{ℕ, List, Bool, Option, Some, None, ◌+◌, Result, ◌-◌}
use Rattle.timew_interval.specs.Placing.{spanning}
use Rattle.timew_interval.specs.declared.interval.Interval.{Interval}
use Rattle.timew_cmd.specs.Numbers.{row_at}
use Rattle.timew_cmd.specs.Replacing.{replaced}
use Rattle.timew_words.specs.Results.{◌>>=◌}
use Rattle.timew_cmd.specs.declared.error.TimewError.{TimewError}

-- the same length from another start
abbrev pub moved_end : ℕ → ℕ → Option ℕ → Option ℕ
moved_end start from None = None
moved_end start from (Some end) = Some (start + (end - from))

abbrev pub moved_to : (id word start : ℕ) → Bool → List Interval → Result (List Interval) TimewError
moved_to id word start adjust rows = do
  r ← row_at id rows
  replaced word id adjust (spanning start (moved_end start r.start r.end) r) rows
