-- The rows without those of no numbers are all of them.
use Rattle.std.proofs.Common.{◌≡◌, List, [], ◌∷◌, ap, refl}
use Rattle.timew_interval.specs.declared.interval.Interval.{Interval}
use Rattle.timew_cmd.specs.Numbers.{numbered, without, rows_in}

pub all_rows : (rows : List Interval) → rows_in (without [] (numbered rows)) ≡ rows
all_rows [] = refl
all_rows (r ∷ rows) = ap (λ (l : List Interval). r ∷ l) (all_rows rows)
