-- Rows by their numbers, which count from the last one, from 1.
use Rattle.std.specs.List.{list_any}
use Rattle.std.specs.Prelude.{ℕ, List, [], ◌∷◌, Bool, false, Option, Some, None, ◌≡◌, ◌<◌, ◌≤◌, ◌+◌, ◌-◌, ◌==◌, Result, Ok, Err, if◌then◌else◌, nat_lt, map}
use Rattle.std.specs.Prelude.{filter, not, drop, length}
use Rattle.timew_interval.specs.Interval.{by_id}
use Rattle.timew_interval.specs.declared.interval.Interval.{Interval}
use Rattle.timew_cmd.specs.declared.error.TimewError.{TimewError}
use Rattle.timew_cmd.specs.declared.error.TimewError.TheVariants.{NoInterval}

abbrev pub Numbered : Type 0
Numbered = List (ℕ × Interval)

abbrev pub numbered : List Interval → Numbered
numbered [] = []
numbered (r ∷ rows) = (length rows + 1, r) ∷ numbered rows

-- the numbered rows from an index on
abbrev pub from_place : ℕ → List Interval → Numbered
from_place k rows = numbered (drop k rows)

abbrev pub is_among : List ℕ → ℕ → Bool
is_among ids id = list_any (λ n. n == id) ids

-- none of these is above the one number and not above the other
abbrev pub NoneAmong : List ℕ → ℕ → ℕ → Type 0
NoneAmong ids low high = (n : ℕ) → low < n → n ≤ high → is_among ids n ≡ false

-- of so many rows only those from an index up to another have some of these numbers
pub record IsWindow (ids : List ℕ) (count at end : ℕ) : Type 0 where
  pub order : at ≤ end
  pub inside : end ≤ count
  pub front : NoneAmong ids (count - at) count
  pub back : NoneAmong ids 0 (count - end)

-- the rows without those of these numbers
abbrev pub without : List ℕ → Numbered → Numbered
without ids rows = filter (λ r. not (is_among ids r.0)) rows

abbrev pub rows_in : Numbered → List Interval
rows_in rows = map (λ r. r.1) rows

-- the first of these numbers that is above the number of intervals
abbrev pub checked : ℕ → List ℕ → Result ℕ TimewError
checked count [] = Ok count
checked count (id ∷ ids) = if nat_lt count id then Err (NoInterval id) else checked count ids

abbrev pub row_or : ℕ → Option Interval → Result Interval TimewError
row_or id None = Err (NoInterval id)
row_or id (Some r) = Ok r

abbrev pub row_at : ℕ → List Interval → Result Interval TimewError
row_at id rows = row_or id (by_id rows id)
