-- `split`: cuts intervals in the middle.
use Rattle.std.specs.List.{list_any, flat_map}
use Rattle.std.specs.Prelude.{ℕ, List, [], ◌∷◌, Bool, false, Option, Some, None, ◌+◌, Result, Ok, Err, if◌then◌else◌, nat_lt, length, cond, ◌≡◌, ◌&&◌, ◌-◌, ◌/◌}
use Rattle.timew_interval.specs.Interval.{at}
use Rattle.timew_interval.specs.Placing.{spanning}
use Rattle.timew_interval.specs.declared.interval.Interval.{Interval}
use Rattle.timew_cmd.specs.Numbers.{numbered, is_among, checked}
use Rattle.timew_cmd.specs.Open.{moment_or}
use Rattle.timew_words.specs.Results.{◌>>=◌}
use Rattle.timew_cmd.specs.declared.error.TimewError.{TimewError}
use Rattle.timew_cmd.specs.declared.error.TimewError.TheVariants.{Range}

-- the middle of an interval, an open one measured to now
abbrev pub middle : ℕ → Interval → ℕ
middle now r = r.start + (moment_or now r.end - r.start) / 2

abbrev pub halves : ℕ → Interval → List Interval
halves now r = spanning r.start (Some (middle now r)) r ∷ spanning (middle now r) r.end r ∷ []

-- whether an open interval among these begins after now
abbrev pub is_ahead_of : ℕ → ℕ → Option ℕ → Bool
is_ahead_of now start None = nat_lt now start
is_ahead_of now start (Some end) = false

abbrev pub is_ahead : ℕ → Interval → Bool
is_ahead now r = is_ahead_of now r.start r.end

abbrev pub some_ahead : List ℕ → List Interval → ℕ → Bool
some_ahead ids rows now = list_any (λ r. is_among ids r.0 && is_ahead now r.1) (numbered rows)

-- those of these numbers are cut in the middle
abbrev pub halved : List ℕ → ℕ → List Interval → List Interval
halved ids now rows = flat_map (λ r. cond (is_among ids r.0) (halves now r.1) (r.1 ∷ [])) (numbered rows)

abbrev pub split : List ℕ → List Interval → ℕ → Result (List Interval) TimewError
split ids rows now = if some_ahead ids rows now then Err (Range 0) else Ok (halved ids now rows)

-- each second has what it had
abbrev pub SameSeconds : List Interval → List Interval → Type 0
SameSeconds rows next = (second : ℕ) → at next second ≡ at rows second

-- the first part has half the length, rounded down, and the second one the rest
abbrev pub IsHalved : (start m end : ℕ) → Type 0
IsHalved start m end = (m - start ≡ (end - start) / 2) × (end - m ≡ (end - start) - (end - start) / 2)

abbrev pub split_all : List ℕ → List Interval → ℕ → Result (List Interval) TimewError
split_all ids rows now = checked (length rows) ids >>= λ n. split ids rows now
