-- The time of each tag.
use Rattle.std.specs.Prelude.{◌≡◌, ℕ, zero, suc, List, [], ◌∷◌, Option, Some, None}
use Rattle.std.specs.FinMap.{FinMap, get, empty}
use Rattle.std.specs.List.{flat_map}
use Rattle.tw_world.specs.Folder.{bytes_cmp}
use Rattle.tw_model.specs.Maps.{set_at}
use Rattle.timew_interval.specs.declared.interval.Interval.{Interval}
use Rattle.timew_report.specs.Time.{tag_time}

-- from a tag to seconds
abbrev pub Times : Type 0
Times = FinMap bytes_cmp ℕ

abbrev pub unless_zero : ℕ → Option ℕ
unless_zero zero = None
unless_zero (suc n) = Some (suc n)

-- the time of each of these tags that has a tracked second in a range
abbrev pub times_of : List (List ℕ) → List Interval → (from to now : ℕ) → Times
times_of [] rows from to now = empty
times_of (tag ∷ tags) rows from to now = set_at (times_of tags rows from to now) tag (unless_zero (tag_time tag rows from to now))

-- the time of each tag that has a tracked second in a range
abbrev pub totals : List Interval → (from to now : ℕ) → Times
totals rows from to now = times_of (flat_map (λ (r : Interval). r.tags) rows) rows from to now

-- these are the times of all tags
abbrev pub AreTotals : List Interval → (from to now : ℕ) → Times → Type 0
AreTotals rows from to now times = (tag : List ℕ) → get times tag ≡ unless_zero (tag_time tag rows from to now)
