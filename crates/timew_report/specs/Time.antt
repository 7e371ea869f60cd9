-- How many seconds of a range are tracked.
use Rattle.std.specs.Prelude.{ℕ, zero, suc, ◌+◌, ◌-◌, Bool, true, false, List, map, Option, Some, None, is_some}
use Rattle.std.specs.List.{list_any}
use Rattle.tw_world.specs.Folder.{same_bytes}
use Rattle.timew_interval.specs.declared.interval.Interval.{Interval}
use Rattle.timew_interval.specs.Interval.{Content, at}
use Rattle.timew_interval.specs.Placing.{spanning}
use Rattle.timew_cmd.specs.Ranges.{measured}

abbrev pub one_if : Bool → ℕ
one_if true = 1
one_if false = 0

-- how many of so many seconds, from one on, have a property
abbrev pub count : (ℕ → Bool) → (from n : ℕ) → ℕ
count p from zero = 0
count p from (suc n) = one_if (p from) + count p (suc from) n

-- an interval up to where it is measured: an open one ends now, or at its start if now is earlier
abbrev pub closed : (now : ℕ) → Interval → Interval
closed now r = spanning r.start (Some (measured now r)) r

-- what the interval of a second says, if it has one
abbrev pub at_now : List Interval → (now second : ℕ) → Option Content
at_now rows now second = at (map (closed now) rows) second

abbrev pub is_tracked : List Interval → (now second : ℕ) → Bool
is_tracked rows now second = is_some (at_now rows now second)

abbrev pub says_tag : List ℕ → Option Content → Bool
says_tag tag None = false
says_tag tag (Some c) = list_any (same_bytes tag) c.tags

-- how many seconds of a range are tracked, and how many with a tag
abbrev pub time : List Interval → (from to now : ℕ) → ℕ
time rows from to now = count (is_tracked rows now) from (to - from)

abbrev pub tag_time : List ℕ → List Interval → (from to now : ℕ) → ℕ
tag_time tag rows from to now = count (λ s. says_tag tag (at_now rows now s)) from (to - from)
