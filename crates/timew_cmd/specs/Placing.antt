-- Placing an interval among others.
use Rattle.std.specs.List.{AllByRecursion}
use Rattle.std.specs.Prelude.{ℕ, List, [], ◌∷◌, Bool, true, false, Option, Some, None, Result, Ok, Err, if◌then◌else◌, not, ◌≡◌, ◌&&◌}
use Rattle.timew_interval.specs.Interval.{overlaps}
use Rattle.timew_interval.specs.Placing.{is_not_after, placed}
use Rattle.timew_interval.specs.declared.interval.Interval.{Interval}
use Rattle.timew_cmd.specs.Numbers.{Numbered, numbered, without, rows_in}
use Rattle.timew_cmd.specs.declared.error.TimewError.{TimewError}
use Rattle.timew_cmd.specs.declared.error.TimewError.TheVariants.{Overlap}

-- ---- the others, on both sides of it

-- it is before another and shares no second with it
abbrev pub stands_before : Interval → Interval → Bool
stands_before new r = not (overlaps r new) && is_not_after r new

-- it is after another and shares no second with it
abbrev pub stands_behind : Interval → Interval → Bool
stands_behind new r = not (overlaps r new) && not (is_not_after r new)

abbrev pub AllBefore : Interval → List Interval → Type 0
AllBefore new rows = AllByRecursion (λ r. stands_before new r ≡ true) rows

abbrev pub AllBehind : Interval → List Interval → Type 0
AllBehind new rows = AllByRecursion (λ r. stands_behind new r ≡ true) rows

-- ---- those that it overlaps

abbrev pub later_of : Option ℕ → Option ℕ → Option ℕ
later_of None id = id
later_of (Some id) other = Some id

-- the number of the last row that overlaps it, which is the least
abbrev pub overlapped : Interval → Numbered → Option ℕ
overlapped new [] = None
overlapped new (r ∷ rows) = later_of (overlapped new rows) (if overlaps r.1 new then Some r.0 else None)

abbrev pub unless_overlapped : Option ℕ → List Interval → Result (List Interval) TimewError
unless_overlapped None rows = Ok rows
unless_overlapped (Some id) rows = Err (Overlap id)

-- the rows without these, and the interval placed among them: if it may not push others aside it has to be free
abbrev pub place : Bool → Interval → List ℕ → List Interval → Result (List Interval) TimewError
place true new ids rows = Ok (placed new (rows_in (without ids (numbered rows))))
place false new ids rows = unless_overlapped (overlapped new (without ids (numbered rows))) (placed new (rows_in (without ids (numbered rows))))
