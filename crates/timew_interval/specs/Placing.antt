-- Placing an interval among others.
use Rattle.std.specs.Prelude.{ℕ, Bool, true, false, cond, ◌&&◌, ◌||◌, ◌==◌, nat_lt, nat_le, List, [], ◌∷◌, ◌++◌, Option, Some, None}
use Rattle.std.specs.List.{flat_map}
use Rattle.timew_interval.specs.Interval.{goes_past, overlaps}
use Rattle.timew_interval.specs.declared.interval.Interval.{Interval}

-- the interval from a start to an end, with the tags and the annotation of another
abbrev pub spanning : ℕ → Option ℕ → Interval → Interval
spanning start end r = record { start = start; end = end; tags = r.tags; annotation = r.annotation }

-- what of an interval lies before a second
abbrev pub front_of : ℕ → Interval → List Interval
front_of second r = cond (nat_lt r.start second) (spanning r.start (Some second) r ∷ []) []

-- what of an interval lies from a second on
abbrev pub back_of : Option ℕ → Interval → List Interval
back_of None r = []
back_of (Some second) r = cond (goes_past r.end second) (spanning second r.end r ∷ []) []

-- what of an interval lies outside another one that is placed
abbrev pub left_outside : Interval → Interval → List Interval
left_outside new r = cond (overlaps r new) (front_of new.start r ++ back_of new.end r) (r ∷ [])

-- the first end does not lie after the second
abbrev pub end_le : Option ℕ → Option ℕ → Bool
end_le end None = true
end_le None (Some other) = false
end_le (Some end) (Some other) = nat_le end other

-- the interval is not after another, in the order of start and end
abbrev pub is_not_after : Interval → Interval → Bool
is_not_after r s = nat_lt r.start s.start || ((r.start == s.start) && end_le r.end s.end)

-- an interval in its order, after its equals
abbrev pub inserted : Interval → List Interval → List Interval
inserted new [] = new ∷ []
inserted new (r ∷ rows) = cond (is_not_after r new) (r ∷ inserted new rows) (new ∷ r ∷ rows)

-- an interval is placed, and the others keep what lies outside it
abbrev pub placed : Interval → List Interval → List Interval
placed new rows = inserted new (flat_map (left_outside new) rows)
