-- Intervals of time, and lists of them.
use Rattle.std.specs.Prelude.{◌≡◌, ℕ, ◌<◌, ◌≤◌, Bool, true, false, cond, not, ◌&&◌, ◌||◌, ◌==◌, nat_lt, nat_le, if◌then◌else◌, ◌-◌, length, slice_get, List}
use Rattle.std.specs.Prelude.{[], ◌∷◌, Option, Some, None}
use Rattle.std.specs.Coded.{×_prop, Unit-prop, le_prop}
use Rattle.std.specs.List.{list_all}
use Rattle.std.specs.Ordering.{is_lt}
use Rattle.tw_world.specs.Folder.{bytes_cmp}
use Rattle.tw_world.specs.declared.moment.TheConstants.{MOMENT_LIMIT}
use Rattle.timew_interval.specs.declared.interval.Interval.{Interval}

-- 9999-01-01T00:00:00Z
abbrev pub limit : ℕ
limit = MOMENT_LIMIT

-- what an interval says of its seconds
pub record Content : Type 0 where
  pub tags : List (List ℕ)
  pub annotation : List ℕ

abbrev pub content : Interval → Content
content r = record { tags = r.tags; annotation = r.annotation }

-- it ends after a second, or not yet
abbrev pub goes_past : Option ℕ → ℕ → Bool
goes_past None second = true
goes_past (Some end) second = nat_lt second end

-- the interval has a second: those from its start up to but not including its end
abbrev pub has : Interval → ℕ → Bool
has r second = nat_le r.start second && goes_past r.end second

-- the tags and the annotation of the interval that has a second
abbrev pub at : List Interval → ℕ → Option Content
at [] second = None
at (r ∷ rows) second = cond (has r second) (Some (content r)) (at rows second)

-- Two intervals overlap if they share a second; and one without a second overlaps one that starts before it and goes past it.
abbrev pub overlaps : Interval → Interval → Bool
overlaps r s = goes_past r.end s.start && goes_past s.end r.start

-- ---- lists

-- a text without a control character of ASCII
abbrev pub is_printable : List ℕ → Bool
is_printable text = list_all (λ b. not (nat_lt b 32 || (b == 127))) text

-- a tag that is not empty
abbrev pub is_tag : List ℕ → Bool
is_tag [] = false
is_tag (b ∷ text) = is_printable (b ∷ text)

-- the tags rise in byte order
abbrev pub tags_rise_from : List ℕ → List (List ℕ) → Bool
tags_rise_from tag [] = true
tags_rise_from tag (next ∷ tags) = is_lt (bytes_cmp tag next) && tags_rise_from next tags

abbrev pub tags_rise : List (List ℕ) → Bool
tags_rise [] = true
tags_rise (tag ∷ tags) = tags_rise_from tag tags

-- an end that does not lie before the start, and is in range
abbrev pub IsEnd : ℕ → Option ℕ → Type 0
IsEnd start None = Unit {0}
IsEnd start (Some end) = (start ≤ end) × (end < limit)

-- it has one proof at most
pub IsEnd-prop : (start : ℕ) (end : Option ℕ) → IsProp (IsEnd start end)
IsEnd-prop start None = Unit-prop
IsEnd-prop start (Some end) = ×_prop le_prop le_prop

pub record IsRow (r : Interval) : Type 0 where
  pub start : r.start < limit
  pub end : IsEnd r.start r.end
  pub tags : list_all is_tag r.tags ≡ true
  pub rise : tags_rise r.tags ≡ true
  pub annotation : is_printable r.annotation ≡ true

-- an interval ends, at a second or before it
abbrev pub EndsBy : Option ℕ → ℕ → Type 0
EndsBy None second = ⊥
EndsBy (Some end) second = end ≤ second

-- the first interval starts at a second or after it
abbrev pub StartsFrom : ℕ → List Interval → Type 0
StartsFrom second [] = Unit {0}
StartsFrom second (r ∷ rows) = second ≤ r.start

-- the interval ends before the first of these starts
abbrev pub IsBefore : Option ℕ → List Interval → Type 0
IsBefore end [] = Unit {0}
IsBefore end (r ∷ rows) = EndsBy end r.start

-- intervals in the order of their starts, none of which overlaps another
abbrev pub AreRows : List Interval → Type 0
AreRows [] = Unit {0}
AreRows (r ∷ rows) = IsRow r × IsBefore r.end rows × AreRows rows

-- the interval with a number, which counts from the last one, from 1
abbrev pub by_id : List Interval → ℕ → Option Interval
by_id rows id = if nat_le 1 id && nat_le id (length rows) then slice_get rows (length rows - id) else None

abbrev pub ends_by : Option ℕ → ℕ → Bool
ends_by None second = false
ends_by (Some end) second = nat_le end second

-- each interval ends before the next one starts
abbrev pub in_order : List Interval → Bool
in_order [] = true
in_order (r ∷ []) = true
in_order (r ∷ next ∷ rows) = ends_by r.end next.start && in_order (next ∷ rows)
