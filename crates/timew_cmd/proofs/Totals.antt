-- The seconds of intervals in a range are few, and an interval in a range has moments.
use Rattle.std.specs.Prelude.{max, min, unwrap_or, nat_lt, nat_le}
use Rattle.std.proofs.Common.{◌≡◌, ℕ, zero, suc, ◌+◌, ◌-◌, ◌<◌, ◌≤◌, Bool, true, false, cond, ◌&&◌, List, [], ◌∷◌, map, length, drop, get_or, Option, Some, None, sym, ap, subst, ◌∙◌, arith, ltb-true, leb-true}
use Rattle.std.proofs.lemmas.Bool.{and_parts}
use Rattle.std.proofs.lemmas.List.{drop_more}
use Rattle.std.proofs.lemmas.List.Sums.{sum_by-cons}
use Rattle.timew_interval.specs.declared.interval.Interval.{Interval}
use Rattle.timew_interval.specs.Interval.{limit, IsRow, IsEnd, IsBefore, StartsFrom, AreRows}
use Rattle.timew_cmd.specs.Open.{open_of}
use Rattle.timew_cmd.proofs.RowsInOrder.{open_is, last_row}
use Rattle.timew_cmd.specs.Ranges.{measured, is_within, seconds_within, total}

-- an interval among others in order
pub row_here : (rows : List Interval) (k : ℕ) (r : Interval) → AreRows rows → k < length rows → r ≡ get_or rows k r → IsRow r
row_here [] k r are lt is = absurd (omega arith)
row_here (x ∷ rows) zero r are lt is = subst IsRow (sym is) are.0
row_here (x ∷ rows) (suc k) r are lt is = row_here rows k r are.2 (omega (arith, lt)) is

ends : (now start : ℕ) (end : Option ℕ) → IsEnd start end → start < limit → now < limit → unwrap_or end (max now start) < limit
ends now start None is low small = omega arith
ends now start (Some e) is low small = is.1

-- seconds that end before an interval starts, and its own, end before it ends
step : (from to now s start : ℕ) (end : Option ℕ) → IsEnd start end → s ≤ start → s + (min (unwrap_or end (max now start)) to - max start from) ≤ unwrap_or end (max now start)
step from to now s start None is le = omega arith
step from to now s start (Some e) is le = omega (arith, is.0)

next : (end : Option ℕ) (m s : ℕ) (rows : List Interval) → IsBefore end rows → s ≤ unwrap_or end m → StartsFrom s rows
next end m s [] before le = tt
next None m s (q ∷ rows) before le = absurd before
next (Some e) m s (q ∷ rows) before le = omega (arith, before, le)

-- those of the first one and those of the others
of_first : (from to now : ℕ) (r : Interval) (rows : List Interval) → total from to now (r ∷ rows) ≡ seconds_within from to now r + total from to now rows
of_first from to now r rows = sum_by-cons (λ n. n) (seconds_within from to now r) (map (seconds_within from to now) rows)

fits : (from to now s : ℕ) (rows : List Interval) → AreRows rows → now < limit → StartsFrom s rows → s ≤ limit → s + total from to now rows ≤ limit
fits from to now s [] are small starts le = omega (arith, le)
fits from to now s (r ∷ rows) are small starts le =
    let here = step from to now s r.start r.end are.0.end starts in
    let end = ends now r.start r.end are.0.end are.0.start small in
    let rest = fits from to now (s + seconds_within from to now r) rows are.2 small (next r.end (max now r.start) (s + seconds_within from to now r) rows are.1 here) (omega (arith, here, end)) in
    omega (arith, rest, of_first from to now r rows)

starts_late : (rows : List Interval) → StartsFrom 0 rows
starts_late [] = tt
starts_late (r ∷ rows) = omega arith

pub total_fits : (from to now : ℕ) (rows : List Interval) → AreRows rows → now < limit → total from to now rows ≤ limit
total_fits from to now rows are small = omega (arith, fits from to now 0 rows are small (starts_late rows) (omega arith))

pub within_ends : (to now : ℕ) (r : Interval) → IsRow r → now < limit → min (measured now r) to < limit
within_ends to now r is small = let end = ends now r.start r.end is.end is.start small in omega (arith, end)

pub within_starts : (from to now : ℕ) (r : Interval) → IsRow r → now < limit → is_within from to now r ≡ true → max r.start from < limit
within_starts from to now r is small within = by_case (nat_lt r.start (measured now r)) within
  where
    by_case : (b : Bool) → cond b (nat_lt (max r.start from) (min (measured now r) to)) (nat_le from r.start && nat_le r.start to) ≡ true → max r.start from < limit
    by_case true within = let end = within_ends to now r is small in let lt = ltb-true (max r.start from) (min (measured now r) to) within in omega (arith, end, lt)
    by_case false within = let le = leb-true from r.start (and_parts (nat_le from r.start) (nat_le r.start to) within).0 in let low = is.start in omega (arith, le, low)

-- seconds that were counted leave room for those of the next interval
pub room : (from to now s : ℕ) (rows : List Interval) (i : ℕ) (r : Interval) → AreRows rows → now < limit → i < length rows → r ≡ get_or rows i r
    → s + total from to now (drop i rows) ≡ total from to now rows → s + seconds_within from to now r ≤ limit
room from to now s rows i r are small lt is sum =
    let here : total from to now (drop i rows) ≡ seconds_within from to now r + total from to now (drop (i + 1) rows) =
    ap (total from to now) (drop_more rows i r lt ∙ ap (λ (q : Interval). q ∷ drop (i + 1) rows) (sym is)) ∙ of_first from to now r (drop (i + 1) rows) in
    omega (arith, here, sum, total_fits from to now rows are small)

-- the open interval starts in range
pub open_start : (rows : List Interval) (o : List Interval × Interval) → AreRows rows → Some o ≡ open_of rows → o.1.start < limit
open_start rows o are is = (last_row o.0 o.1 (subst AreRows (open_is rows o (sym is)) are)).start
