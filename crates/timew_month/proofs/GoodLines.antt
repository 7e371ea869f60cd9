-- Lines that are intervals in order are good, and give these intervals.
use Rattle.std.specs.Prelude.{is_none, fold}
use Rattle.std.proofs.Common.{◌≡◌, ℕ, ◌+◌, ◌≤◌, Bool, true, false, cond, ◌&&◌, ◌||◌, List, [], ◌∷◌, ◌++◌, map, Option, Some, None, Ok, refl, sym, ap, subst, ◌∙◌, append_assoc}
use Rattle.std.specs.List.{list_any, AllByRecursion}
use Rattle.std.proofs.lemmas.List.{append-nil}
use Rattle.std.proofs.lemmas.Bool.{le-ltb}
use Rattle.timew_interval.specs.declared.interval.Interval.{Interval}
use Rattle.timew_interval.specs.Interval.{goes_past, overlaps, IsEnd, IsRow, EndsBy, StartsFrom, IsBefore, AreRows}
use Rattle.timew_interval.specs.Placing.{is_not_after}
use Rattle.timew_month.specs.Rows.{Found, Seats, seat, seats_from, seated, in_seats, rows_in, late_from, first_bad, unless_bad, judged}
use Rattle.timew_interval.proofs.Placed.{early_first, from_earlier, own_start, behind_end}

-- the first is before the second, and they do not overlap
pub record IsEarlier (r s : Interval) : Type 0 where
  pub first : is_not_after r s ≡ true
  pub apart : overlaps s r ≡ false

earlier : (r s : Interval) (d : ℕ) → r.end ≡ Some d → IsEnd r.start r.end → IsEnd s.start s.end → d ≤ s.start → IsEarlier r s
earlier r s d is own other le = record {
  first = early_first r s d is own other le;
  apart = ap (λ b. goes_past s.end r.start && b) (ap (λ o. goes_past o s.start) is ∙ le-ltb s.start d le) ∙ and_false (goes_past s.end r.start);
}
  where
    and_false : (b : Bool) → b && false ≡ false
    and_false true = refl
    and_false false = refl

all_behind : (r : Interval) (d : ℕ) (rows : List Interval) → r.end ≡ Some d → IsEnd r.start r.end → AreRows rows → StartsFrom d rows → AllByRecursion (IsEarlier r) rows
all_behind r d [] is own are from = tt
all_behind r d (s ∷ rows) is own are from =
    (earlier r s d is own are.0.end from, all_behind r d rows is own are.2 (from_earlier d s.start rows from (own_start s.end s.start rows are.0.end are.1)))

-- an interval in order is earlier than those after it
behind_first : (end : Option ℕ) (r : Interval) (rows : List Interval) → r.end ≡ end → IsRow r → IsBefore r.end rows → AreRows rows → AllByRecursion (IsEarlier r) rows
behind_first (Some d) r rows is row before are = all_behind r d rows is row.end are (behind_end r.end d rows is before)
behind_first None r [] is row before are = tt
behind_first None r (s ∷ rows) is row before are = absurd (subst (λ (e : Option ℕ). EndsBy e s.start) is before)

-- each is earlier than those after it
abbrev pub AreEarlier : Seats → Type 0
AreEarlier [] = Unit {0}
AreEarlier (s ∷ seats) = AllByRecursion (λ t. IsEarlier s.1 t.1) seats × AreEarlier seats

-- those before are earlier than those after
abbrev pub AllEarlier : Seats → Seats → Type 0
AllEarlier before seats = AllByRecursion (λ s. AllByRecursion (λ t. IsEarlier t.1 s.1) before) seats

seated_last : (s : ℕ × Interval) (before : Seats) → AllByRecursion (λ t. IsEarlier t.1 s.1) before → seated s before ≡ before ++ s ∷ []
seated_last s [] all = refl
seated_last s (t ∷ before) all = ap (λ b. cond b (t ∷ seated s before) (s ∷ t ∷ before)) all.0.first ∙ ap (λ (l : Seats). t ∷ l) (seated_last s before all.1)

all_push : (P : ℕ × Interval → Type 0) (before : Seats) (s : ℕ × Interval) → AllByRecursion P before → P s → AllByRecursion P (before ++ s ∷ [])
all_push P [] s all here = (here, tt)
all_push P (t ∷ before) s all here = (all.0, all_push P before s all.1 here)

one_more : (before seats : Seats) (s : ℕ × Interval) → AllEarlier before seats → AllByRecursion (λ t. IsEarlier s.1 t.1) seats → AllEarlier (before ++ s ∷ []) seats
one_more before [] s all behind = tt
one_more before (t ∷ seats) s all behind = (all_push (λ u. IsEarlier u.1 t.1) before s all.0 behind.0, one_more before seats s all.1 behind.1)

in_order_from : (before seats : Seats) → AllEarlier before seats → AreEarlier seats → fold (λ had s. seated s had) before seats ≡ before ++ seats
in_order_from before [] all are = sym (append-nil before)
in_order_from before (s ∷ seats) all are =
    ap (λ (l : Seats). fold (λ had t. seated t had) l seats) (seated_last s before all.0)
    ∙ in_order_from (before ++ s ∷ []) seats (one_more before seats s all.1 are.0) are.1
    ∙ append_assoc before (s ∷ []) seats

none_overlaps : (before : Seats) (s : Interval) → AllByRecursion (λ t. IsEarlier t.1 s) before → list_any (overlaps s) (rows_in before) ≡ false
none_overlaps [] s all = refl
none_overlaps (t ∷ before) s all = ap (λ b. b || list_any (overlaps s) (rows_in before)) all.0.apart ∙ none_overlaps before s all.1

rows_in-push : (before : Seats) (s : ℕ × Interval) → rows_in (before ++ s ∷ []) ≡ rows_in before ++ s.1 ∷ []
rows_in-push [] s = refl
rows_in-push (t ∷ before) s = ap (λ (l : List Interval). t.1 ∷ l) (rows_in-push before s)

none_late : (before seats : Seats) → AllEarlier before seats → AreEarlier seats → late_from (rows_in before) seats ≡ []
none_late before [] all are = refl
none_late before (s ∷ seats) all are =
    ap (λ b. cond b (s.0 ∷ late_from (rows_in before ++ s.1 ∷ []) seats) (late_from (rows_in before ++ s.1 ∷ []) seats)) (none_overlaps before s.1 all.0)
    ∙ ap (λ (l : List Interval). late_from l seats) (sym (rows_in-push before s))
    ∙ none_late (before ++ s ∷ []) seats (one_more before seats s all.1 are.0) are.1

-- ---- the lines

abbrev pub numbered : ℕ → List Interval → Seats
numbered n [] = []
numbered n (r ∷ rows) = (n, r) ∷ numbered (n + 1) rows

rows_in-numbered : (n : ℕ) (rows : List Interval) → rows_in (numbered n rows) ≡ rows
rows_in-numbered n [] = refl
rows_in-numbered n (r ∷ rows) = ap (λ (l : List Interval). r ∷ l) (rows_in-numbered (n + 1) rows)

all_numbered : (P : Interval → Type 0) (n : ℕ) (rows : List Interval) → AllByRecursion P rows → AllByRecursion (λ s. P s.1) (numbered n rows)
all_numbered P n [] all = tt
all_numbered P n (r ∷ rows) all = (all.0, all_numbered P (n + 1) rows all.1)

are_earlier : (n : ℕ) (rows : List Interval) → AreRows rows → AreEarlier (numbered n rows)
are_earlier n [] are = tt
are_earlier n (r ∷ rows) are = (all_numbered (IsEarlier r) (n + 1) rows (behind_first r.end r rows refl are.0 are.1 are.2), are_earlier (n + 1) rows are.2)

abbrev pub rows_found : List Found → List (Option Interval)
rows_found found = map (λ f. f.row) found

abbrev pub head_of : Option Interval → List (Option Interval) → Option Interval
head_of o [] = o
head_of o (x ∷ xs) = x

abbrev pub tail_of : List (Option Interval) → List (Option Interval)
tail_of [] = []
tail_of (x ∷ xs) = xs

seats_are : (n : ℕ) (found : List Found) (rows : List Interval) → rows_found found ≡ map Some rows → seats_from n found ≡ numbered n rows
seats_are n [] [] same = refl
seats_are n [] (r ∷ rows) same = absurd (cc)
seats_are n (f ∷ found) [] same = absurd (cc)
seats_are n (f ∷ found) (r ∷ rows) same =
    let is : f.row ≡ Some r = ap (head_of None) same in
    ap (λ (o : Option Interval). seat n o (seats_from (n + 1) found)) is ∙ ap (λ (l : Seats). (n, r) ∷ l) (seats_are (n + 1) found rows (ap tail_of same))

none_bad : (n : ℕ) (found : List Found) (rows : List Interval) → rows_found found ≡ map Some rows → first_bad n [] found ≡ None
none_bad n [] rows same = refl
none_bad n (f ∷ found) [] same = absurd (cc)
none_bad n (f ∷ found) (r ∷ rows) same =
    let is : f.row ≡ Some r = ap (head_of None) same in
    ap (λ (o : Option Interval). cond (is_none o || false) (Some (f.file, f.line)) (first_bad (n + 1) [] found)) is ∙ none_bad (n + 1) found rows (ap tail_of same)

none_before : (seats : Seats) → AllEarlier [] seats
none_before [] = tt
none_before (s ∷ seats) = (tt, none_before seats)

-- lines that are intervals in order
pub judged_rows : (found : List Found) (rows : List Interval) → rows_found found ≡ map Some rows → AreRows rows → judged found ≡ Ok rows
judged_rows found rows same are =
    let seats : seats_from 0 found ≡ numbered 0 rows = seats_are 0 found rows same in
    let sorted : in_seats (seats_from 0 found) ≡ numbered 0 rows = ap in_seats seats ∙ in_order_from [] (numbered 0 rows) (none_before (numbered 0 rows)) (are_earlier 0 rows are) in
    let late : late_from [] (in_seats (seats_from 0 found)) ≡ [] = ap (late_from []) sorted ∙ none_late [] (numbered 0 rows) (none_before (numbered 0 rows)) (are_earlier 0 rows are) in
    ap (λ (l : Seats). unless_bad (first_bad 0 (late_from [] (in_seats (seats_from 0 found))) found) (rows_in l)) sorted
    ∙ ap (λ (l : List ℕ). unless_bad (first_bad 0 l found) (rows_in (numbered 0 rows))) late
    ∙ ap (λ (o : Option (List ℕ × ℕ)). unless_bad o (rows_in (numbered 0 rows))) (none_bad 0 found rows same)
    ∙ ap Ok (rows_in-numbered 0 rows)
