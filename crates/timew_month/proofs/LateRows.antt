-- Which intervals overlap one before them.
use Rattle.std.proofs.Common.{◌≡◌, ℕ, ◌+◌, ◌<◌, ◌≤◌, Bool, true, false, cond, ◌&&◌, ◌||◌, ◌==◌, List, [], ◌∷◌, ◌++◌, length, get_or, take, drop, Option, Some, None, refl, sym, ap, subst, ◌∙◌, arith}
use Rattle.std.specs.Prelude.{nat_lt, fold}
use Rattle.std.specs.List.{AllByRecursion, list_any}
use Rattle.std.proofs.lemmas.Bool.Decides.{nat_tests}
use Rattle.std.proofs.lemmas.List.{take-append-drop, map-append, drop_more, take_more, drop_all}
use Rattle.timew_interval.specs.declared.interval.Interval.{Interval}
use Rattle.timew_month.specs.declared.read.gathered.Seat.{Seat}
use Rattle.timew_interval.specs.Interval.{goes_past, overlaps, IsEnd, IsRow, IsBefore, EndsBy, AreRows}
use Rattle.timew_interval.specs.Placing.{is_not_after, end_le}
use Rattle.timew_month.specs.Rows.{Seats, rows_in, late_from}
use Rattle.timew_month.specs.Gathered.{AreSorted, AreSeats, seat_of, seats_of, lesser}
use Rattle.timew_month.proofs.SeatedRows.{AllBefore, sorted_before}

-- ---- one that is before

-- an interval that goes past the start of one after it overlaps that one
past_overlaps : (a : ℕ) (e : Option ℕ) (b : ℕ) (f : Option ℕ) → IsEnd a e → IsEnd b f → (nat_lt a b || ((a == b) && end_le e f)) ≡ true → (goes_past f a && goes_past e b) ≡ goes_past e b
past_overlaps a e b None p q le = refl
past_overlaps a None b (Some f) p q le = grind (arith, nat_tests)
past_overlaps a (Some e) b (Some f) p q le = grind (arith, nat_tests)

abbrev any_past : List Interval → ℕ → Bool
any_past rows second = list_any (λ r. goes_past r.end second) rows

overlaps_any : (before : Seats) (s : Interval) → AllBefore before s → AreSeats before → IsRow s → list_any (overlaps s) (rows_in before) ≡ any_past (rows_in before) s.start
overlaps_any [] s all are row = refl
overlaps_any (t ∷ before) s all are row =
    ap (λ b. b || list_any (overlaps s) (rows_in before)) (past_overlaps t.1.start t.1.end s.start s.end are.0.end row.end all.0)
    ∙ ap (λ b. goes_past t.1.end s.start || b) (overlaps_any before s all.1 are.1 row)

-- ---- from seat to seat

-- the latest end of those before, by what it goes past
abbrev pub IsLatest : Option ℕ → Seats → Type 0
IsLatest end before = (second : ℕ) → goes_past end second ≡ any_past (rows_in before) second

pub latest_none : IsLatest (Some 0) []
latest_none second = grind (arith, nat_tests)

any_push : (rows : List Interval) (r : Interval) (second : ℕ) → any_past (rows ++ r ∷ []) second ≡ (any_past rows second || goes_past r.end second)
any_push [] r second = or_false (goes_past r.end second)
  where
    or_false : (b : Bool) → (b || false) ≡ (false || b)
    or_false true = refl
    or_false false = refl
any_push (t ∷ rows) r second = ap (λ b. goes_past t.end second || b) (any_push rows r second) ∙ or_assoc (goes_past t.end second) (any_past rows second) (goes_past r.end second)
  where
    or_assoc : (a b c : Bool) → (a || (b || c)) ≡ ((a || b) || c)
    or_assoc true b c = refl
    or_assoc false b c = refl

rows_push : (before : Seats) (s : ℕ × Interval) → rows_in (before ++ s ∷ []) ≡ rows_in before ++ s.1 ∷ []
rows_push before s = map-append (λ (t : ℕ × Interval). t.1) before (s ∷ [])

seats_take_more : (items : List Seat) (k : ℕ) (x : Seat) → k < length items → x ≡ get_or items k x → seats_of (take (k + 1) items) ≡ seats_of (take k items) ++ seat_of x ∷ []
seats_take_more items k x lt is = ap seats_of (take_more items k x lt) ∙ map-append seat_of (take k items) (get_or items k x ∷ []) ∙ ap (λ (y : Seat). seats_of (take k items) ++ seat_of y ∷ []) (sym is)

pub latest_more : (items : List Seat) (k : ℕ) (x : Seat) (old new : Option ℕ) → k < length items → x ≡ get_or items k x → ((second : ℕ) → goes_past new second ≡ (goes_past old second || goes_past x.row.end second))
    → IsLatest old (seats_of (take k items)) → IsLatest new (seats_of (take (k + 1) items))
latest_more items k x old new lt is step latest = λ second.
    step second ∙ ap (λ b. b || goes_past x.row.end second) (latest second) ∙ sym (any_push (rows_in (seats_of (take k items))) x.row second)
    ∙ ap (λ (l : List Interval). any_past l second) (sym (ap rows_in (seats_take_more items k x lt is) ∙ rows_push (seats_of (take k items)) (seat_of x)))

-- the least index of the late ones, with those to come
abbrev pub rest_late : List Seat → ℕ → Option ℕ → Option ℕ
rest_late items k least = fold lesser least (late_from (rows_in (seats_of (take k items))) (seats_of (drop k items)))

pub late_more : (items : List Seat) (k : ℕ) (x : Seat) (end : Option ℕ) (least next : Option ℕ) → k < length items → x ≡ get_or items k x → AreSorted (seats_of items) → AreSeats (seats_of items)
    → IsLatest end (seats_of (take k items)) → next ≡ cond (goes_past end x.row.start) (lesser least x.index) least → rest_late items (k + 1) next ≡ rest_late items k least
late_more items k x end least next lt is sorted are latest step =
    let before = seats_of (take k items) in
    let rest = seats_of (drop (k + 1) items) in
    let behind : seats_of (drop k items) ≡ seat_of x ∷ rest = ap seats_of (drop_more items k x lt ∙ ap (λ (y : Seat). y ∷ drop (k + 1) items) (sym is)) in
    let around : seats_of items ≡ before ++ seat_of x ∷ rest = ap seats_of (sym (take-append-drop k items)) ∙ map-append seat_of (take k items) (drop k items) ∙ ap (λ (l : Seats). before ++ l) behind in
    let here : list_any (overlaps x.row) (rows_in before) ≡ goes_past end x.row.start =
    overlaps_any before x.row (sorted_before before (seat_of x) rest (subst AreSorted around sorted)) (front_are before (seat_of x ∷ rest) (subst AreSeats around are)) (here_is before (seat_of x) rest (subst AreSeats around are)) ∙ sym (latest x.row.start) in
    let up_to : rows_in before ++ x.row ∷ [] ≡ rows_in (seats_of (take (k + 1) items)) = sym (ap rows_in (seats_take_more items k x lt is) ∙ rows_push before (seat_of x)) in
    ap (λ (o : Option ℕ). rest_late items (k + 1) o) step
    ∙ joined (goes_past end x.row.start) (late_from (rows_in (seats_of (take (k + 1) items))) rest)
    ∙ ap (λ b. fold lesser least (cond b (x.index ∷ late_from (rows_in (seats_of (take (k + 1) items))) rest) (late_from (rows_in (seats_of (take (k + 1) items))) rest))) (sym here)
    ∙ ap (λ (l : List Interval). fold lesser least (cond (list_any (overlaps x.row) (rows_in before)) (x.index ∷ late_from l rest) (late_from l rest))) (sym up_to)
    ∙ ap (λ (l : Seats). fold lesser least (late_from (rows_in before) l)) (sym behind)
  where
    front_are : (front back : Seats) → AreSeats (front ++ back) → AreSeats front
    front_are [] back all = tt
    front_are (s ∷ front) back all = (all.0, front_are front back all.1)

    here_is : (front : Seats) (s : ℕ × Interval) (back : Seats) → AreSeats (front ++ s ∷ back) → IsRow s.1
    here_is [] s back all = all.0
    here_is (t ∷ front) s back all = here_is front s back all.1

    joined : (b : Bool) (late : List ℕ) → fold lesser (cond b (lesser least x.index) least) late ≡ fold lesser least (cond b (x.index ∷ late) late)
    joined true late = refl
    joined false late = refl

pub late_end : (items : List Seat) (k : ℕ) (least : Option ℕ) → length items ≤ k → rest_late items k least ≡ least
late_end items k least le = ap (λ (l : List Seat). fold lesser least (late_from (rows_in (seats_of (take k items))) (seats_of l))) (drop_all k items le)

-- ---- rows in order

-- one that is after another and does not overlap it starts at the end of that one or later
ends_before : (a : ℕ) (e : Option ℕ) (b : ℕ) (f : Option ℕ) → IsEnd a e → IsEnd b f → (nat_lt a b || ((a == b) && end_le e f)) ≡ true → (goes_past f a && goes_past e b) ≡ false → EndsBy e b
ends_before a None b None p q le apart = absurd (cc)
ends_before a None b (Some f) p q le apart = absurd (grind (arith, nat_tests))
ends_before a (Some e) b None p q le apart = grind (arith, nat_tests)
ends_before a (Some e) b (Some f) p q le apart = grind (arith, nat_tests)

any_last : (P : Interval → Bool) (rows : List Interval) (r : Interval) → list_any P (rows ++ r ∷ []) ≡ false → P r ≡ false
any_last P [] r none = first (P r) none
  where
    first : (b : Bool) → (b || false) ≡ false → b ≡ false
    first true none = none
    first false none = none
any_last P (t ∷ rows) r none = any_last P rows r (rest (P t) none)
  where
    rest : (b : Bool) → (b || list_any P (rows ++ r ∷ [])) ≡ false → list_any P (rows ++ r ∷ []) ≡ false
    rest true none = absurd (cc)
    rest false none = none

-- none of these is late
none_here : (b : Bool) (index : ℕ) (late : List ℕ) → cond b (index ∷ late) late ≡ [] → (b ≡ false) × (late ≡ [])
none_here true index late none = absurd (cc)
none_here false index late none = (refl, none)

rows_behind : (before : List Interval) (r : Interval) (seats : Seats) → IsRow r → AllByRecursion (λ t. is_not_after r t.1 ≡ true) seats → AreSorted seats → AreSeats seats → late_from (before ++ r ∷ []) seats ≡ [] → IsBefore r.end (rows_in seats) × AreRows (rows_in seats)
rows_behind before r [] row all sorted are none = (tt, tt)
rows_behind before r (s ∷ seats) row all sorted are none =
    let here = none_here (list_any (overlaps s.1) (before ++ r ∷ [])) s.0 (late_from ((before ++ r ∷ []) ++ s.1 ∷ []) seats) none in
    let later = rows_behind (before ++ r ∷ []) s.1 seats are.0 sorted.0 sorted.1 are.1 here.1 in
    (ends_before r.start r.end s.1.start s.1.end row.end are.0.end all.0 (any_last (overlaps s.1) before r here.0), (are.0, later.0, later.1))

-- intervals in the order of start and end, none of which overlaps one before it
pub rows_seated : (seats : Seats) → AreSorted seats → AreSeats seats → late_from [] seats ≡ [] → AreRows (rows_in seats)
rows_seated [] sorted are none = tt
rows_seated (s ∷ seats) sorted are none = let later = rows_behind [] s.1 seats are.0 sorted.0 sorted.1 are.1 none in (are.0, later.0, later.1)
