-- The first bad line, by the least index of those that overlap one before them.
use Rattle.std.proofs.Common.{◌≡◌, ℕ, ◌+◌, ◌<◌, ◌≤◌, Bool, true, false, cond, ◌||◌, ◌==◌, List, [], ◌∷◌, ◌++◌, length, get_or, drop, Option, Some, None, Ok, Err, refl, sym, ap, subst, ◌∙◌, arith}
use Rattle.std.specs.Prelude.{nat_lt, not, map, fold, is_none, is_some, IfSome}
use Rattle.std.specs.List.{AllByRecursion, list_any}
use Rattle.std.proofs.lemmas.Bool.Decides.{nat_tests}
use Rattle.std.proofs.lemmas.List.{drop_more, length-map}
use Rattle.timew_interval.specs.declared.interval.Interval.{Interval}
use Rattle.timew_month.specs.declared.read.gathered.Spot.{Spot}
use Rattle.timew_month.specs.declared.read.gathered.Gathered.{Gathered}
use Rattle.timew_interval.specs.Interval.{AreRows, overlaps}
use Rattle.timew_month.specs.Rows.{Found, Seats, seat, seated, in_seats, seats_from, rows_in, late_from, first_bad, unless_bad, judged}
use Rattle.timew_month.specs.Gathered.{LineSpot, line_spot, spot_of, seats_of, lesser, is_at, first_spot, bad_spot, IsGathered}
use Rattle.timew_month.proofs.SeatedRows.{all_seated}
use Rattle.timew_month.proofs.LateRows.{rows_seated}

abbrev pub AllFrom : ℕ → List ℕ → Type 0
AllFrom n late = AllByRecursion (λ index. n ≤ index) late

abbrev pub IsFrom : ℕ → Option ℕ → Type 0
IsFrom n None = Unit {0}
IsFrom n (Some index) = n ≤ index

lesser_index : (n : ℕ) (least : Option ℕ) (index : ℕ) → IsFrom n least → n ≤ index → is_at (lesser least index) n ≡ (is_at least n || (index == n))
lesser_index n None index le other = refl
lesser_index n (Some least) index le other = lesser_is n least index le other
  where
    lesser_is : (n least index : ℕ) → n ≤ least → n ≤ index → (cond (nat_lt index least) index least == n) ≡ ((least == n) || (index == n))
    lesser_is n least index le other = grind (arith, nat_tests)

lesser_from : (n : ℕ) (least : Option ℕ) (index : ℕ) → IsFrom n least → n ≤ index → IsFrom n (lesser least index)
lesser_from n None index le other = other
lesser_from n (Some least) index le other = by_case (nat_lt index least)
  where
    by_case : (b : Bool) → n ≤ cond b index least
    by_case true = other
    by_case false = le

least_is : (n : ℕ) (least : Option ℕ) (late : List ℕ) → IsFrom n least → AllFrom n late → is_at (fold lesser least late) n ≡ (is_at least n || list_any (λ index. index == n) late)
least_is n least [] le all = sym (or_false (is_at least n))
  where
    or_false : (b : Bool) → (b || false) ≡ b
    or_false true = refl
    or_false false = refl
least_is n least (index ∷ late) le all =
    least_is n (lesser least index) late (lesser_from n least index le all.0) all.1
    ∙ ap (λ b. b || list_any (λ p. p == n) late) (lesser_index n least index le all.0)
    ∙ or_assoc (is_at least n) (index == n) (list_any (λ p. p == n) late)
  where
    or_assoc : (a b c : Bool) → ((a || b) || c) ≡ (a || (b || c))
    or_assoc true b c = refl
    or_assoc false b c = refl

next_from : (n : ℕ) (late : List ℕ) → AllFrom n late → list_any (λ index. index == n) late ≡ false → AllFrom (n + 1) late
next_from n [] all none = tt
next_from n (index ∷ late) all none = by_case (index == n) refl none (next_from n late all.1)
  where
    by_case : (b : Bool) → (index == n) ≡ b → (b || list_any (λ p. p == n) late) ≡ false → (list_any (λ p. p == n) late ≡ false → AllFrom (n + 1) late) → AllFrom (n + 1) (index ∷ late)
    by_case true is none more = absurd (cc)
    by_case false is none more = (not_here, more none)
      where
        not_here : n + 1 ≤ index
        not_here = let le : n ≤ index = all.0 in grind (arith, nat_tests)

not_none : (o : Option Interval) → not (is_some o) ≡ is_none o
not_none None = refl
not_none (Some r) = refl

pub first_bad_spot : (n : ℕ) (late : List ℕ) (found : List Found) → AllFrom n late → first_bad n late found ≡ first_spot n (fold lesser None late) (map line_spot found)
first_bad_spot n late [] all = refl
first_bad_spot n late (f ∷ found) all =
    let any = list_any (λ index. index == n) late in
    let same : (not (is_some f.row) || is_at (fold lesser None late) n) ≡ (is_none f.row || any) =
    ap (λ b. b || is_at (fold lesser None late) n) (not_none f.row) ∙ ap (λ b. is_none f.row || b) (least_is n None late tt all) in
    by_case (is_none f.row) any refl (λ none. first_bad_spot (n + 1) late found (next_from n late all none))
    ∙ ap (λ b. cond b (Some (f.file, f.line)) (first_spot (n + 1) (fold lesser None late) (map line_spot found))) (sym same)
  where
    by_case : (a b : Bool) → list_any (λ index. index == n) late ≡ b → (list_any (λ index. index == n) late ≡ false → first_bad (n + 1) late found ≡ first_spot (n + 1) (fold lesser None late) (map line_spot found))
        → cond (a || b) (Some (f.file, f.line)) (first_bad (n + 1) late found) ≡ cond (a || b) (Some (f.file, f.line)) (first_spot (n + 1) (fold lesser None late) (map line_spot found))
    by_case true b is later = refl
    by_case false true is later = refl
    by_case false false is later = ap (λ o. o) (later is)

all_from_0 : (late : List ℕ) → AllFrom 0 late
all_from_0 [] = tt
all_from_0 (index ∷ late) = (omega arith, all_from_0 late)

-- ---- what was gathered is judged

gathered_bad : (found : List Found) (g : Gathered) → IsGathered found g → first_spot 0 (fold lesser None (late_from [] (seats_of g.seats.items))) (map spot_of g.spots.items) ≡ first_bad 0 (late_from [] (in_seats (seats_from 0 found))) found
gathered_bad found g is =
    ap (λ (l : List LineSpot). first_spot 0 (fold lesser None (late_from [] (seats_of g.seats.items))) l) is.spots
    ∙ sym (first_bad_spot 0 (late_from [] (seats_of g.seats.items)) found (all_from_0 (late_from [] (seats_of g.seats.items))))
    ∙ ap (λ (s : Seats). first_bad 0 (late_from [] s) found) is.seats

pub judged_bad : (found : List Found) (g : Gathered) (file : List ℕ) (line : ℕ) → IsGathered found g → Some (file, line) ≡ bad_spot g → judged found ≡ Err (file, line)
judged_bad found g file line is spot = ap (λ (o : Option (List ℕ × ℕ)). unless_bad o (rows_in (in_seats (seats_from 0 found)))) (sym (gathered_bad found g is) ∙ sym spot)

-- if no index is late there is none
least_some : (least : ℕ) (late : List ℕ) → fold lesser (Some least) late ≡ None → ⊥
least_some least [] none = cc
least_some least (index ∷ late) none = least_some (cond (nat_lt index least) index least) late none

least_none : (late : List ℕ) → fold lesser None late ≡ None → late ≡ []
least_none [] none = refl
least_none (index ∷ late) none = absurd (least_some index late none)

-- ---- the indexes of late ones are those of lines

abbrev pub AllBelow : ℕ → Seats → Type 0
AllBelow n seats = AllByRecursion (λ s. s.0 < n) seats

one_below : (n : ℕ) (k : ℕ) (o : Option Interval) (seats : Seats) → k < n → AllBelow n seats → AllBelow n (seat k o seats)
one_below n k None seats lt all = all
one_below n k (Some r) seats lt all = (lt, all)

seats_below : (n k : ℕ) (found : List Found) → k + length found ≤ n → AllBelow n (seats_from k found)
seats_below n k [] le = tt
seats_below n k (f ∷ found) le = one_below n k f.row (seats_from (k + 1) found) (omega arith) (seats_below n (k + 1) found (omega arith))

seated_below : (n : ℕ) (had seats : Seats) → AllBelow n had → AllBelow n seats → AllBelow n (fold (λ had s. seated s had) had seats)
seated_below n had [] all more = all
seated_below n had (s ∷ seats) all more = seated_below n (seated s had) seats (all_seated (λ t. t.0 < n) s had more.0 all) more.1

late_below : (n : ℕ) (before : List Interval) (seats : Seats) → AllBelow n seats → AllByRecursion (λ index. index < n) (late_from before seats)
late_below n before [] all = tt
late_below n before (s ∷ seats) all = by_case (list_any (overlaps s.1) before) (late_below n (before ++ s.1 ∷ []) seats all.1)
  where
    by_case : (b : Bool) → AllByRecursion (λ index. index < n) (late_from (before ++ s.1 ∷ []) seats)
        → AllByRecursion (λ index. index < n) (cond b (s.0 ∷ late_from (before ++ s.1 ∷ []) seats) (late_from (before ++ s.1 ∷ []) seats))
    by_case true more = (all.0, more)
    by_case false more = more

least_below : (n least : ℕ) (late : List ℕ) → least < n → AllByRecursion (λ index. index < n) late → IfSome (fold lesser (Some least) late) (λ m. m < n)
least_below n least [] lt all = lt
least_below n least (index ∷ late) lt all = least_below n (cond (nat_lt index least) index least) late (by_case (nat_lt index least)) all.1
  where
    by_case : (b : Bool) → cond b index least < n
    by_case true = all.0
    by_case false = lt

first_below : (n : ℕ) (late : List ℕ) → AllByRecursion (λ index. index < n) late → IfSome (fold lesser None late) (λ m. m < n)
first_below n [] all = tt
first_below n (index ∷ late) all = least_below n index late all.0 all.1

no_spot : (n m : ℕ) (spots : List LineSpot) → n ≤ m → m < n + length spots → first_spot n (Some m) spots ≡ None → ⊥
no_spot n m [] le lt none = omega arith
no_spot n m (p ∷ spots) le lt none = by_case (not p.is_row || (m == n)) refl none (λ apart. no_spot (n + 1) m spots apart (omega arith))
  where
    apart : (a : Bool) → (a || (m == n)) ≡ false → n + 1 ≤ m
    apart true is = absurd (cc)
    apart false is = grind (arith, nat_tests)

    by_case : (b : Bool) → (not p.is_row || (m == n)) ≡ b → cond b (Some (p.file, p.line)) (first_spot (n + 1) (Some m) spots) ≡ None → (n + 1 ≤ m → first_spot (n + 1) (Some m) spots ≡ None → ⊥) → ⊥
    by_case true is none later = cc
    by_case false is none later = later (apart (not p.is_row) is) none

-- with no bad line the intervals are in order, and none overlaps one before it
pub judged_good : (found : List Found) (g : Gathered) → IsGathered found g → bad_spot g ≡ None → AreRows (rows_in (seats_of g.seats.items)) × (judged found ≡ Ok (rows_in (seats_of g.seats.items)))
judged_good found g is none =
    let seats = seats_of g.seats.items in
    let spots = map spot_of g.spots.items in
    let all : AllBelow (length found) seats = subst (AllBelow (length found)) (sym is.seats) (seated_below (length found) [] (seats_from 0 found) tt (seats_below (length found) 0 found (omega arith))) in
    let below : IfSome (fold lesser None (late_from [] seats)) (λ m. m < length spots) =
    subst (λ (n : ℕ). IfSome (fold lesser None (late_from [] seats)) (λ m. m < n)) (sym (ap length is.spots ∙ length-map found line_spot)) (first_below (length found) (late_from [] seats) (late_below (length found) [] seats all)) in
    let none_late : late_from [] seats ≡ [] = least_none (late_from [] seats) (none_of (fold lesser None (late_from [] seats)) below none) in
    let bad : first_bad 0 (late_from [] (in_seats (seats_from 0 found))) found ≡ None = sym (gathered_bad found g is) ∙ none in
    (rows_seated seats is.sorted is.are none_late, ap (λ (o : Option (List ℕ × ℕ)). unless_bad o (rows_in (in_seats (seats_from 0 found)))) bad ∙ ap (λ (s : Seats). Ok (rows_in s)) (sym is.seats))
  where
    none_of : (o : Option ℕ) → IfSome o (λ m. m < length (map spot_of g.spots.items)) → first_spot 0 o (map spot_of g.spots.items) ≡ None → o ≡ None
    none_of None below none = refl
    none_of (Some m) below none = absurd (no_spot 0 m (map spot_of g.spots.items) (omega arith) (omega arith) none)

-- ---- from spot to spot

pub spot_here : (items : List Spot) (i : ℕ) (late : Option ℕ) (x : Spot) (total : Option (List ℕ × ℕ)) → i < length items → x ≡ get_or items i x → (not x.is_row || is_at late i) ≡ true
    → first_spot i late (map spot_of (drop i items)) ≡ total → Some (x.file, x.line) ≡ total
spot_here items i late x total lt is bad so_far =
    sym (ap (λ b. cond b (Some (x.file, x.line)) (first_spot (i + 1) late (map spot_of (drop (i + 1) items)))) bad)
    ∙ sym (ap (λ (l : List Spot). first_spot i late (map spot_of l)) (drop_more items i x lt ∙ ap (λ (y : Spot). y ∷ drop (i + 1) items) (sym is))) ∙ so_far

pub spot_later : (items : List Spot) (i : ℕ) (late : Option ℕ) (x : Spot) (total : Option (List ℕ × ℕ)) → i < length items → x ≡ get_or items i x → (not x.is_row || is_at late i) ≡ false
    → first_spot i late (map spot_of (drop i items)) ≡ total → first_spot (i + 1) late (map spot_of (drop (i + 1) items)) ≡ total
spot_later items i late x total lt is good so_far =
    sym (ap (λ b. cond b (Some (x.file, x.line)) (first_spot (i + 1) late (map spot_of (drop (i + 1) items)))) good)
    ∙ sym (ap (λ (l : List Spot). first_spot i late (map spot_of l)) (drop_more items i x lt ∙ ap (λ (y : Spot). y ∷ drop (i + 1) items) (sym is))) ∙ so_far
