-- Intervals in the order of start and end.
use Rattle.std.proofs.Common.{◌≡◌, ℕ, Bool, true, false, cond, ◌&&◌, ◌||◌, ◌==◌, [], ◌∷◌, ◌++◌, Option, Some, None, refl, arith}
use Rattle.std.specs.Prelude.{nat_lt, fold}
use Rattle.std.specs.List.{AllByRecursion}
use Rattle.std.proofs.lemmas.Bool.Decides.{nat_tests}
use Rattle.timew_interval.specs.declared.interval.Interval.{Interval}
use Rattle.timew_interval.specs.Interval.{IsRow}
use Rattle.timew_interval.specs.Placing.{is_not_after, end_le}
use Rattle.timew_month.specs.Rows.{Seats, seated}
use Rattle.timew_month.specs.Gathered.{AreSorted, AreSeats}

-- ---- the order

abbrev pub before : ℕ → Option ℕ → ℕ → Option ℕ → Bool
before a e b f = nat_lt a b || ((a == b) && end_le e f)

end_trans : (e f g : Option ℕ) → end_le e f ≡ true → end_le f g ≡ true → end_le e g ≡ true
end_trans e f None p q = refl
end_trans e None (Some g) p q = absurd (cc)
end_trans None (Some f) (Some g) p q = absurd (cc)
end_trans (Some e) (Some f) (Some g) p q = grind (arith, nat_tests)

end_total : (e f : Option ℕ) → end_le e f ≡ false → end_le f e ≡ true
end_total e None p = absurd (cc)
end_total None (Some f) p = refl
end_total (Some e) (Some f) p = grind (arith, nat_tests)

before_trans : (a b c : ℕ) (x y : Bool) (z : Bool) → (x ≡ true → y ≡ true → z ≡ true) → (nat_lt a b || ((a == b) && x)) ≡ true → (nat_lt b c || ((b == c) && y)) ≡ true → (nat_lt a c || ((a == c) && z)) ≡ true
before_trans a b c true true z h p q = rw (h refl refl) (grind (arith, nat_tests))
before_trans a b c true false z h p q = grind (arith, nat_tests)
before_trans a b c false true z h p q = grind (arith, nat_tests)
before_trans a b c false false z h p q = grind (arith, nat_tests)

before_total : (a b : ℕ) (x y : Bool) → (x ≡ false → y ≡ true) → (nat_lt a b || ((a == b) && x)) ≡ false → (nat_lt b a || ((b == a) && y)) ≡ true
before_total a b true y h p = grind (arith, nat_tests)
before_total a b false y h p = rw (h refl) (grind (arith, nat_tests))

pub order_trans : (r s t : Interval) → is_not_after r s ≡ true → is_not_after s t ≡ true → is_not_after r t ≡ true
order_trans r s t p q = before_trans r.start s.start t.start (end_le r.end s.end) (end_le s.end t.end) (end_le r.end t.end) (end_trans r.end s.end t.end) p q

pub order_total : (r s : Interval) → is_not_after r s ≡ false → is_not_after s r ≡ true
order_total r s p = before_total r.start s.start (end_le r.end s.end) (end_le s.end r.end) (end_total r.end s.end) p

-- ---- an interval takes its seat

abbrev pub AllBefore : Seats → Interval → Type 0
AllBefore seats r = AllByRecursion (λ t. is_not_after t.1 r ≡ true) seats

pub all_seated : (P : ℕ × Interval → Type 0) (s : ℕ × Interval) (seats : Seats) → P s → AllByRecursion P seats → AllByRecursion P (seated s seats)
all_seated P s [] here all = (here, tt)
all_seated P s (t ∷ seats) here all = by_case (is_not_after t.1 s.1) (all_seated P s seats here all.1)
  where
    by_case : (b : Bool) → AllByRecursion P (seated s seats) → AllByRecursion P (cond b (t ∷ seated s seats) (s ∷ t ∷ seats))
    by_case true more = (all.0, more)
    by_case false more = (here, all)

behind_too : (r s : Interval) (seats : Seats) → is_not_after r s ≡ true → AllByRecursion (λ t. is_not_after s t.1 ≡ true) seats → AllByRecursion (λ t. is_not_after r t.1 ≡ true) seats
behind_too r s [] le all = tt
behind_too r s (t ∷ seats) le all = (order_trans r s t.1 le all.0, behind_too r s seats le all.1)

pub sorted_seated : (s : ℕ × Interval) (seats : Seats) → AreSorted seats → AreSorted (seated s seats)
sorted_seated s [] sorted = (tt, tt)
sorted_seated s (t ∷ seats) sorted = by_case (is_not_after t.1 s.1) refl (sorted_seated s seats sorted.1)
  where
    by_case : (b : Bool) → is_not_after t.1 s.1 ≡ b → AreSorted (seated s seats) → AreSorted (cond b (t ∷ seated s seats) (s ∷ t ∷ seats))
    by_case true is more = (all_seated (λ u. is_not_after t.1 u.1 ≡ true) s seats is sorted.0, more)
    by_case false is more = let le = order_total t.1 s.1 is in ((le, behind_too s.1 t.1 seats le sorted.0), sorted)

pub are_seated : (s : ℕ × Interval) (seats : Seats) → IsRow s.1 → AreSeats seats → AreSeats (seated s seats)
are_seated s seats row are = all_seated (λ t. IsRow t.1) s seats row are

pub in_sorted : (had seats : Seats) → AreSorted had → AreSorted (fold (λ had s. seated s had) had seats)
in_sorted had [] sorted = sorted
in_sorted had (s ∷ seats) sorted = in_sorted (seated s had) seats (sorted_seated s had sorted)

pub in_are : (had seats : Seats) → AreSeats had → AreSeats seats → AreSeats (fold (λ had s. seated s had) had seats)
in_are had [] are more = are
in_are had (s ∷ seats) are more = in_are (seated s had) seats (are_seated s had more.0 are) more.1

-- each is before those after it
pub sorted_before : (front : Seats) (s : ℕ × Interval) (back : Seats) → AreSorted (front ++ s ∷ back) → AllBefore front s.1
sorted_before [] s back sorted = tt
sorted_before (t ∷ front) s back sorted = (seen front sorted.0, sorted_before front s back sorted.1)
  where
    seen : (front : Seats) → AllByRecursion (λ u. is_not_after t.1 u.1 ≡ true) (front ++ s ∷ back) → is_not_after t.1 s.1 ≡ true
    seen [] all = all.0
    seen (u ∷ front) all = seen front all.1
