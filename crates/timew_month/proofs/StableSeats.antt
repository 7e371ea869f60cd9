-- A stable sort by a number that rises in their order gives intervals their seats.
use denote.Param.Members.{Mut}
use denote.Ref.{Bor}
use Rattle.std.specs.Prelude.{fold, not, ◌*◌}
use Rattle.std.specs.Fn.{Called, ComputesKey}
use Rattle.std.specs.List.{AllByRecursion, filter}
use Rattle.std.specs.List.Sorted.{IsNonDecreasingBy, IsStableByKey, ties}
use Rattle.std.specs.Ordering.{is_lt, nat_cmp}
use Rattle.std.proofs.Common.{◌≡◌, ℕ, suc, ◌+◌, ◌<◌, ◌≤◌, Bool, true, false, cond, ◌&&◌, ◌==◌, List, [], ◌∷◌, ◌++◌, length, get_or, Option, Some, None, refl, sym, ap, ◌∙◌, ⊎_elim, append_assoc, arith, tests}
use Rattle.std.proofs.lemmas.Bool.{cases_order}
use Rattle.std.proofs.lemmas.Bool.Decides.{nat_tests}
use Rattle.std.proofs.lemmas.Fn.{always_returns_same}
use Rattle.std.proofs.lemmas.List.{append-nil}
use Rattle.timew_interval.specs.declared.interval.Interval.{Interval}
use Rattle.timew_month.specs.declared.read.gathered.Seat.{Seat}
use Rattle.timew_month.specs.Gathered.{AreSorted, AreSeats, seat_of, seats_of, end_rank, rank}
use Rattle.timew_interval.specs.Interval.{IsEnd, IsRow}
use Rattle.timew_interval.specs.Placing.{is_not_after}
use Rattle.timew_month.specs.Rows.{Seats, seated, in_seats}
use Rattle.timew_month.proofs.SeatedRows.{before, sorted_seated, are_seated, in_sorted, in_are}

-- ---- the number

not_above : (a : ℕ) (e : Option ℕ) (b : ℕ) (f : Option ℕ) → IsEnd a e → IsEnd b f → before a e b f ≡ true → a * 18446744073709551616 + end_rank e ≤ b * 18446744073709551616 + end_rank f
not_above a None b None p q is = grind (arith, nat_tests)
not_above a None b (Some f) p q is = grind (arith, nat_tests)
not_above a (Some e) b None p q is = grind (arith, nat_tests, p.1)
not_above a (Some e) b (Some f) p q is = grind (arith, nat_tests, p.1)

above : (a : ℕ) (e : Option ℕ) (b : ℕ) (f : Option ℕ) → IsEnd a e → IsEnd b f → before a e b f ≡ false → b * 18446744073709551616 + end_rank f < a * 18446744073709551616 + end_rank e
above a None b None p q is = grind (arith, nat_tests)
above a None b (Some f) p q is = grind (arith, nat_tests, q.1)
above a (Some e) b None p q is = grind (arith, nat_tests)
above a (Some e) b (Some f) p q is = grind (arith, nat_tests, q.1)

-- ---- numbers that rise

abbrev Rise : Seats → Type 0
Rise [] = Unit {0}
Rise (s ∷ seats) = AllByRecursion (λ t. rank s.1 ≤ rank t.1) seats × Rise seats

all_rise : (s : ℕ × Interval) (seats : Seats) → IsRow s.1 → AreSeats seats → AllByRecursion (λ t. is_not_after s.1 t.1 ≡ true) seats → AllByRecursion (λ t. rank s.1 ≤ rank t.1) seats
all_rise s [] row are all = tt
all_rise s (t ∷ seats) row are all = (not_above s.1.start s.1.end t.1.start t.1.end row.end are.0.end all.0, all_rise s seats row are.1 all.1)

sorted_rise : (seats : Seats) → AreSeats seats → AreSorted seats → Rise seats
sorted_rise [] are sorted = tt
sorted_rise (s ∷ seats) are sorted = (all_rise s seats are.0 are.1 sorted.0, sorted_rise seats are.1 sorted.1)

from_each : (n : ℕ) (items : List Seat) → ((j : ℕ) (d : Seat) → j < length items → n ≤ rank (get_or items j d).row) → AllByRecursion (λ t. n ≤ rank t.1) (seats_of items)
from_each n [] each = tt
from_each n (x ∷ items) each = (each 0 x (omega arith), from_each n items (λ j d lt. each (suc j) d (omega arith)))

rises : (items : List Seat) → IsNonDecreasingBy (λ (x : Seat). rank x.row) items → Rise (seats_of items)
rises [] up = tt
rises (x ∷ items) up = (from_each (rank x.row) items (λ j d lt. up 0 (suc j) d (omega arith) (omega arith)), rises items (λ i j d le lt. up (suc i) (suc j) d (omega arith) (omega arith)))

-- ---- those with one number

abbrev like : ℕ → Seats → Seats
like n seats = filter (λ t. rank t.1 == n) seats

is_same : (a b : ℕ) → a ≡ b → (a == b) ≡ true
is_same a b same = grind (arith, nat_tests)

is_not : (a b : ℕ) → b < a → (a == b) ≡ false
is_not a b lt = grind (arith, nat_tests)

is_equal : (a b : ℕ) → (a == b) ≡ true → a ≡ b
is_equal a b same = grind (arith, nat_tests)

all_from : (n m : ℕ) (seats : Seats) → n < m → AllByRecursion (λ t. m ≤ rank t.1) seats → AllByRecursion (λ t. n < rank t.1) seats
all_from n m [] lt all = tt
all_from n m (t ∷ seats) lt all = (omega (arith, lt, all.0), all_from n m seats lt all.1)

none_like : (n : ℕ) (seats : Seats) → AllByRecursion (λ t. n < rank t.1) seats → like n seats ≡ []
none_like n [] all = refl
none_like n (t ∷ seats) all = ap (λ (b : Bool). cond b (t ∷ like n seats) (like n seats)) (is_not (rank t.1) n all.0) ∙ none_like n seats all.1

one_like : (s : ℕ × Interval) (seats : Seats) → like (rank s.1) (s ∷ seats) ≡ s ∷ like (rank s.1) seats
one_like s seats = ap (λ (b : Bool). cond b (s ∷ like (rank s.1) seats) (like (rank s.1) seats)) (is_same (rank s.1) (rank s.1) refl)

-- ---- two lists whose numbers rise, and in which those with one number are in one order

no_less : (s t : ℕ × Interval) (seats others : Seats) → AllByRecursion (λ u. rank t.1 ≤ rank u.1) others → like (rank s.1) (s ∷ seats) ≡ like (rank s.1) (t ∷ others) → rank s.1 < rank t.1 → ⊥
no_less s t seats others all same lt =
    let none : s ∷ like (rank s.1) seats ≡ [] = sym (one_like s seats) ∙ same ∙ none_like (rank s.1) (t ∷ others) (lt, all_from (rank s.1) (rank t.1) others lt all) in
    cc

same_order : (seats others : Seats) → Rise seats → Rise others → ((x : ℕ × Interval) → like (rank x.1) seats ≡ like (rank x.1) others) → seats ≡ others
same_order [] [] up rise same = refl
same_order [] (t ∷ others) up rise same = let none : [] ≡ t ∷ like (rank t.1) others = same t ∙ one_like t others in absurd (cc)
same_order (s ∷ seats) [] up rise same = let none : s ∷ like (rank s.1) seats ≡ [] = sym (one_like s seats) ∙ same s in absurd (cc)
same_order (s ∷ seats) (t ∷ others) up rise same =
    ap (λ (x : ℕ × Interval). x ∷ seats) head ∙ ap (λ (l : Seats). t ∷ l) (same_order seats others up.1 rise.1 (λ x. tail x (rank s.1 == rank x.1) refl))
  where
    level : rank s.1 ≡ rank t.1
    level = ⊎_elim (λ is. is) (λ o. ⊎_elim (λ lt. absurd (no_less s t seats others rise.0 (same s) lt)) (λ lt. absurd (no_less t s others seats up.0 (sym (same t)) lt)) o) (cases_order (rank s.1) (rank t.1))

    heads : s ∷ like (rank s.1) seats ≡ t ∷ like (rank s.1) others
    heads = sym (one_like s seats) ∙ same s ∙ ap (λ (b : Bool). cond b (t ∷ like (rank s.1) others) (like (rank s.1) others)) (is_same (rank t.1) (rank s.1) (sym level))

    head : s ≡ t
    head = let both = heads in cc

    tail : (x : ℕ × Interval) (b : Bool) → (rank s.1 == rank x.1) ≡ b → like (rank x.1) seats ≡ like (rank x.1) others
    tail x true is =
        let both : s ∷ like (rank x.1) seats ≡ t ∷ like (rank x.1) others =
        sym (ap (λ (b : Bool). cond b (s ∷ like (rank x.1) seats) (like (rank x.1) seats)) is) ∙ same x
        ∙ ap (λ (b : Bool). cond b (t ∷ like (rank x.1) others) (like (rank x.1) others)) (ap (λ (n : ℕ). n == rank x.1) (sym level) ∙ is) in
        cc
    tail x false is =
        sym (ap (λ (b : Bool). cond b (s ∷ like (rank x.1) seats) (like (rank x.1) seats)) is) ∙ same x
        ∙ ap (λ (b : Bool). cond b (t ∷ like (rank x.1) others) (like (rank x.1) others)) (ap (λ (n : ℕ). n == rank x.1) (sym level) ∙ is)

-- ---- those with one number, as they take their seats

like_seated : (n : ℕ) (s : ℕ × Interval) (had : Seats) → IsRow s.1 → AreSeats had → AreSorted had → like n (seated s had) ≡ like n had ++ like n (s ∷ [])
like_seated n s [] row are sorted = refl
like_seated n s (t ∷ had) row are sorted = by_case (is_not_after t.1 s.1) refl (like_seated n s had row are.1 sorted.1)
  where
    first : (b : Bool) → like n (seated s had) ≡ like n had ++ like n (s ∷ []) → cond b (t ∷ like n (seated s had)) (like n (seated s had)) ≡ cond b (t ∷ like n had) (like n had) ++ like n (s ∷ [])
    first true later = ap (λ (l : Seats). t ∷ l) later
    first false later = later

    last : (b : Bool) → (b ≡ true → like n (t ∷ had) ≡ []) → cond b (s ∷ like n (t ∷ had)) (like n (t ∷ had)) ≡ like n (t ∷ had) ++ cond b (s ∷ []) []
    last true none = ap (λ (l : Seats). s ∷ l) (none refl) ∙ sym (ap (λ (l : Seats). l ++ s ∷ []) (none refl))
    last false none = sym (append-nil (like n (t ∷ had)))

    none_there : is_not_after t.1 s.1 ≡ false → (rank s.1 == n) ≡ true → like n (t ∷ had) ≡ []
    none_there is same =
        let more : rank s.1 < rank t.1 = above t.1.start t.1.end s.1.start s.1.end are.0.end row.end is in
        let here : rank s.1 ≡ n = is_equal (rank s.1) n same in
        none_like n (t ∷ had) (omega arith, all_from n (rank t.1) had (omega arith) (all_rise t had are.0 are.1 sorted.0))

    by_case : (b : Bool) → is_not_after t.1 s.1 ≡ b → like n (seated s had) ≡ like n had ++ like n (s ∷ []) → like n (cond b (t ∷ seated s had) (s ∷ t ∷ had)) ≡ like n (t ∷ had) ++ like n (s ∷ [])
    by_case true is later = first (rank t.1 == n) later
    by_case false is later = last (rank s.1 == n) (none_there is)

like_more : (n : ℕ) (s : ℕ × Interval) (seats : Seats) → like n (s ∷ []) ++ like n seats ≡ like n (s ∷ seats)
like_more n s seats = by_case (rank s.1 == n)
  where
    by_case : (b : Bool) → cond b (s ∷ []) [] ++ like n seats ≡ cond b (s ∷ like n seats) (like n seats)
    by_case true = refl
    by_case false = refl

like_in : (n : ℕ) (had seats : Seats) → AreSeats had → AreSorted had → AreSeats seats → like n (fold (λ had s. seated s had) had seats) ≡ like n had ++ like n seats
like_in n had [] are sorted more = sym (append-nil (like n had))
like_in n had (s ∷ seats) are sorted more =
    like_in n (seated s had) seats (are_seated s had more.0 are) (sorted_seated s had sorted) more.1
    ∙ ap (λ (l : Seats). l ++ like n seats) (like_seated n s had more.0 are sorted)
    ∙ append_assoc (like n had) (like n (s ∷ [])) (like n seats)
    ∙ ap (λ (l : Seats). like n had ++ l) (like_more n s seats)

-- ---- what the sort says

tie_is : (a b : ℕ) → (b == a) ≡ (not (is_lt (nat_cmp a b)) && not (is_lt (nat_cmp b a)))
tie_is a b = grind (arith, tests)

abbrev less : Seat → Seat → Bool
less x y = is_lt (nat_cmp (rank x.row) (rank y.row))

like_ties : (x : Seat) (items : List Seat) → like (rank x.row) (seats_of items) ≡ seats_of (filter (ties less x) items)
like_ties x [] = refl
like_ties x (y ∷ items) =
    ap (λ (b : Bool). cond b (seat_of y ∷ like (rank x.row) (seats_of items)) (like (rank x.row) (seats_of items))) (tie_is (rank x.row) (rank y.row)) ∙ by_case (ties less x y) (like_ties x items)
  where
    by_case : (b : Bool) → like (rank x.row) (seats_of items) ≡ seats_of (filter (ties less x) items)
        → cond b (seat_of y ∷ like (rank x.row) (seats_of items)) (like (rank x.row) (seats_of items)) ≡ seats_of (cond b (y ∷ filter (ties less x) items) (filter (ties less x) items))
    by_case true later = ap (λ (l : Seats). seat_of y ∷ l) later
    by_case false later = later

abbrev seat_with : ℕ × Interval → Seat
seat_with s = record { index = s.0; row = s.1 }

pub stable_seats : (old new : List Seat) → AreSeats (seats_of old) → IsNonDecreasingBy (λ (x : Seat). rank x.row) new → IsStableByKey (λ (x : Seat). rank x.row) nat_cmp old new → seats_of new ≡ in_seats (seats_of old)
stable_seats old new are up stable =
    same_order (seats_of new) (in_seats (seats_of old)) (rises new up) (sorted_rise (in_seats (seats_of old)) (in_are [] (seats_of old) tt are) (in_sorted [] (seats_of old) tt))
    (λ x. like_ties (seat_with x) new ∙ ap seats_of (stable (seat_with x)) ∙ sym (like_ties (seat_with x) old) ∙ sym (like_in (rank x.1) [] (seats_of old) tt tt are))

-- what a sort by a key says of it, if each call gives this number
pub stable_from : {X F : Type 0} {g : Mut F (Bor X × Unit {0}) ℕ} {f : F} (n : X → ℕ) (old new : List X) → ((key : X → ℕ) → ComputesKey g key f → IsStableByKey key nat_cmp old new)
    → ((a : Bor X × Unit {0}) (r : ℕ) (f' : F) → Called g f a r f' → (r ≡ n a.0.now) × (f' ≡ f)) → IsStableByKey n nat_cmp old new
stable_from {g = g} {f = f} n old new stable gives = stable n (always_returns_same g (λ a r. r ≡ n a.0.now) f gives)
