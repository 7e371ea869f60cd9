-- The names of month files rise with the seconds.
use Rattle.std.specs.Prelude.{nat_lt}
use Rattle.std.proofs.Common.{◌≡◌, ◌⊎◌, inl, inr, ℕ, ◌+◌, ◌*◌, ◌<◌, ◌≤◌, Bool, true, false, List, [], ◌∷◌, codes, refl, sym, ap, ◌∙◌, arith}
use Rattle.std.proofs.lemmas.Bool.{ltb-true, ltb-false}
use Rattle.std.specs.Cmp.{nat_cmp_is}
use Rattle.std.specs.List.{AllByRecursion}
use Rattle.std.specs.Ordering.{nat_cmp, ordering_then}
use Rattle.std.specs.declared.cmp.Ordering.{Ordering}
use Rattle.std.specs.declared.cmp.Ordering.TheVariants.{Less, Equal, Greater}
use Rattle.tw_time.specs.Forms.{digit_at}
use Rattle.tw_time.proofs.MonthOrder.{months_in_order, is_month}
use Rattle.tw_world.specs.Folder.{bytes_cmp}
use Rattle.timew_interval.specs.declared.interval.Interval.{Interval}
use Rattle.timew_interval.specs.MonthName.{is_month_name, month_name, name_of}
use Rattle.timew_interval.specs.Interval.{StartsFrom, AreRows}
use Rattle.timew_interval.proofs.Placed.{own_start, from_earlier}
use Rattle.timew_month.proofs.GroupedMonths.{NotBefore, MonthsRise}
use Rattle.timew_interval.proofs.MonthNames.{IsDated, name_is, name_good}

first_less : (a b : ℕ) (xs ys : List ℕ) → bytes_cmp (a ∷ xs) (b ∷ ys) ≡ Less → (a < b) ⊎ ((a ≡ b) × (bytes_cmp xs ys ≡ Less))
first_less a b xs ys less = by_case (nat_lt a b) (nat_lt b a) refl refl
  where
    by_case : (l g : Bool) → nat_lt a b ≡ l → nat_lt b a ≡ g → (a < b) ⊎ ((a ≡ b) × (bytes_cmp xs ys ≡ Less))
    by_case true g is_l is_g = inl (ltb-true a b is_l)
    by_case false true is_l is_g = absurd (let c : Greater ≡ nat_cmp a b = nat_cmp_is a b Greater (ltb-true b a is_g) in let e : ordering_then Greater (bytes_cmp xs ys) ≡ Less = ap (λ (o : Ordering). ordering_then o (bytes_cmp xs ys)) c ∙ less in cc)
    by_case false false is_l is_g =
        let same : a ≡ b = omega (arith, ltb-false a b is_l, ltb-false b a is_g) in
        inr (same, ap (λ (o : Ordering). ordering_then o (bytes_cmp xs ys)) (nat_cmp_is a b Equal same) ∙ less)

abbrev pub Lower : ℕ → ℕ → List ℕ → List ℕ → Type 0
Lower a b xs ys = (a < b) ⊎ ((a ≡ b) × (bytes_cmp xs ys ≡ Less))

abbrev pub month_part : ℕ → List ℕ
month_part m = 45 ∷ digit_at m 10 ∷ digit_at m 1 ∷ codes ".data"

no_data : bytes_cmp (codes ".data") (codes ".data") ≡ Less → ⊥
no_data is = absurd (let e : Equal ≡ Less = is in cc)

month_not_less : (m n : ℕ) → m ≤ n → n ≤ 12 → bytes_cmp (month_part n) (month_part m) ≡ Less → ⊥
month_not_less m n le few less = of_sign (first_less 45 45 (digit_at n 10 ∷ digit_at n 1 ∷ codes ".data") (digit_at m 10 ∷ digit_at m 1 ∷ codes ".data") less)
  where
    of_one : digit_at n 10 ≡ digit_at m 10 → Lower (digit_at n 1) (digit_at m 1) (codes ".data") (codes ".data") → ⊥
    of_one tens (inl lt) = omega (arith, lt, tens, le, few)
    of_one tens (inr (same, rest)) = no_data rest

    of_ten : Lower (digit_at n 10) (digit_at m 10) (digit_at n 1 ∷ codes ".data") (digit_at m 1 ∷ codes ".data") → ⊥
    of_ten (inl lt) = omega (arith, lt, le, few)
    of_ten (inr (same, rest)) = of_one same (first_less (digit_at n 1) (digit_at m 1) (codes ".data") (codes ".data") rest)

    of_sign : Lower 45 45 (digit_at n 10 ∷ digit_at n 1 ∷ codes ".data") (digit_at m 10 ∷ digit_at m 1 ∷ codes ".data") → ⊥
    of_sign (inl lt) = omega (arith, lt)
    of_sign (inr (same, rest)) = of_ten (first_less (digit_at n 10) (digit_at m 10) (digit_at n 1 ∷ codes ".data") (digit_at m 1 ∷ codes ".data") rest)

names_not_less : (y m z n : ℕ) → y ≤ 9999 → z ≤ 9999 → m ≤ 12 → n ≤ 12 → y * 12 + m ≤ z * 12 + n → 1 ≤ m → 1 ≤ n → bytes_cmp (name_of z n) (name_of y m) ≡ Less → ⊥
names_not_less y m z n small_y small_z few_m few_n le one_m one_n less = of_thousand (first_less (digit_at z 1000) (digit_at y 1000) (digit_at z 100 ∷ digit_at z 10 ∷ digit_at z 1 ∷ month_part n) (digit_at y 100 ∷ digit_at y 10 ∷ digit_at y 1 ∷ month_part m) less)
  where
    years : y ≤ z
    years = omega (arith, le, few_m, few_n, one_m, one_n)

    of_one : digit_at z 1000 ≡ digit_at y 1000 → digit_at z 100 ≡ digit_at y 100 → digit_at z 10 ≡ digit_at y 10 → Lower (digit_at z 1) (digit_at y 1) (month_part n) (month_part m) → ⊥
    of_one a b c (inl lt) = omega (arith, lt, a, b, c, years, small_y, small_z)
    of_one a b c (inr (same, rest)) = month_not_less m n (omega (arith, le, a, b, c, same, small_y, small_z)) few_n rest

    of_ten : digit_at z 1000 ≡ digit_at y 1000 → digit_at z 100 ≡ digit_at y 100 → Lower (digit_at z 10) (digit_at y 10) (digit_at z 1 ∷ month_part n) (digit_at y 1 ∷ month_part m) → ⊥
    of_ten a b (inl lt) = omega (arith, lt, a, b, years, small_y, small_z)
    of_ten a b (inr (same, rest)) = of_one a b same (first_less (digit_at z 1) (digit_at y 1) (month_part n) (month_part m) rest)

    of_hundred : digit_at z 1000 ≡ digit_at y 1000 → Lower (digit_at z 100) (digit_at y 100) (digit_at z 10 ∷ digit_at z 1 ∷ month_part n) (digit_at y 10 ∷ digit_at y 1 ∷ month_part m) → ⊥
    of_hundred a (inl lt) = omega (arith, lt, a, years, small_y, small_z)
    of_hundred a (inr (same, rest)) = of_ten a same (first_less (digit_at z 10) (digit_at y 10) (digit_at z 1 ∷ month_part n) (digit_at y 1 ∷ month_part m) rest)

    of_thousand : Lower (digit_at z 1000) (digit_at y 1000) (digit_at z 100 ∷ digit_at z 10 ∷ digit_at z 1 ∷ month_part n) (digit_at y 100 ∷ digit_at y 10 ∷ digit_at y 1 ∷ month_part m) → ⊥
    of_thousand (inl lt) = omega (arith, lt, years, small_y, small_z)
    of_thousand (inr (same, rest)) = of_hundred same (first_less (digit_at z 100) (digit_at y 100) (digit_at z 10 ∷ digit_at z 1 ∷ month_part n) (digit_at y 10 ∷ digit_at y 1 ∷ month_part m) rest)

-- a later second has no earlier name
pub later_name : (s t : ℕ) → IsDated s → IsDated t → s ≤ t → bytes_cmp (month_name t) (month_name s) ≡ Less → ⊥
later_name s t a b le less =
    let of_a = is_month s a.0 a.1 in
    let of_b = is_month t b.0 b.1 in
    names_not_less a.0.year a.0.month b.0.year b.0.month of_a.year of_b.year of_a.last of_b.last (months_in_order s t a.0 b.0 le a.1 b.1) of_a.first of_b.first
    (sym (λ i. bytes_cmp (name_is t b i) (name_is s a i)) ∙ less)

-- ---- of rows

all_later : (r : Interval) (rows : List Interval) → IsDated r.start → AreRows rows → StartsFrom r.start rows → AllByRecursion (λ s. IsDated s.start) rows → AllByRecursion (NotBefore r) rows
all_later r [] d are from all = tt
all_later r (s ∷ rows) d are from all = (later_name r.start s.start d all.0 from, all_later r rows d are.2 (from_earlier r.start s.start rows from (own_start s.end s.start rows are.0.end are.1)) all.1)

pub rows_months_rise : (rows : List Interval) → AreRows rows → AllByRecursion (λ r. IsDated r.start) rows → MonthsRise rows
rows_months_rise [] are all = tt
rows_months_rise (r ∷ rows) are all = (all_later r rows all.0 are.2 (own_start r.end r.start rows are.0.end are.1) all.1, rows_months_rise rows are.2 all.1)

pub names_good : (rows : List Interval) → AllByRecursion (λ r. IsDated r.start) rows → AllByRecursion (λ r. is_month_name (month_name r.start) ≡ true) rows
names_good [] all = tt
names_good (r ∷ rows) all = (name_good r.start all.0, names_good rows all.1)
