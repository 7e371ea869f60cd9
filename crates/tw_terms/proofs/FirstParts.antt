-- The first part of a text, and those after it.
use Rattle.std.proofs.Common.{◌≡◌, ℕ, ◌+◌, ◌-◌, ◌<◌, ◌≤◌, ◌==◌, Bool, true, false, cond, List, [], ◌∷◌, Option, Some, None, length, take, drop, nat_lt, length-drop, refl, arith, sym, subst, ap, ◌∙◌}
use Rattle.std.proofs.lemmas.Bool.{ltb-true, ltb-false}
use Rattle.std.proofs.lemmas.List.Sums.{fails_before_first}
use Rattle.std.proofs.lemmas.List.Splits.{slice_split_first, slice_split_none}
use Rattle.std.specs.List.{position, position_or_len}
use Rattle.tw_terms.specs.Cuts.{round, parted, parts}

found : (n len k : ℕ) → cond (nat_lt n len) (Some n) None ≡ Some k → (n ≡ k) × (n < len)
found n len k e = by (nat_lt n len) (λ t. ltb-true n len t) e
  where
    by : (t : Bool) → (t ≡ true → n < len) → cond t (Some n) None ≡ Some k → (n ≡ k) × (n < len)
    by true within is = let same : n ≡ k = cc in (same, within refl)
    by false within is = absurd (cc)

missed : (n len : ℕ) → cond (nat_lt n len) (Some n) None ≡ None → len ≤ n
missed n len e = by (nat_lt n len) (λ t. ltb-false n len t) e
  where
    by : (t : Bool) → (t ≡ false → len ≤ n) → cond t (Some n) None ≡ None → len ≤ n
    by true past is = absurd (cc)
    by false past is = past refl

cut_at : (c : ℕ) (xs : List ℕ) (k : ℕ) → position (λ b. b == c) xs ≡ Some k → parts c xs ≡ take k xs ∷ parts c (drop (k + 1) xs)
cut_at c xs k e =
    let at = found (position_or_len (λ b. b == c) xs) (length xs) k e in
    subst (λ n. parts c xs ≡ take n xs ∷ parts c (drop (n + 1) xs)) at.0 (slice_split_first (λ b. b == c) xs 0 at.1)

uncut : (c : ℕ) (xs : List ℕ) → position (λ b. b == c) xs ≡ None → parts c xs ≡ xs ∷ []
uncut c xs e =
    let past : length xs ≤ position_or_len (λ b. b == c) xs = missed (position_or_len (λ b. b == c) xs) (length xs) e in
    slice_split_none (λ b. b == c) xs (λ k d within. fails_before_first (λ b. b == c) xs k d (omega arith))

same_pair : (p q : List ℕ × List ℕ) → Some p ≡ Some q → p ≡ q
same_pair p q e = cc

-- a text that is parted, as its first part and the others
pub first_part : (c : ℕ) (xs : List ℕ) (front rest : List ℕ) → Some (front, rest) ≡ parted c xs → parts c xs ≡ front ∷ parts c rest
first_part c xs front rest e = by (position (λ b. b == c) xs) refl e
  where
    by : (o : Option ℕ) → position (λ b. b == c) xs ≡ o → Some (front, rest) ≡ round xs o → parts c xs ≡ front ∷ parts c rest
    by None at is = absurd (cc)
    by (Some k) at is =
        let both = same_pair (front, rest) (take k xs, drop (k + 1) xs) is in
        let a : front ≡ take k xs = ap (λ (x : List ℕ × List ℕ). x.0) both in
        let b : rest ≡ drop (k + 1) xs = ap (λ (x : List ℕ × List ℕ). x.1) both in
        cut_at c xs k at ∙ (λ i. sym a i ∷ parts c (sym b i))

-- a text that is not, is its only part
pub only_part : (c : ℕ) (xs : List ℕ) → None ≡ parted c xs → parts c xs ≡ xs ∷ []
only_part c xs e = by (position (λ b. b == c) xs) refl e
  where
    by : (o : Option ℕ) → position (λ b. b == c) xs ≡ o → None ≡ round xs o → parts c xs ≡ xs ∷ []
    by None at is = uncut c xs at
    by (Some k) at is = absurd (cc)

-- the rest of a parted text is shorter
pub part_shorter : (c : ℕ) (xs : List ℕ) (front rest : List ℕ) → Some (front, rest) ≡ parted c xs → length rest < length xs
part_shorter c xs front rest e = by (position (λ b. b == c) xs) refl e
  where
    by : (o : Option ℕ) → position (λ b. b == c) xs ≡ o → Some (front, rest) ≡ round xs o → length rest < length xs
    by None at is = absurd (cc)
    by (Some k) at is =
        let both = same_pair (front, rest) (take k xs, drop (k + 1) xs) is in
        let b : rest ≡ drop (k + 1) xs = ap (λ (x : List ℕ × List ℕ). x.1) both in
        let within = found (position_or_len (λ b. b == c) xs) (length xs) k at in
        let len : length rest ≡ length xs - (k + 1) = ap length b ∙ length-drop (k + 1) xs in
        omega (arith, len, within.0, within.1)

-- how much is left of a text, with one more if there is any
abbrev pub left_len : Option (List ℕ) → ℕ
left_len None = 0
left_len (Some text) = length text + 1
