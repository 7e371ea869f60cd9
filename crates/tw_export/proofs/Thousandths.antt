-- Thousandths as numbers of JSON.
use Rattle.std.proofs.Common.{◌≡◌, ℕ, ℤ, pos, zero, suc, ◌+◌, ◌/◌, ◌%◌, ◌^◌, ◌<◌, ◌≤◌, Bool, false, true, cond, ◌==◌, List, [], ◌∷◌, ◌++◌, length, drop, get_or, Some, option_and_then, decimal, codes, refl, sym, ap, subst, ◌∙◌, arith}
use Rattle.std.proofs.lemmas.Bool.{ne_eqb, le-leb, and_from}
use Rattle.std.proofs.lemmas.List.{append_assoc, drop_all}
use Rattle.std.proofs.lemmas.Fmt.{decimal_is_IsNumeral, decimal_digit, first_decimal}
use Rattle.std.proofs.lemmas.Str.Parse.{digit_at}
use Rattle.std.specs.Prelude.{int_lt, unsigned_abs}
use Rattle.std.specs.List.{prefix_len}
use Rattle.std.specs.Char.{is_ascii_digit}
use Rattle.json.specs.Word.{head, after_whole, after_fraction, after_exponent, after_number}
use Rattle.json.specs.Print.{IsNumber}
use Rattle.tw_text.specs.Decimal.{decimal3, sign}

is_digit : (d : ℕ) → 48 ≤ d → d ≤ 57 → is_ascii_digit d ≡ true
is_digit d low high = and_from _ _ (le-leb 48 d low) (le-leb d 57 high)

-- digits end where a point stands
all_digits : (ds r : List ℕ) → ((i : ℕ) → i < length ds → (48 ≤ get_or ds i 0) × (get_or ds i 0 ≤ 57)) → prefix_len is_ascii_digit (ds ++ 46 ∷ r) ≡ length ds
all_digits [] r h = refl
all_digits (d ∷ ds) r h =
    let first = h 0 (omega arith) in
    ap (λ b. cond b (1 + prefix_len is_ascii_digit (ds ++ 46 ∷ r)) 0) (is_digit d first.0 first.1) ∙ ap (λ n. 1 + n) (all_digits ds r (λ i l. h (suc i) (omega arith))) ∙ omega arith

drop_digits : (ds r : List ℕ) → drop (length ds) (ds ++ 46 ∷ r) ≡ 46 ∷ r
drop_digits [] r = refl
drop_digits (d ∷ ds) r = drop_digits ds r

whole_digits : (ds r : List ℕ) → 48 < get_or ds 0 0 → prefix_len is_ascii_digit (ds ++ 46 ∷ r) ≡ length ds → (after_whole (ds ++ 46 ∷ r) ≡ Some (46 ∷ r)) × ((head (ds ++ 46 ∷ r) == 45) ≡ false)
whole_digits [] r first all = absurd (omega arith)
whole_digits (d ∷ ds) r first all = (
  rw (ne_eqb d 48 (λ e. omega arith), all, ne_eqb (suc (length ds)) 0 (λ e. omega arith)) (ap Some (drop_digits ds r)),
  ne_eqb d 45 (λ e. omega arith),
)

whole_decimal : (n : ℕ) (r : List ℕ) → n < 2 ^ 64 → (after_whole (decimal n ++ 46 ∷ r) ≡ Some (46 ∷ r)) × ((head (decimal n ++ 46 ∷ r) == 45) ≡ false)
whole_decimal zero r h = let e = decimal_digit 0 (omega arith) in (ap (λ ds. after_whole (ds ++ 46 ∷ r)) e, ap (λ ds. head (ds ++ 46 ∷ r) == 45) e)
whole_decimal (suc n) r h =
    whole_digits (decimal (suc n)) r (first_decimal (suc n) (omega arith) h) (all_digits _ r (λ i l. digit_at _ i (decimal_is_IsNumeral (suc n) h).0.1 l))

-- a point and three digits are a fraction
fraction : (a b c : ℕ) → a < 10 → b < 10 → c < 10 → after_fraction (46 ∷ (48 + a) ∷ (48 + b) ∷ (48 + c) ∷ []) ≡ Some []
fraction a b c la lb lc = rw (is_digit (48 + a) (omega arith) (omega arith), is_digit (48 + b) (omega arith) (omega arith), is_digit (48 + c) (omega arith) (omega arith)) refl

module _ (q a b c : ℕ) (lq : q < 2 ^ 64) (la : a < 10) (lb : b < 10) (lc : c < 10) where
  abbrev parts : List ℕ
  parts = decimal q ++ 46 ∷ (48 + a) ∷ (48 + b) ∷ (48 + c) ∷ []

  behind : option_and_then after_exponent (option_and_then after_fraction (after_whole parts)) ≡ Some []
  behind = ap (λ o. option_and_then after_exponent (option_and_then after_fraction o)) (whole_decimal q _ lq).0 ∙ ap (option_and_then after_exponent) (fraction a b c la lb lc)

  plain : IsNumber parts
  unfolding after_number
  plain = ap (λ h. option_and_then after_exponent (option_and_then after_fraction (after_whole (cond h (drop 1 parts) parts)))) (whole_decimal q _ lq).1 ∙ behind

  negative : IsNumber (45 ∷ parts)
  unfolding after_number
  negative = behind

  pub signed : (minus : Bool) → IsNumber (cond minus (codes "-") [] ++ parts)
  signed true = negative
  signed false = plain

-- thousandths are a number of JSON
pub decimal3_number : (z : ℤ) → unsigned_abs z < 2 ^ 64 → IsNumber (decimal3 z)
decimal3_number z h =
    let m = unsigned_abs z in
    let ds : List ℕ = (48 + m / 100 % 10) ∷ (48 + m / 10 % 10) ∷ (48 + m % 10) ∷ [] in
    let apart : decimal3 z ≡ sign z ++ (decimal (m / 1000) ++ 46 ∷ ds) = append_assoc (sign z ++ decimal (m / 1000)) (codes ".") ds ∙ append_assoc (sign z) (decimal (m / 1000)) (46 ∷ ds) in
    subst IsNumber (sym apart) (signed (m / 1000) (m / 100 % 10) (m / 10 % 10) (m % 10) (omega (arith, h)) (omega arith) (omega arith) (omega arith) (int_lt z (pos 0)))

-- ---- whole numbers

only_digits : (ds : List ℕ) → ((i : ℕ) → i < length ds → (48 ≤ get_or ds i 0) × (get_or ds i 0 ≤ 57)) → prefix_len is_ascii_digit ds ≡ length ds
only_digits [] h = refl
only_digits (d ∷ ds) h =
    let first = h 0 (omega arith) in
    ap (λ b. cond b (1 + prefix_len is_ascii_digit ds) 0) (is_digit d first.0 first.1) ∙ ap (λ n. 1 + n) (only_digits ds (λ i l. h (suc i) (omega arith))) ∙ omega arith

only_whole : (ds : List ℕ) → 48 < get_or ds 0 0 → prefix_len is_ascii_digit ds ≡ length ds → (after_whole ds ≡ Some []) × ((head ds == 45) ≡ false)
only_whole [] first all = absurd (omega arith)
only_whole (d ∷ ds) first all = (
  rw (ne_eqb d 48 (λ e. omega arith), all, ne_eqb (suc (length ds)) 0 (λ e. omega arith)) (ap Some (drop_all (suc (length ds)) (d ∷ ds) (omega arith))),
  ne_eqb d 45 (λ e. omega arith),
)

decimal_whole : (n : ℕ) → n < 2 ^ 64 → (after_whole (decimal n) ≡ Some []) × ((head (decimal n) == 45) ≡ false)
decimal_whole zero h = let e = decimal_digit 0 (omega arith) in (ap after_whole e, ap (λ ds. head ds == 45) e)
decimal_whole (suc n) h = only_whole (decimal (suc n)) (first_decimal (suc n) (omega arith) h) (only_digits _ (λ i l. digit_at _ i (decimal_is_IsNumeral (suc n) h).0.1 l))

-- a number's decimal text is a number of JSON
pub decimal_number : (n : ℕ) → n < 2 ^ 64 → IsNumber (decimal n)
unfolding after_number
decimal_number n h =
    ap (λ b. option_and_then after_exponent (option_and_then after_fraction (after_whole (cond b (drop 1 (decimal n)) (decimal n))))) (decimal_whole n h).1
    ∙ ap (λ o. option_and_then after_exponent (option_and_then after_fraction o)) (decimal_whole n h).0
