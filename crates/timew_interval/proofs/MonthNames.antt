-- The name of the month file of a second.
use Rattle.std.specs.Prelude.{nat_le, ◌&&◌, slice_index_or}
use Rattle.std.proofs.Common.{◌≡◌, ℕ, ◌+◌, ◌/◌, ◌%◌, ◌≤◌, true, List, ◌∷◌, length, codes, Option, Some, None, refl, sym, ap, ◌∙◌, arith}
use Rattle.std.specs.Char.{is_ascii_digit}
use Rattle.std.proofs.lemmas.Bool.Decides.{nat_tests}
use Rattle.tw_time.specs.declared.form.Parts.{Parts}
use Rattle.tw_time.specs.Forms.{digit_at}
use Rattle.tw_time.specs.Basic.{basic, utc_parts, text_of_parts}
use Rattle.tw_time.proofs.MonthOrder.{is_month}
use Rattle.timew_interval.specs.MonthName.{is_month_name, two_digits, month_name, name_of}

-- a second with a date
abbrev pub IsDated : ℕ → Type 0
IsDated at = (p : Parts) × (utc_parts at ≡ Some p)

-- one whose text has its length
pub dated : (at : ℕ) → length (basic at) ≡ 16 → IsDated at
unfolding basic
dated at long = of_parts (utc_parts at) refl long
  where
    of_parts : (o : Option Parts) → utc_parts at ≡ o → length (text_of_parts (codes "YYYYMMDDThhmmssZ") o) ≡ 16 → IsDated at
    of_parts None is long = absurd (omega (arith, long))
    of_parts (Some p) is long = (p, is)

-- ---- the name

pub name_is : (at : ℕ) (d : IsDated at) → month_name at ≡ name_of d.0.year d.0.month
unfolding month_name
name_is at d = ap (text_of_parts (codes "YYYY-MM.data")) d.1

-- the digits of the basic text are those of the name
pub basic_is : (at : ℕ) (d : IsDated at) → (rest : List ℕ) × (basic at ≡ digit_at d.0.year 1000 ∷ digit_at d.0.year 100 ∷ digit_at d.0.year 10 ∷ digit_at d.0.year 1 ∷ digit_at d.0.month 10 ∷ digit_at d.0.month 1 ∷ rest)
unfolding basic
basic_is at d = (_, ap (text_of_parts (codes "YYYYMMDDThhmmssZ")) d.1)

-- the name from the digits of the basic text
abbrev pub name_from : List ℕ → List ℕ
name_from text = slice_index_or text 0 0 ∷ slice_index_or text 1 0 ∷ slice_index_or text 2 0 ∷ slice_index_or text 3 0 ∷ 45 ∷ slice_index_or text 4 0 ∷ slice_index_or text 5 0 ∷ codes ".data"

pub name_by_text : (at : ℕ) (text : List ℕ) → text ≡ basic at → length text ≡ 16 → name_from text ≡ month_name at
name_by_text at text is long =
    let d = dated at (sym (ap length is) ∙ long) in
    ap name_from (is ∙ (basic_is at d).1) ∙ sym (name_is at d)

-- ---- it is a month's name

digit_is : (k : ℕ) → is_ascii_digit (48 + k % 10) ≡ true
digit_is k = grind (arith, nat_tests)

good_name : (y m : ℕ) → y ≤ 9999 → 1 ≤ m → m ≤ 12 → is_month_name (name_of y m) ≡ true
good_name y m small one few =
    rw (digit_is (y / 1000), digit_is (y / 100), digit_is (y / 10), digit_is (y / 1), digit_is (m / 10), digit_is (m / 1), two_is) in_range
  where
    two_is : two_digits (digit_at m 10 ∷ digit_at m 1 ∷ codes ".data") ≡ m
    two_is = omega (arith, few)

    in_range : (nat_le 1 m && nat_le m 12 && true) ≡ true
    in_range = grind (arith, nat_tests)

pub name_good : (at : ℕ) → IsDated at → is_month_name (month_name at) ≡ true
name_good at d = let m = is_month at d.0 d.1 in ap is_month_name (name_is at d) ∙ good_name d.0.year d.0.month m.year m.first m.last
