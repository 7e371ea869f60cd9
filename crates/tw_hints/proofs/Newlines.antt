-- No line of a hint has a newline inside.
use Rattle.std.proofs.Common.{◌≡◌, ℕ, ◌+◌, ◌/◌, ◌%◌, ◌==◌, ◌<◌}
use Rattle.std.proofs.Common.{◌&&◌, ◌||◌, nat_lt, Bool, true, false, not, cond, List, [], ◌∷◌, ◌++◌, map, refl, sym, ap, ◌∙◌, arith}
use Rattle.std.specs.Prelude.{chars, encode_utf8_all}
use lib.Utf8.{encode}
use Rattle.std.specs.List.{list_all}
use Rattle.std.proofs.lemmas.Bool.{eqb-true}
use Rattle.std.proofs.lemmas.List.Folds.{list_all-append}
use Rattle.tw_text.specs.Columns.{blanked}
use Rattle.tw_hints.specs.Lines.{shown, filled, line, HintsAreLines}

abbrev other : ℕ → Bool
other b = not (b == 10)

not_ten : (b : ℕ) → (b ≡ 10 → ⊥) → other b ≡ true
not_ten b none = by (b == 10) (λ e. none (eqb-true b 10 e))
  where
    by : (t : Bool) → (t ≡ true → ⊥) → not t ≡ true
    by true k = absurd (k refl)
    by false k = refl

high : (k x : ℕ) → 10 < k → other (k + x) ≡ true
high k x more = not_ten (k + x) (λ e. absurd (omega (arith, e, more)))

abbrev follow : ℕ → ℕ
follow bits = 128 + bits % 64

abbrev spelt : ℕ → (p q r : Bool) → List ℕ
spelt c p q r =
    cond p (c ∷ [])
    (cond q ((192 + c / 64) ∷ follow c ∷ [])
    (cond r ((224 + c / 4096) ∷ follow (c / 64) ∷ follow c ∷ [])
    ((240 + c / 262144) ∷ follow (c / 4096) ∷ follow (c / 64) ∷ follow c ∷ [])))

followed : (bits : ℕ) → other (follow bits) ≡ true
followed bits = high 128 (bits % 64) (omega arith)

spelt_without : (c : ℕ) → other c ≡ true → (p q r : Bool) → list_all other (spelt c p q r) ≡ true
spelt_without c one true q r = λ i. one i && true
spelt_without c one false true r = λ i. high 192 (c / 64) (omega arith) i && (followed c i && true)
spelt_without c one false false true = λ i. high 224 (c / 4096) (omega arith) i && (followed (c / 64) i && (followed c i && true))
spelt_without c one false false false = λ i. high 240 (c / 262144) (omega arith) i && (followed (c / 4096) i && (followed (c / 64) i && (followed c i && true)))

-- a character that is no newline has none among its bytes
encoded : (c : ℕ) → other c ≡ true → list_all other (encode c) ≡ true
unfolding encode
encoded c one = spelt_without c one (nat_lt c 128) (nat_lt c 2048) (nat_lt c 65536)

control : (c : ℕ) (b : Bool) → (nat_lt c 32 || (c == 127)) ≡ b → cond b 32 c ≡ 10 → ⊥
control c true is ten = let e : 32 ≡ 10 = ten in absurd (omega (arith, e))
control c false is ten = absurd (differ (sym (ap (λ n. nat_lt n 32 || (n == 127)) ten) ∙ is))
  where
    differ : true ≡ false → ⊥
    differ e = absurd (cc)

-- what is put in place of a character is no newline
spaced : (c : ℕ) → other (blanked c) ≡ true
spaced c = not_ten (blanked c) (control c (nat_lt c 32 || (c == 127)) refl)

none_in : (cs : List ℕ) → list_all other (encode_utf8_all (map blanked cs)) ≡ true
none_in [] = refl
none_in (c ∷ cs) = list_all-append other (encode (blanked c)) (encode_utf8_all (map blanked cs)) ∙ (λ i. encoded (blanked c) (spaced c) i && none_in cs i)

pub hints_are : HintsAreLines
unfolding line
hints_are [] = ([], tt, refl)
hints_are (r ∷ rs) =
    let rest = hints_are rs in
    let said = shown r.text r.place r.number in (
      line r.text r.place r.number ∷ rest.0,
      ((said, none_in (chars (filled r.text r.place r.number)), refl), rest.1),
      ap (λ t. line r.text r.place r.number ++ t) rest.2,
    )
