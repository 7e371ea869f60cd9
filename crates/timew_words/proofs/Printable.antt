-- A cell has no control characters.
use Rattle.std.specs.Prelude.{not, encode_utf8_all, chars}
use Rattle.std.specs.Char.{encode_utf8}
use Rattle.std.proofs.Common.{◌≡◌, ℕ, ◌+◌, ◌/◌, ◌%◌, ◌<◌, ◌≤◌, Bool, true, false, cond, ◌&&◌, ◌||◌, ◌==◌, nat_lt, List, [], ◌∷◌, ◌++◌, length, map, refl, ap, ◌∙◌, inl, inr, arith, lt-ltb, le-ltb}
use Rattle.std.proofs.lemmas.Bool.{cond-true, cond-false, cases_lt}
use Rattle.std.proofs.lemmas.Bool.Decides.{nat_tests}
use Rattle.std.proofs.lemmas.Str.{encode_ascii}
use Rattle.tw_text.specs.Columns.{blanked, cell_text}
use Rattle.timew_interval.specs.Interval.{is_printable, is_tag}

abbrev is_plain : ℕ → Bool
is_plain b = not (nat_lt b 32 || (b == 127))

high_plain : (b : ℕ) → 128 ≤ b → is_plain b ≡ true
high_plain b h = grind (arith, nat_tests)

both_plain : (xs ys : List ℕ) → is_printable xs ≡ true → is_printable ys ≡ true → is_printable (xs ++ ys) ≡ true
both_plain [] ys p q = q
both_plain (x ∷ xs) ys p q = by_case (is_plain x) p (λ rest. both_plain xs ys rest q)
  where
    by_case : (b : Bool) → (b && is_printable xs) ≡ true → (is_printable xs ≡ true → is_printable (xs ++ ys) ≡ true) → (b && is_printable (xs ++ ys)) ≡ true
    by_case true p both = both p
    by_case false p both = p

cons_plain : (x : ℕ) (xs : List ℕ) → is_plain x ≡ true → is_printable xs ≡ true → is_printable (x ∷ xs) ≡ true
cons_plain x xs p q = ap (λ b. b && is_printable xs) p ∙ q

encode_two : (c : ℕ) → 128 ≤ c → c < 2048 → encode_utf8 c ≡ (192 + c / 64) ∷ (128 + c % 64) ∷ []
unfolding encode_utf8
encode_two c low high = cond-false _ _ _ (le-ltb c 128 low) ∙ cond-true _ _ _ (lt-ltb c 2048 high)

encode_three : (c : ℕ) → 2048 ≤ c → c < 65536 → encode_utf8 c ≡ (224 + c / 4096) ∷ (128 + c / 64 % 64) ∷ (128 + c % 64) ∷ []
unfolding encode_utf8
encode_three c low high = cond-false _ _ _ (le-ltb c 128 (omega arith)) ∙ cond-false _ _ _ (le-ltb c 2048 low) ∙ cond-true _ _ _ (lt-ltb c 65536 high)

encode_four : (c : ℕ) → 65536 ≤ c → encode_utf8 c ≡ (240 + c / 262144) ∷ (128 + c / 4096 % 64) ∷ (128 + c / 64 % 64) ∷ (128 + c % 64) ∷ []
unfolding encode_utf8
encode_four c low = cond-false _ _ _ (le-ltb c 128 (omega arith)) ∙ cond-false _ _ _ (le-ltb c 2048 (omega arith)) ∙ cond-false _ _ _ (le-ltb c 65536 low)

-- a byte that is 128 or more, before others
high : (a : ℕ) (xs : List ℕ) → 128 ≤ a → is_printable xs ≡ true → is_printable (a ∷ xs) ≡ true
high a xs h rest = cons_plain a xs (high_plain a h) rest

-- the bytes of a character
char_plain : (c : ℕ) → is_plain c ≡ true → is_printable (encode_utf8 c) ≡ true
char_plain c plain = elim (cases_lt c 128) [
  | inl small ↦ ap is_printable (encode_ascii c small) ∙ cons_plain c [] plain refl
  | inr big ↦ elim (cases_lt c 2048) [
    | inl two ↦
        ap is_printable (encode_two c big two)
        ∙ high (192 + c / 64) ((128 + c % 64) ∷ []) (omega arith) (high (128 + c % 64) [] (omega arith) refl)
    | inr more ↦ elim (cases_lt c 65536) [
      | inl three ↦
          ap is_printable (encode_three c more three)
          ∙ high (224 + c / 4096) ((128 + c / 64 % 64) ∷ (128 + c % 64) ∷ []) (omega arith)
          (high (128 + c / 64 % 64) ((128 + c % 64) ∷ []) (omega arith) (high (128 + c % 64) [] (omega arith) refl))
      | inr four ↦
          ap is_printable (encode_four c four)
          ∙ high (240 + c / 262144) ((128 + c / 4096 % 64) ∷ (128 + c / 64 % 64) ∷ (128 + c % 64) ∷ []) (omega arith)
          (high (128 + c / 4096 % 64) ((128 + c / 64 % 64) ∷ (128 + c % 64) ∷ []) (omega arith)
          (high (128 + c / 64 % 64) ((128 + c % 64) ∷ []) (omega arith) (high (128 + c % 64) [] (omega arith) refl)))
    ]
  ]
]

blanked_plain : (c : ℕ) → is_plain (blanked c) ≡ true
blanked_plain c = by_case (nat_lt c 32 || (c == 127)) refl
  where
    by_case : (b : Bool) → (nat_lt c 32 || (c == 127)) ≡ b → is_plain (cond b 32 c) ≡ true
    by_case true e = refl
    by_case false e = ap not e

chars_plain : (cs : List ℕ) → is_printable (encode_utf8_all (map blanked cs)) ≡ true
chars_plain [] = refl
chars_plain (c ∷ cs) = both_plain (encode_utf8 (blanked c)) (encode_utf8_all (map blanked cs)) (char_plain (blanked c) (blanked_plain c)) (chars_plain cs)

-- a text with a space in place of each control character has none
pub cell_printable : (text : List ℕ) → is_printable (cell_text text) ≡ true
cell_printable text = chars_plain (chars text)

-- a text that has some is a tag
pub cell_tag : (tag text : List ℕ) → tag ≡ cell_text text → (length tag == 0) ≡ false → is_tag tag ≡ true
cell_tag [] text is some = absurd (cc)
cell_tag (b ∷ tag) text is some = ap is_printable is ∙ cell_printable text

-- a text and another behind a space
pub spaced_printable : (text more cell : List ℕ) → more ≡ text ++ 32 ∷ cell_text cell → is_printable text ≡ true → is_printable more ≡ true
spaced_printable text more cell is plain = ap is_printable is ∙ both_plain text (32 ∷ cell_text cell) plain (cell_printable cell)
