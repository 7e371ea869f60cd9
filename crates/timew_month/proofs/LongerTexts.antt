-- Texts with one byte more, as they are and with backslashes.
use Rattle.std.specs.Prelude.{nat_lt, not}
use Rattle.std.proofs.Common.{◌≡◌, ℕ, Bool, true, false, cond, ◌||◌, ◌==◌, List, [], ◌∷◌, ◌++◌, length, refl, sym, ap, ◌∙◌, arith}
use Rattle.std.proofs.lemmas.Bool.Decides.{nat_tests}
use Rattle.std.specs.List.{list_any}
use Rattle.timew_interval.specs.Interval.{is_printable, is_tag}
use Rattle.timew_interval.specs.Line.{is_special, is_escaped, escaped}
use Rattle.timew_month.specs.Spelled.{begins_plain}
use Rattle.timew_interval.proofs.Tests.{both, both_true}
use Rattle.timew_month.proofs.TailReadBack.{neither, pushed}

abbrev pub is_control : ℕ → Bool
is_control b = nat_lt b 32 || (b == 127)

is_number : (b n : ℕ) → (b == n) ≡ true → b ≡ n
is_number b n is = grind (arith, nat_tests)

pub one_more : (b n : ℕ) → (b == n) ≡ true → b ∷ [] ≡ n ∷ []
one_more b n is = ap (λ (k : ℕ). k ∷ []) (is_number b n is)

pub none_of : (a b : Bool) → a ≡ false → b ≡ false → a || b ≡ false
none_of false b is also = also
none_of true b is also = absurd (cc)

printed : (b : ℕ) → is_control b ≡ false → not (is_control b) ≡ true
printed b is = ap not is

pub print_push : (x : List ℕ) (b : ℕ) → is_printable x ≡ true → is_control b ≡ false → is_printable (x ++ b ∷ []) ≡ true
print_push [] b is print = both_true (not (is_control b)) true (printed b print) refl
print_push (c ∷ x) b is print = let r = both (not (is_control c)) (is_printable x) is in both_true (not (is_control c)) (is_printable (x ++ b ∷ [])) r.0 (print_push x b r.1 print)

pub tag_printed : (x : List ℕ) → is_tag x ≡ true → is_printable x ≡ true
tag_printed [] is = refl
tag_printed (b ∷ x) is = is

pub tag_push : (x : List ℕ) (b : ℕ) → is_printable x ≡ true → is_control b ≡ false → is_tag (x ++ b ∷ []) ≡ true
tag_push [] b is print = print_push [] b is print
tag_push (c ∷ x) b is print = print_push (c ∷ x) b is print

pub some_tag : (x : List ℕ) → is_printable x ≡ true → (length x == 0) ≡ false → is_tag x ≡ true
some_tag [] is some = absurd (cc)
some_tag (b ∷ x) is some = is

pub special_push : (x : List ℕ) (b : ℕ) → list_any is_special x ≡ false → is_special b ≡ false → list_any is_special (x ++ b ∷ []) ≡ false
special_push [] b none not_one = none_of (is_special b) false not_one refl
special_push (c ∷ x) b none not_one = let r = neither (is_special c) (list_any is_special x) none in none_of (is_special c) (list_any is_special (x ++ b ∷ [])) r.0 (special_push x b r.1 not_one)

pub begins_push : (x : List ℕ) (b : ℕ) → begins_plain x ≡ true → begins_plain (x ++ b ∷ []) ≡ true
begins_push [] b is = absurd (cc)
begins_push (c ∷ x) b is = is

escaped_push : (x : List ℕ) (b : ℕ) → escaped (x ++ b ∷ []) ≡ escaped x ++ escaped (b ∷ [])
escaped_push [] b = refl
escaped_push (c ∷ x) b = by_case (is_escaped c) (escaped_push x b)
  where
    by_case : (e : Bool) → escaped (x ++ b ∷ []) ≡ escaped x ++ escaped (b ∷ []) → cond e (92 ∷ c ∷ escaped (x ++ b ∷ [])) (c ∷ escaped (x ++ b ∷ [])) ≡ cond e (92 ∷ c ∷ escaped x) (c ∷ escaped x) ++ escaped (b ∷ [])
    by_case true rest = ap (λ (l : List ℕ). 92 ∷ c ∷ l) rest
    by_case false rest = ap (λ (l : List ℕ). c ∷ l) rest

-- a byte that needs no backslash, and one that has it
pub as_it_is : (x : List ℕ) (b : ℕ) → is_escaped b ≡ false → escaped x ++ b ∷ [] ≡ escaped (x ++ b ∷ [])
as_it_is x b is = sym (escaped_push x b ∙ ap (λ c. escaped x ++ cond c (92 ∷ b ∷ []) (b ∷ [])) is)

pub after_backslash : (x : List ℕ) (b : ℕ) → is_escaped b ≡ true → (escaped x ++ 92 ∷ []) ++ b ∷ [] ≡ escaped (x ++ b ∷ [])
after_backslash x b is = pushed (escaped x) (b ∷ []) 92 ∙ sym (escaped_push x b ∙ ap (λ c. escaped x ++ cond c (92 ∷ b ∷ []) (b ∷ [])) is)
