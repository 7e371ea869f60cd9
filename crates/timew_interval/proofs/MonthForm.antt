-- What the name of a month file is made of.
use Rattle.std.proofs.Common.{◌≡◌, ℕ, ◌<◌, Bool, true, false, List, [], ◌∷◌, codes, refl, sym, ap, subst, ◌∙◌, arith}
use Rattle.std.specs.Prelude.{◌&&◌, ◌||◌, ◌==◌, nat_le}
use Rattle.std.specs.Str.{IsAscii, IsUtf8}
use Rattle.std.specs.Char.{is_ascii_digit}
use Rattle.std.specs.List.{list_all}
use Rattle.std.proofs.lemmas.Str.{IsUtf8-from_ascii}
use Rattle.std.proofs.lemmas.Str.Ascii.{IsAscii-nil, IsAscii-cons}
use Rattle.std.proofs.lemmas.Bool.{eqb-true}
use Rattle.std.proofs.lemmas.Bool.Decides.{nat_tests}
use Rattle.tw_world.specs.Folder.{same_bytes, is_file_name}
use Rattle.timew_interval.specs.MonthName.{is_month_name, two_digits}
use Rattle.timew_interval.proofs.SameBytes.{same_bytes_exact}
use Rattle.timew_interval.proofs.Tests.{both}

ends_false : (b : Bool) → (b && false) ≡ false
ends_false true = refl
ends_false false = refl

-- a byte of a name: ASCII, no slash and not zero
abbrev pub IsPlain : ℕ → Type 0
IsPlain c = (c < 128) × (((c == 47) || (c == 0)) ≡ false)

digit_plain : (c : ℕ) → is_ascii_digit c ≡ true → IsPlain c
digit_plain c is = (grind (arith, nat_tests), grind (arith, nat_tests))

digit_no_dot : (c : ℕ) → is_ascii_digit c ≡ true → (c == 46) ≡ false
digit_no_dot c is = grind (arith, nat_tests)

-- digits, a hyphen, digits, and the ending
pub data IsForm : List ℕ → Type 0 where
  form : (a b c d f g : ℕ) → is_ascii_digit a ≡ true → is_ascii_digit b ≡ true → is_ascii_digit c ≡ true → is_ascii_digit d ≡ true → is_ascii_digit f ≡ true → is_ascii_digit g ≡ true
      → IsForm (a ∷ b ∷ c ∷ d ∷ 45 ∷ f ∷ g ∷ codes ".data")

pub form_of : (name : List ℕ) → is_month_name name ≡ true → IsForm name
form_of [] is = absurd (cc)
form_of (a ∷ []) is = absurd (cc)
form_of (a ∷ b ∷ []) is = absurd (cc)
form_of (a ∷ b ∷ c ∷ []) is = absurd (cc)
form_of (a ∷ b ∷ c ∷ d ∷ []) is = absurd (cc)
form_of (a ∷ b ∷ c ∷ d ∷ e ∷ []) is = absurd (cc)
form_of (a ∷ b ∷ c ∷ d ∷ e ∷ f ∷ []) is = absurd (cc)
form_of (a ∷ b ∷ c ∷ d ∷ e ∷ f ∷ g ∷ rest) is =
    let ending = both _ (same_bytes rest (codes ".data")) is in
    let most = both _ (nat_le (two_digits (f ∷ g ∷ rest)) 12) ending.0 in
    let least = both _ (nat_le 1 (two_digits (f ∷ g ∷ rest))) most.0 in
    let month = both _ (list_all is_ascii_digit (f ∷ g ∷ [])) least.0 in
    let hyphen = both _ (e == 45) month.0 in
    let year = both _ (list_all is_ascii_digit (a ∷ b ∷ c ∷ d ∷ [])) hyphen.0 in
    let p = both (is_ascii_digit a) (list_all is_ascii_digit (b ∷ c ∷ d ∷ [])) year.1 in
    let q = both (is_ascii_digit b) (list_all is_ascii_digit (c ∷ d ∷ [])) p.1 in
    let r = both (is_ascii_digit c) (list_all is_ascii_digit (d ∷ [])) q.1 in
    let s = both (is_ascii_digit d) true r.1 in
    let t = both (is_ascii_digit f) (list_all is_ascii_digit (g ∷ [])) month.1 in
    let u = both (is_ascii_digit g) true t.1 in
    let whole : a ∷ b ∷ c ∷ d ∷ 45 ∷ f ∷ g ∷ codes ".data" ≡ a ∷ b ∷ c ∷ d ∷ e ∷ f ∷ g ∷ rest =
    ap (λ (h : ℕ). a ∷ b ∷ c ∷ d ∷ h ∷ f ∷ g ∷ codes ".data") (sym (eqb-true e 45 hyphen.1)) ∙ ap (λ (l : List ℕ). a ∷ b ∷ c ∷ d ∷ e ∷ f ∷ g ∷ l) (sym (same_bytes_exact rest (codes ".data") ending.1)) in
    subst IsForm whole (form a b c d f g p.0 q.0 r.0 s.0 t.0 u.0)

plain_form : (name : List ℕ) → IsForm name → (is_file_name name ≡ true) × IsAscii name
plain_form _ (form a b c d f g ia ib ic id if ig) = (
  rw (digit_no_dot a ia, (digit_plain a ia).1, (digit_plain b ib).1, (digit_plain c ic).1, (digit_plain d id).1, (digit_plain f if).1, (digit_plain g ig).1) refl,
  IsAscii-cons a (b ∷ c ∷ d ∷ 45 ∷ f ∷ g ∷ codes ".data") (digit_plain a ia).0 (IsAscii-cons b (c ∷ d ∷ 45 ∷ f ∷ g ∷ codes ".data") (digit_plain b ib).0 (IsAscii-cons c (d ∷ 45 ∷ f ∷ g ∷ codes ".data") (digit_plain c ic).0 (IsAscii-cons d (45 ∷ f ∷ g ∷ codes ".data") (digit_plain d id).0
      (IsAscii-cons 45 (f ∷ g ∷ codes ".data") (omega arith) (IsAscii-cons f (g ∷ codes ".data") (digit_plain f if).0 (IsAscii-cons g (codes ".data") (digit_plain g ig).0 ending)))))),
)
  where
    ending : IsAscii (codes ".data")
    ending = IsAscii-cons 46 (codes "data") (omega arith) (IsAscii-cons 100 (codes "ata") (omega arith) (IsAscii-cons 97 (codes "ta") (omega arith) (IsAscii-cons 116 (codes "a") (omega arith) (IsAscii-cons 97 [] (omega arith) IsAscii-nil))))

-- a folder may have it
pub month_file : (name : List ℕ) → is_month_name name ≡ true → is_file_name name ≡ true
month_file name is = (plain_form name (form_of name is)).0

pub month_utf8 : (name : List ℕ) → is_month_name name ≡ true → IsUtf8 name
month_utf8 name is = IsUtf8-from_ascii name (plain_form name (form_of name is)).1
