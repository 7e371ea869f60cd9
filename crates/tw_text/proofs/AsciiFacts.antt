-- Bytes that are text, those of thousandths among them.
use Rattle.std.proofs.Common.{ℕ, ◌/◌, ◌%◌, ◌+◌, ◌<◌, ◌^◌, List, [], ◌∷◌, Result, Ok, Err, MatchResult, IsOk, refl, arith, unsigned_abs, ℤ, pos, int_lt, true, false, cond, codes, ◌++◌}
use Rattle.std.specs.Str.{IsUtf8, IsAscii}
use Rattle.std.specs.Fmt.{decimal}
use Rattle.std.proofs.lemmas.Fmt.{IsAscii-decimal}
use Rattle.std.proofs.lemmas.Str.{IsAscii-append}
use Rattle.std.proofs.lemmas.Str.Ascii.{IsAscii-nil, IsAscii-cons}
use Rattle.tw_text.specs.Decimal.{sign, decimal3}

pub is_ok_text : {A E : Type 0} (P : A → Type 0) (R : E → Type 0) (bs : List ℕ) (r : Result A E) → IsUtf8 bs → MatchResult r P (λ e. ¬ (IsUtf8 bs) × R e) → IsOk r
is_ok_text P R bs (Ok x) u m = refl
is_ok_text P R bs (Err e) u m = absurd (m.0 u)

small_digit : (n : ℕ) → 48 + n % 10 < 128
small_digit n = omega (arith)

sign-ascii : (z : ℤ) → IsAscii (sign z)
sign-ascii z = elim (int_lt z (pos 0)) as (λ b. IsAscii (cond b (codes "-") [])) [ true ↦ IsAscii-cons 45 [] (omega arith) IsAscii-nil | false ↦ IsAscii-nil ]

pub decimal3-ascii : (z : ℤ) → unsigned_abs z < 2 ^ 64 → IsAscii (decimal3 z)
decimal3-ascii z small =
    let n = unsigned_abs z in
    let whole : n / 1000 < 2 ^ 64 = omega arith in
    IsAscii-append (sign z ++ decimal (n / 1000) ++ codes ".") _ (IsAscii-append (sign z ++ decimal (n / 1000)) (codes ".") (IsAscii-append (sign z) (decimal (n / 1000)) (sign-ascii z) (IsAscii-decimal (n / 1000) whole)) (IsAscii-cons 46 [] (omega arith) IsAscii-nil))
    (IsAscii-cons (48 + n / 100 % 10) ((48 + n / 10 % 10) ∷ (48 + n % 10) ∷ []) (small_digit (n / 100)) (IsAscii-cons (48 + n / 10 % 10) ((48 + n % 10) ∷ []) (small_digit (n / 10)) (IsAscii-cons (48 + n % 10) [] (small_digit n) IsAscii-nil)))
