-- The first newline ends the first line.
use Rattle.std.proofs.Common.{◌≡◌, ℕ, zero, suc, ◌+◌, Bool, true, false, cond, ◌==◌, List, [], ◌∷◌, length, Some, None, refl, ap, arith}
use Rattle.memchr.specs.Find.{is_byte, IsFirstByte}
use Rattle.timew_month.specs.Month.{line_length}

pub first_newline : (bytes : List ℕ) (k : ℕ) → IsFirstByte (is_byte 10) bytes (Some k) → line_length bytes ≡ k
first_newline [] k is = absurd (omega (arith, is.0.high))
first_newline (b ∷ bytes) zero is = ap (λ (e : Bool). cond e 0 (line_length bytes + 1)) is.1
first_newline (b ∷ bytes) (suc k) is = by_case (b == 10) refl (first_newline bytes k (record { low = omega arith; high = omega (arith, is.0.high); before = λ j low lt. is.0.before (suc j) (omega arith) (omega arith) }, is.1))
  where
    by_case : (e : Bool) → (b == 10) ≡ e → line_length bytes ≡ k → cond e 0 (line_length bytes + 1) ≡ suc k
    by_case true here rest = absurd (is.0.before 0 (omega arith) (omega arith) here)
    by_case false here rest = omega (arith, rest)

pub no_newline : (bytes : List ℕ) → IsFirstByte (is_byte 10) bytes None → line_length bytes ≡ length bytes
no_newline [] is = refl
no_newline (b ∷ bytes) is = by_case (b == 10) refl (no_newline bytes (λ j low lt. is (suc j) (omega arith) (omega arith)))
  where
    by_case : (e : Bool) → (b == 10) ≡ e → line_length bytes ≡ length bytes → cond e 0 (line_length bytes + 1) ≡ suc (length bytes)
    by_case true here rest = absurd (is 0 (omega arith) (omega arith) here)
    by_case false here rest = omega (arith, rest)
