-- Decimal digits of a number, as they are written and read.
use Rattle.std.proofs.Common.{◌≡◌, ℕ, zero, suc, ◌+◌, ◌-◌, ◌*◌, ◌/◌, ◌%◌, ◌^◌, ◌<◌, ◌≤◌, List, [], ◌∷◌, ◌++◌, Some, true, arith, sym, ap, ◌∙◌, cond, fold, length, drop}
use Rattle.std.specs.Char.{is_ascii_digit}
use Rattle.std.specs.List.{take_while}
use Rattle.std.proofs.Math.Nat.{pow-suc, pow-le-pow_right, mul-lt-mul_of_pos_right, div-div-eq-div-mul}
use Rattle.std.proofs.lemmas.Nat.{pow-add}
use Rattle.std.proofs.lemmas.Bool.Decides.{nat_tests}
use Rattle.std.proofs.lemmas.List.Sums.{take_while-cons}
use Rattle.tw_text.specs.Natural.{number}
use Rattle.tw_time.specs.Forms.{digit_at}
use Rattle.tw_segment.specs.Timestamp.{digits, nanos_of, after_point}

-- k digits are worth less than a second
pub below_a_second : (n k worth : ℕ) → k ≤ 9 → n < 10 ^ k → worth ≡ 10 ^ (9 - k) → n * worth < 1_000_000_000
below_a_second n k worth few small is =
    let whole : k + (9 - k) ≡ 9 = omega arith in
    let all : 10 ^ k * 10 ^ (9 - k) ≡ 10 ^ 9 = sym (pow-add 10 k (9 - k)) ∙ ap (λ e. 10 ^ e) whole in
    let some : 10 ^ 0 ≤ 10 ^ (9 - k) = pow-le-pow_right {n = 10} (omega arith) {i = 0} {j = 9 - k} (omega arith) in
    let more : n * 10 ^ (9 - k) < 10 ^ k * 10 ^ (9 - k) = mul-lt-mul_of_pos_right {m = n} {n = 10 ^ k} {k = 10 ^ (9 - k)} small (omega arith) in
    omega (arith, ap (λ w. n * w) is, more, all)

digit_is : (m : ℕ) → is_ascii_digit (48 + m % 10) ≡ true
digit_is m = grind (arith, nat_tests)

taken : (k n : ℕ) → take_while is_ascii_digit (digits k n ++ 90 ∷ []) ≡ digits k n
taken zero n = take_while-cons is_ascii_digit 90 []
taken (suc k) n =
    take_while-cons is_ascii_digit (digit_at n (10 ^ k)) (digits k n ++ 90 ∷ [])
    ∙ ap (λ b. cond b (digit_at n (10 ^ k) ∷ take_while is_ascii_digit (digits k n ++ 90 ∷ [])) []) (digit_is (n / 10 ^ k))
    ∙ ap (λ xs. digit_at n (10 ^ k) ∷ xs) (taken k n)

one_digit : (m : ℕ) → m / 10 * 10 + (48 + m % 10 - 48) ≡ m
one_digit m = omega arith

one_more : (n k : ℕ) → n / 10 ^ suc k * 10 + (digit_at n (10 ^ k) - 48) ≡ n / 10 ^ k
one_more n k =
    ap (λ w. n / w * 10 + (digit_at n (10 ^ k) - 48)) (pow-suc 10 k)
    ∙ ap (λ q. q * 10 + (digit_at n (10 ^ k) - 48)) (sym (div-div-eq-div-mul n (10 ^ k) 10))
    ∙ one_digit (n / 10 ^ k)

number_from : (k n : ℕ) → fold (λ m c. m * 10 + (c - 48)) (n / 10 ^ k) (digits k n) ≡ n
number_from zero n = omega arith
number_from (suc k) n =
    ap (λ m. fold (λ m c. m * 10 + (c - 48)) m (digits k n)) (one_more n k) ∙ number_from k n

number_of_nine : (n : ℕ) → n < 1_000_000_000 → number (digits 9 n) ≡ n
number_of_nine n small =
    let none : 0 ≡ n / 1_000_000_000 = omega arith in
    ap (λ m. fold (λ m c. m * 10 + (c - 48)) m (digits 9 n)) none ∙ number_from 9 n

-- nine digits before a Z are read as their number
pub after_point-nine : (n : ℕ) → n < 1_000_000_000 → after_point (digits 9 n ++ 90 ∷ []) ≡ Some (n, 90 ∷ [])
after_point-nine n small =
    let text : List ℕ = digits 9 n ++ 90 ∷ [] in
    let once : number (digits 9 n) * 1 ≡ n = omega (arith, number_of_nine n small) in
    ap (λ front. nanos_of front (drop (length front) text)) (taken 9 n) ∙ ap (λ m. Some (m, 90 ∷ [])) once
