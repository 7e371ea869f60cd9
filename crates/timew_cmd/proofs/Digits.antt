-- Times as texts are ASCII.
use Rattle.std.proofs.Common.{ℕ, ◌+◌, ◌/◌, ◌%◌, ◌<◌, [], ◌∷◌, ◌++◌, arith}
use Rattle.std.specs.Str.{IsAscii}
use Rattle.std.proofs.lemmas.Str.{IsAscii-append}
use Rattle.std.proofs.lemmas.Str.Ascii.{IsAscii-nil, IsAscii-cons}
use Rattle.tw_time.specs.declared.clock.Clock.{Clock}
use Rattle.timew_cmd.specs.Texts.{two_digits, clock_text}

low : (n : ℕ) → 48 + n % 10 < 128
low n = omega arith

two : (n : ℕ) → IsAscii (two_digits n)
two n = IsAscii-cons (48 + n / 10 % 10) ((48 + n % 10) ∷ []) (low (n / 10)) (IsAscii-cons (48 + n % 10) [] (low n) IsAscii-nil)

behind_colon : (n : ℕ) → IsAscii (58 ∷ two_digits n)
behind_colon n = IsAscii-cons 58 (two_digits n) (omega arith) (two n)

pub clock_ascii : (c : Clock) → IsAscii (clock_text c)
clock_ascii c = IsAscii-append (two_digits c.hour ++ 58 ∷ two_digits c.minute) (58 ∷ two_digits c.second) (IsAscii-append (two_digits c.hour) (58 ∷ two_digits c.minute) (two c.hour) (behind_colon c.minute)) (behind_colon c.second)

pub minutes_ascii : (m s : ℕ) → IsAscii (58 ∷ two_digits m ++ 58 ∷ two_digits s)
minutes_ascii m s = IsAscii-append (58 ∷ two_digits m) (58 ∷ two_digits s) (behind_colon m) (behind_colon s)
