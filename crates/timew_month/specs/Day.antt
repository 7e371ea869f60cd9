-- The moments of one day.
use Rattle.std.specs.Prelude.{ℕ, ◌/◌, ◌%◌, List, ◌∷◌, codes}
use Rattle.tw_time.specs.Forms.{digit_at}

-- hours, minutes and seconds, with two digits each
abbrev pub clock_digits : ℕ → ℕ → ℕ → List ℕ
clock_digits h m s = digit_at h 10 ∷ digit_at h 1 ∷ digit_at m 10 ∷ digit_at m 1 ∷ digit_at s 10 ∷ digit_at s 1 ∷ codes "Z"

-- what a moment's text has after its date, at a second of the day: 100000Z at the second 36,000
abbrev pub clock_text : ℕ → List ℕ
clock_text second = clock_digits (second / 3600) (second / 60 % 60) (second % 60)
