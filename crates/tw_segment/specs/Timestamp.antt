-- The text of a moment in a segment, as it is written and as it is read (RFC 3339).
use Rattle.std.specs.Prelude.{ℕ, zero, suc, ◌-◌, ◌*◌, ◌^◌, ◌==◌, ◌&&◌, nat_le, if◌then◌else◌, ℤ, pos, negsuc, neg_ℤ, ◌-ℤ◌}
use Rattle.std.specs.Prelude.{List, [], ◌∷◌, ◌++◌, codes, take, drop, take_while, length, Option, Some, None, option_map}
use Rattle.std.specs.Char.{is_ascii_digit}
use Rattle.tw_text.specs.Natural.{number}
use Rattle.tw_time.specs.Basic.{◌>>=◌}
use Rattle.tw_time.specs.Forms.{digit_at}
use Rattle.tw_time.specs.Extended.{extended, extended_second, clock_second}
use Rattle.tw_world.specs.declared.Moment.{Moment}
use Rattle.tw_world.specs.Moment.{moment_of}

-- the last so many decimal digits of a number
abbrev pub digits : ℕ → ℕ → List ℕ
digits zero n = []
digits (suc k) n = digit_at n (10 ^ k) ∷ digits k n

-- a moment's timestamp in UTC with nine decimals, as 2023-11-14T22:13:20.000000000Z
unfoldable pub timestamp : Moment → List ℕ
timestamp at = extended at.seconds ++ codes "." ++ digits 9 at.nanos ++ codes "Z"

-- the nanoseconds of one to nine digits, and what follows them
abbrev pub nanos_of : List ℕ → List ℕ → Option (ℕ × List ℕ)
nanos_of digits rest =
    if nat_le 1 (length digits) && nat_le (length digits) 9
    then Some (number digits * 10 ^ (9 - length digits), rest) else None

-- the nanoseconds of the digits that a text begins with, and what follows them
abbrev pub after_point : List ℕ → Option (ℕ × List ℕ)
after_point text =
    nanos_of (take_while is_ascii_digit text) (drop (length (take_while is_ascii_digit text)) text)

-- the nanoseconds of a point and one to nine digits, or of nothing, and what follows
abbrev pub nanos_at : List ℕ → Option (ℕ × List ℕ)
nanos_at [] = Some (0, [])
nanos_at (c ∷ text) = if c == 46 then after_point text else Some (0, c ∷ text)

-- nothing more
abbrev pub ends : List ℕ → Option ℤ
ends [] = Some (pos 0)
ends (c ∷ text) = None

-- how many seconds a clock is ahead of UTC, by the mark of its zone: Z, or +hh:mm or -hh:mm
abbrev pub ahead : List ℕ → Option ℤ
ahead [] = None
ahead (c ∷ text) =
    if c == 90 then ends text
    else (if c == 43 then option_map (λ n. pos n) (clock_second text)
    else (if c == 45 then option_map (λ n. neg_ℤ (pos n)) (clock_second text) else None))

-- the moment of a second counted from 1970 and nanoseconds, if they are in range
abbrev pub moment_at : ℤ → ℕ → Option Moment
moment_at (pos second) nanos = moment_of second nanos
moment_at (negsuc before) nanos = None

-- the moment that a timestamp names: a date and time of 19 characters, decimals, and an offset
unfoldable pub timestamp_moment : List ℕ → Option Moment
timestamp_moment text = do
  second ← extended_second (take 19 text)
  nanos ← nanos_at (drop 19 text)
  offset ← ahead nanos.1
  moment_at (second -ℤ offset) nanos.0
