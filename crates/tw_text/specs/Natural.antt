-- Natural numbers as texts.
use Rattle.std.specs.Prelude.{ℕ, ◌+◌, ◌-◌, ◌*◌, ◌^◌, ◌==◌, ◌&&◌, ◌||◌, not, nat_lt, Bool, List, length, slice_index, fold, Option, Some, None, if◌then◌else◌}
use Rattle.std.specs.Char.{is_ascii_digit}
use Rattle.std.specs.List.{list_all}

-- the number that digits are written as
abbrev pub number : List ℕ → ℕ
number digits = fold (λ n c. n * 10 + (c - 48)) 0 digits

-- one digit or more, without a 0 before others
abbrev pub is_natural : List ℕ → Bool
is_natural text =
    nat_lt 0 (length text) && list_all is_ascii_digit text && ((length text == 1) || not (slice_index text 0 == 48))

-- the number that such a text is written as, if it is below 2 ^ 64
abbrev pub natural : List ℕ → Option ℕ
natural text = if is_natural text && nat_lt (number text) (2 ^ 64) then Some (number text) else None
