-- What timew prints of tags, moments and lengths of time: timew(1).
use Rattle.std.specs.Fmt.{decimal}
use Rattle.std.specs.Prelude.{ℕ, List, [], ◌∷◌, codes, ◌+◌, ◌==◌, if◌then◌else◌, ◌++◌, ◌/◌, ◌%◌}
use Rattle.tw_time.specs.Civil.{shown_clock}
use Rattle.tw_time.specs.Moments.{TimeZone}
use Rattle.tw_time.specs.Shown.{shown_day_text}
use Rattle.tw_time.specs.declared.clock.Clock.{Clock}

-- a text and others, each after a space
abbrev pub tags_after : List ℕ → List (List ℕ) → List ℕ
tags_after text [] = text
tags_after text (tag ∷ tags) = tags_after (text ++ 32 ∷ tag) tags

-- tags, with a space between two
abbrev pub tags_text : List (List ℕ) → List ℕ
tags_text [] = []
tags_text (tag ∷ tags) = tags_after tag tags

-- how many intervals there are after a change
abbrev pub stored : ℕ → List ℕ
stored count = codes "Stored " ++ decimal count ++ (if count == 1 then codes " interval.\n" else codes " intervals.\n")

abbrev pub two_digits : ℕ → List ℕ
two_digits n = (48 + n / 10 % 10) ∷ (48 + n % 10) ∷ []

-- HH:MM:SS
abbrev pub clock_text : Clock → List ℕ
clock_text c = two_digits c.hour ++ 58 ∷ two_digits c.minute ++ 58 ∷ two_digits c.second

-- YYYY-MM-DD HH:MM:SS, as the zone's calendar and clock show a second
abbrev pub shown_text : TimeZone → ℕ → List ℕ
shown_text zone at = shown_day_text zone at ++ 32 ∷ clock_text (shown_clock zone at)

-- H:MM:SS of so many seconds
abbrev pub length_text : ℕ → List ℕ
length_text seconds = decimal (seconds / 3600) ++ 58 ∷ two_digits (seconds / 60 % 60) ++ 58 ∷ two_digits (seconds % 60)
