-- What settings turn on and off: `timetrack`, and of taskrc(5) the variables `gc`, `recurrence`, `hooks` and `recurrence.limit`.
use Rattle.std.specs.Prelude.{ℕ, ◌||◌, Bool, true, false, cond, List, Option, Some, None, codes}
use Rattle.tw_model.specs.Maps.{same_bytes}
use Rattle.tw_settings.specs.Settings.{Pair, value_of}
use Rattle.tw_settings.specs.Weights.{number_of}

-- a word for off
unfoldable pub is_off : List ℕ → Bool
is_off value = same_bytes value (codes "off") || same_bytes value (codes "no") || same_bytes value (codes "0")

-- on where nothing else is said
abbrev pub switched : Option (List ℕ) → Bool
switched None = true
switched (Some value) = cond (is_off value) false true

-- whether a name is on, as all these names are by default
abbrev pub is_set_on : List ℕ → List Pair → Bool
is_set_on name pairs = switched (value_of name pairs)

-- a word for on
unfoldable pub is_on : List ℕ → Bool
is_on value = same_bytes value (codes "on") || same_bytes value (codes "yes") || same_bytes value (codes "1")

-- off where nothing else is said
abbrev pub turned_on : Option (List ℕ) → Bool
turned_on None = false
turned_on (Some value) = is_on value

-- whether a name is on, if it is off by default
abbrev pub is_turned_on : List ℕ → List Pair → Bool
is_turned_on name pairs = turned_on (value_of name pairs)

-- the value of `recurrence.limit`
abbrev pub recurrence_limit : List Pair → ℕ
recurrence_limit pairs = number_of (codes "recurrence.limit") 100 1 pairs
