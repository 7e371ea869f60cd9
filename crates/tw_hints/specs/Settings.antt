-- What is said of lines and overrides that are no settings.
use Rattle.std.specs.Prelude.{ℕ, ◌-◌, ◌==◌, List, [], ◌∷◌, Option, Some, None, is_some, cond, codes}
use Rattle.std.specs.Fmt.{decimal}
use Rattle.std.specs.List.{slice_get}
use Rattle.std.specs.Str.{is_utf8}
use Rattle.tw_model.specs.Maps.{same_bytes}
use Rattle.tw_terms.specs.Cuts.{parts}
use Rattle.tw_settings.specs.Settings.{Pair, trimmed}
use Rattle.tw_settings.specs.Reasons.{why_refused, why_not_allowed}
use Rattle.tw_settings.specs.declared.reasons.Why.{Why}
use Rattle.tw_settings.specs.declared.reasons.Why.TheVariants as why
use Rattle.tw_words.specs.Lines.{override_in}
use Rattle.tw_hints.specs.declared.places.Places.{Places}
use Rattle.tw_hints.specs.Lines.{Row, says_of, says_with, cut_text}
use Rattle.tw_hints.specs.Words.{or_empty}

-- why a line is none
abbrev pub why_text : Why → List ℕ
why_text why.NoText = codes "a line is text in UTF-8"
why_text why.NoPair = codes "a line is name=value"
why_text why.Include = codes "include is not known; take the line out"
why_text why.Switch = codes "it takes on or off"
why_text (why.UpTo most) = codes "it takes a number up to %"
why_text why.Url = codes "it takes http://HOST:PORT"
why_text why.Uuid = codes "it takes a uuid"
why_text why.Decimal = codes "it takes a number as 1.5"
why_text why.Encryption = codes "tw does not encrypt; take the line out"

abbrev pub most_of : Why → ℕ
most_of (why.UpTo most) = most
most_of reason = 0

abbrev pub why_rows : Option Why → List Row
why_rows None = []
why_rows (Some reason) = says_of (why_text reason) (decimal (most_of reason)) ∷ []

-- the line of the settings with a number, from 1
abbrev pub line_at : ℕ → List ℕ → List ℕ
line_at number settings = or_empty (slice_get (parts 10 settings) (number - 1))

-- the text that bytes are, and an empty one if they are none
abbrev pub text_in : List ℕ → List ℕ
text_in bytes = cond (is_utf8 bytes) bytes []

-- the line itself, and why it is no setting
abbrev pub line_rows : (line file : List ℕ) → List Row
line_rows line file = says_with (codes "%: #") file (cut_text (text_in line)) ∷ why_rows (why_refused line)

-- why a word is no override that may be there
abbrev pub why_pair : Option Pair → Option Why
why_pair None = None
why_pair (Some x) = why_not_allowed (trimmed x.0) (trimmed x.1)

abbrev pub why_word : List ℕ → Option Why
why_word word = why_pair (override_in word)

-- the first word before `--` that is none
abbrev pub refused_in : List (List ℕ) → List ℕ
refused_in [] = []
refused_in (word ∷ words) = cond (same_bytes word (codes "--")) [] (cond (is_some (why_word word)) word (refused_in words))

-- that word, and why
abbrev pub override_rows : (word : List ℕ) → List Row
override_rows word = says_of (codes "\"%\"") (cut_text word) ∷ why_rows (why_word word)

-- a line of the settings, or an override if the number is 0
abbrev pub setting_rows : (number : ℕ) → (words : List (List ℕ)) → (settings : List ℕ) → Places → List Row
setting_rows number words settings p = cond (number == 0) (override_rows (refused_in words)) (line_rows (line_at number settings) p.settings)
