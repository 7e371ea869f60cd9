-- Command lines and their parts.
use Rattle.std.specs.Prelude.{ℕ, ◌<◌, ◌≤◌, All, ◌+◌, cond, List, [], ◌∷◌, ◌++◌, Option, Some, None, nat_eq, nat_lt, length, drop, codes}
use Rattle.std.specs.List.{starts_with}
use Rattle.tw_model.specs.Maps.{same_bytes}
use Rattle.tw_terms.specs.Cuts.{parted}
use Rattle.tw_settings.specs.Settings.{Pair}
use Rattle.tw_words.specs.Commands.{command_named, rest_of}
use Rattle.tw_words.specs.declared.command.AnyCommand.{AnyCommand}
use Rattle.tw_words.specs.declared.command.AnyCommand.TheVariants.{Tasks}
use Rattle.tw_words.specs.declared.command.Command.TheVariants.{Next}
use Rattle.tw_words.specs.declared.command.Rest.{Rest}
use Rattle.tw_words.specs.declared.command.Rest.TheVariants as rest

-- the parts of a line
pub record Parts : Type 0 where
  pub command : AnyCommand
  pub word_number : ℕ
  pub filter_from : ℕ
  pub filter_to : ℕ
  pub rest_from : ℕ
  pub plain_from : ℕ
  pub words : List (List ℕ)
  pub word_numbers : List ℕ
  pub overrides : List Pair

-- what is taken of a line: the command, if there is one, with the number of its word and how many words are before it; how many words are before
-- `--`, if there is one; words and their numbers; overrides
pub record Taken : Type 0 where
  pub command : Option AnyCommand
  pub word_number : ℕ
  pub before : ℕ
  pub plain : Option ℕ
  pub words : List (List ℕ)
  pub word_numbers : List ℕ
  pub overrides : List Pair

-- numbers of words
abbrev pub AreFew : List ℕ → Type 0
AreFew ns = All (λ n. n < 18446744073709551615) ns

-- the filter and the rest are among so many words, which have these numbers
abbrev pub AreWithin : (filter_from filter_to rest_from words : ℕ) → (word_numbers : List ℕ) → Type 0
AreWithin filter_from filter_to rest_from words word_numbers = (filter_from ≤ filter_to) × (filter_to ≤ words) × (rest_from ≤ words) × AreFew word_numbers

-- the one of two that is cut nearer to the front
abbrev pub nearer : Option Pair → Option Pair → Option Pair
nearer None y = y
nearer (Some x) None = Some x
nearer (Some x) (Some y) = cond (nat_lt (length x.0) (length y.0)) (Some x) (Some y)

-- what is around the first `:` or `=`
abbrev pub round_mark : List ℕ → Option Pair
round_mark text = nearer (parted 58 text) (parted 61 text)

-- an override: `rc.name:value` or `rc.name=value`
unfoldable pub override_in : List ℕ → Option Pair
override_in word = cond (starts_with nat_eq word (codes "rc.")) (round_mark (drop 3 word)) None

-- the command that a word names, if there is none before it
abbrev pub first_command : Option AnyCommand → List ℕ → Option AnyCommand
first_command None word = command_named word
first_command (Some c) word = None

abbrev pub taking : Taken → ℕ → List ℕ → Taken
taking t n word = record {
  command = t.command;
  word_number = t.word_number;
  before = t.before;
  plain = t.plain;
  words = t.words ++ word ∷ [];
  word_numbers = t.word_numbers ++ n ∷ [];
  overrides = t.overrides;
}

abbrev pub dashed : Taken → Taken
dashed t = record {
  command = t.command;
  word_number = t.word_number;
  before = t.before;
  plain = Some (length t.words);
  words = t.words;
  word_numbers = t.word_numbers;
  overrides = t.overrides;
}

abbrev pub named : Taken → ℕ → AnyCommand → Taken
named t n c = record {
  command = Some c;
  word_number = n;
  before = length t.words;
  plain = t.plain;
  words = t.words;
  word_numbers = t.word_numbers;
  overrides = t.overrides;
}

abbrev pub overriding : Taken → Pair → Taken
overriding t x = record {
  command = t.command;
  word_number = t.word_number;
  before = t.before;
  plain = t.plain;
  words = t.words;
  word_numbers = t.word_numbers;
  overrides = t.overrides ++ x ∷ [];
}

abbrev pub as_command : Taken → ℕ → List ℕ → Option AnyCommand → Taken
as_command t n word None = taking t n word
as_command t n word (Some c) = named t n c

abbrev pub as_override : Taken → ℕ → List ℕ → Option Pair → Taken
as_override t n word None = as_command t n word (first_command t.command word)
as_override t n word (Some x) = overriding t x

abbrev pub as_word : Taken → ℕ → List ℕ → Option ℕ → Taken
as_word t n word None = cond (same_bytes word (codes "--")) (dashed t) (as_override t n word (override_in word))
as_word t n word (Some plain) = taking t n word

-- takes one more word, which has the number n
abbrev pub with_word : Taken → ℕ → List ℕ → Taken
with_word t n word = as_word t n word t.plain

abbrev pub taken_from : Taken → ℕ → List (List ℕ) → Taken
taken_from t n [] = t
taken_from t n (word ∷ words) = taken_from (with_word t n word) (n + 1) words

abbrev pub nothing : Taken
nothing = record { command = None; word_number = 0; before = 0; plain = None; words = []; word_numbers = []; overrides = [] }

abbrev pub or_all : ℕ → Option ℕ → ℕ
or_all all None = all
or_all all (Some n) = n

-- where the filter ends, and the rest begins
abbrev pub filter_end : Rest → (before all : ℕ) → ℕ
filter_end rest.Filter before all = all
filter_end _ before all = before

abbrev pub line_with : Taken → AnyCommand → (to : ℕ) → Parts
line_with t c to = record {
  command = c;
  word_number = t.word_number;
  filter_from = 0;
  filter_to = to;
  rest_from = to;
  plain_from = or_all (length t.words) t.plain;
  words = t.words;
  word_numbers = t.word_numbers;
  overrides = t.overrides;
}

abbrev pub line_by : Taken → Option AnyCommand → Parts
line_by t None = line_with t (Tasks Next) (length t.words)
line_by t (Some c) = line_with t c (filter_end (rest_of c) t.before (length t.words))

-- the parts of a line
abbrev pub parts_of_line : List (List ℕ) → Parts
parts_of_line words = let t = taken_from nothing 0 words in line_by t t.command
