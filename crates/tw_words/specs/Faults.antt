-- The first word of a line that is wrong without a look at its filter or at tasks: task(1), under "SUBCOMMANDS" and "MODIFICATIONS".
use Rattle.std.specs.Prelude.{ℕ, ◌+◌, ◌-◌, ◌==◌, ◌&&◌, ◌||◌, not, nat_le, Bool, false, cond, is_some, is_none, option_and_then, List, []}
use Rattle.std.specs.Prelude.{Option, Some, None, Result, Ok, Err, codes}
use Rattle.std.specs.List.{slice_get}
use Rattle.tw_time.specs.Moments.{TimeZone}
use Rattle.tw_model.specs.Maps.{same_bytes}
use Rattle.tw_text.specs.Natural.{natural}
use Rattle.tw_filter.specs.Grammar.{filter_in}
use Rattle.tw_terms.specs.declared.bad_word.BadWord.{BadWord}
use Rattle.tw_terms.specs.declared.bad_word.WordKind.{WordKind}
use Rattle.tw_terms.specs.declared.bad_word.WordKind.TheVariants as bad
use Rattle.tw_terms.specs.declared.token.Token.{Token}
use Rattle.tw_words.specs.Lines.{Parts, parts_of_line}
use Rattle.tw_words.specs.Commands.{filtering_of, rest_of}
use Rattle.tw_words.specs.Modifications.{Clock, tally_of, rest_words, number_at, at_word, first_of, first_fault, text_fault, unless}
use Rattle.tw_words.specs.declared.judging.tally.Tally.{Tally}
use Rattle.tw_words.specs.declared.command.AnyCommand.{AnyCommand}
use Rattle.tw_words.specs.declared.command.AnyCommand.TheVariants.{Tasks}
use Rattle.tw_words.specs.declared.command.Command.TheVariants.{Add, Log, Modify}
use Rattle.tw_words.specs.declared.command.Filtering.{Filtering}
use Rattle.tw_words.specs.declared.command.Filtering.TheVariants as filtering
use Rattle.tw_words.specs.declared.command.Rest.{Rest}
use Rattle.tw_words.specs.declared.command.Rest.TheVariants as rest
use Rattle.tw_settings.specs.declared.word_error.WordError.{WordError}
use Rattle.tw_settings.specs.declared.word_error.WordError.TheVariants.{Bad}

-- a word before a command that has no filter
abbrev pub filter_fault_by : Filtering → Parts → Option BadWord
filter_fault_by filtering.Nothing line = at_word line 0 (unless (line.filter_to == 0) bad.Extra)
filter_fault_by _ line = None

abbrev pub filter_fault : Parts → Option BadWord
filter_fault line = filter_fault_by (filtering_of line.command) line

-- whether changes lack a word
abbrev pub lacks_change : AnyCommand → (few : Bool) → Tally → Bool
lacks_change (Tasks Add) few g = ((g.texts == 0) && not g.described) || (g.recurs && not g.due)
lacks_change (Tasks Log) few g = (g.texts == 0) && not g.described
lacks_change (Tasks Modify) few g = few
lacks_change _ few g = false

-- the word after the command's word, counted from 0
abbrev pub rest_word : Parts → ℕ → Option (List ℕ)
rest_word line k = slice_get line.words (line.rest_from + k)

abbrev pub or_zero : Option ℕ → ℕ
or_zero None = 0
or_zero (Some n) = n

-- the number that such a word is, and 0 if there is no word or it is none
abbrev pub number_behind : Parts → ℕ → ℕ
number_behind line k = or_zero (option_and_then natural (rest_word line k))

abbrev pub lacks_by : Rest → Parts → Bool
lacks_by rest.Modifications line = lacks_change line.command (is_none (rest_word line 0)) (tally_of line)
lacks_by rest.Text line = is_none (rest_word line 0)
lacks_by rest.Numbers line = is_none (rest_word line 1)
lacks_by _ line = false

abbrev pub lacks_filter : Filtering → Parts → Bool
lacks_filter filtering.Needed line = line.filter_to == 0
lacks_filter _ line = false

abbrev pub at_command : Parts → WordKind → Option BadWord
at_command line kind = Some (record { word = line.word_number; kind = kind })

-- what the command's word lacks
abbrev pub lack_fault : Parts → Option BadWord
lack_fault line =
    cond (lacks_by (rest_of line.command) line) (at_command line bad.Missing)
    (cond (lacks_filter (filtering_of line.command) line) (at_command line bad.NoFilter)
    None)

abbrev pub at_rest : Parts → ℕ → Option WordKind → Option BadWord
at_rest line k kind = at_word line (line.rest_from + k) kind

abbrev pub if_there : (List ℕ → Option WordKind) → Option (List ℕ) → Option WordKind
if_there wrong None = None
if_there wrong (Some word) = wrong word

-- a word that is where none may
abbrev pub extra_at : Parts → ℕ → Option BadWord
extra_at line k = at_rest line k (if_there (λ word. Some bad.Extra) (rest_word line k))

abbrev pub no_dash : List ℕ → Option WordKind
no_dash word = unless (same_bytes word (codes "-")) bad.Extra

-- what comes after `import`: one `-` at most
abbrev pub dash_fault : Parts → Option BadWord
dash_fault line = first_of (at_rest line 0 (if_there no_dash (rest_word line 0))) (extra_at line 1)

abbrev pub is_amount : Option ℕ → Bool
is_amount None = false
is_amount (Some n) = nat_le 1 n && nat_le n 10_000

abbrev pub no_amount : List ℕ → Option WordKind
no_amount word = unless (is_amount (natural word)) bad.Value

abbrev pub no_seed : List ℕ → Option WordKind
no_seed word = unless (is_some (natural word)) bad.Value

-- what comes after `_generate`: an amount and a seed
abbrev pub numbers_fault : Parts → Option BadWord
numbers_fault line =
    first_of (at_rest line 0 (if_there no_amount (rest_word line 0)))
    (first_of (at_rest line 1 (if_there no_seed (rest_word line 1))) (extra_at line 2))

-- what comes after `append` and its kin: a text that is not empty
abbrev pub text_rest_fault : Parts → Option BadWord
text_rest_fault line = at_rest line 0 (if_there (text_fault (is_none (rest_word line 1))) (rest_word line 0))

abbrev pub rest_fault_by : Rest → Clock → Parts → Option BadWord
rest_fault_by rest.Modifications clock line = first_fault clock ((tally_of line).texts == 1) line line.rest_from (rest_words line)
rest_fault_by rest.Text clock line = text_rest_fault line
rest_fault_by rest.Nothing clock line = extra_at line 0
rest_fault_by rest.Dash clock line = dash_fault line
rest_fault_by rest.Numbers clock line = numbers_fault line
rest_fault_by _ clock line = None

-- the first word after the command's word that is wrong
abbrev pub rest_fault : Clock → Parts → Option BadWord
rest_fault clock line = rest_fault_by (rest_of line.command) clock line

-- the first word that is wrong
abbrev pub fault_of : Clock → Parts → Option BadWord
fault_of clock line = first_of (filter_fault line) (first_of (lack_fault line) (rest_fault clock line))

abbrev pub unless_bad : {X : Type 0} → X → Option BadWord → Result X WordError
unless_bad x None = Ok x
unless_bad x (Some b) = Err (Bad b)

-- the parts of a line, or the first word that is wrong whatever the moment, the zone and the tasks are
abbrev pub line_in : List (List ℕ) → Result Parts WordError
line_in words = let line = parts_of_line words in unless_bad line (fault_of None line)

-- ---- with the filter

-- a word of the filter, by its number among the words taken; where words end too soon, the number is one more than that of the last
abbrev pub number_taken : Parts → ℕ → WordKind → ℕ
number_taken line n bad.End = number_at line (line.filter_to - 1) + 1
number_taken line n _ = number_at line n

abbrev pub numbered : Parts → BadWord → BadWord
numbered line b = record { word = number_taken line b.word b.kind; kind = b.kind }

abbrev pub numbered_filter : Parts → Result (List Token) BadWord → Result (List Token) BadWord
numbered_filter line (Ok filter) = Ok filter
numbered_filter line (Err b) = Err (numbered line b)

-- the filter that the words of a line are, or the first that is wrong
abbrev pub filter_of_words : Parts → ℕ → TimeZone → Result (List Token) BadWord
filter_of_words line now tz = numbered_filter line (filter_in line.words line.filter_from line.filter_to line.plain_from now tz)

-- the filter of a line, or its first word that is wrong
abbrev pub filter_by : Filtering → Parts → ℕ → TimeZone → Result (List Token) BadWord
filter_by filtering.Nothing line now tz = Ok []
filter_by _ line now tz = filter_of_words line now tz

-- a filter with what comes after it
abbrev pub with_rest : Parts → ℕ → TimeZone → Result (List Token) BadWord → Result (List Token) WordError
with_rest line now tz (Ok filter) = unless_bad filter (fault_of (Some (now, tz)) line)
with_rest line now tz (Err b) = Err (Bad b)

-- the filter of a line, or the first word that is wrong whatever the tasks are
abbrev pub judged : Parts → ℕ → TimeZone → Result (List Token) WordError
judged line now tz = with_rest line now tz (filter_by (filtering_of line.command) line now tz)
