-- What is said of words.
use Rattle.std.specs.Prelude.{ℕ, ◌==◌, Bool, true, List, [], ◌∷◌, Option, Some, None, is_some, cond, codes}
use Rattle.std.specs.List.{list_any, before_first, slice_get}
use Rattle.tw_time.specs.Tables.{look_up}
use Rattle.tw_terms.specs.declared.bad_word.WordKind.{WordKind}
use Rattle.tw_terms.specs.declared.bad_word.WordKind.TheVariants as kind
use Rattle.tw_hints.specs.Lines.{Row, says_with, cut_text}
use Rattle.tw_hints.specs.declared.words.Value.{Value}
use Rattle.tw_hints.specs.declared.words.Value.TheVariants.{Priority, Length, Depends, Operator}

-- the word with a number, and an empty one if there are not so many
abbrev pub or_empty : Option (List ℕ) → List ℕ
or_empty None = []
or_empty (Some word) = word

abbrev pub word_at : ℕ → List (List ℕ) → List ℕ
word_at n words = or_empty (slice_get words n)

-- the words that ask for help
abbrev pub helping : List (List ℕ × Bool)
helping = (codes "help", true) ∷ (codes "--help", true) ∷ (codes "-h", true) ∷ (codes "version", true) ∷ (codes "--version", true) ∷ []

unfoldable pub is_for_help : List ℕ → Bool
is_for_help word = is_some (look_up word helping)

abbrev pub asks_for_help : List (List ℕ) → Bool
asks_for_help words = list_any is_for_help words

-- what is said if no task fits
abbrev pub no_match_text : List (List ℕ) → List ℕ
no_match_text words = cond (asks_for_help words) (codes "for help: tw --help") (codes "no task fits; tw task all shows all of them")

-- a text up to the first such character
abbrev pub front_of : ℕ → List ℕ → List ℕ
front_of c text = before_first (λ b. b == c) text

-- the names before the values, and the operators
abbrev pub values : List (List ℕ × Value)
values =
    (codes "priority", Priority) ∷ (codes "recur", Length) ∷ (codes "depends", Depends)
    ∷ (codes "and", Operator) ∷ (codes "or", Operator) ∷ (codes "xor", Operator) ∷ (codes "!", Operator) ∷ []

-- what a word's value was to be, by the name before its colon and its modifier
unfoldable pub value_of : List ℕ → Option Value
value_of word = look_up (front_of 46 (front_of 58 word)) values

abbrev pub value_text : Option Value → List ℕ
value_text (Some Priority) = codes "\"%\": a priority is H, M or L"
value_text (Some Length) = codes "\"%\": a length is as 3d, 2w, 1mo or weekly"
value_text (Some Depends) = codes "\"%\": depends takes numbers and uuids"
value_text (Some Operator) = codes "\"%\" needs a part before it and one behind it"
value_text None = codes "\"%\": no value that it takes; see tw --help"

-- what is said of a word, unless its value is wrong
abbrev pub named_text : WordKind → List ℕ
named_text kind.Value = []
named_text kind.Date = codes "\"%\": no moment; as tomorrow, eow, 2026-12-31"
named_text kind.Modifier = codes "\"%\": no such modifier; tw --help has the list"
named_text kind.Attribute = codes "\"%\": no attribute for here; see tw --help"
named_text kind.Bracket = codes "\"%\": brackets do not match; quote each alone: '(' a or b ')'"
named_text kind.End = codes "the words end where a part is missing"
named_text kind.Missing = codes "\"%\" needs words behind it"
named_text kind.Extra = codes "\"%\" may not be here; words behind -- are text"
named_text kind.NoFilter = codes "\"%\" needs to know which: tw task 3 #"
named_text kind.Id = codes "\"%\" names no task; tw task list has the numbers"

abbrev pub word_text : WordKind → (word : List ℕ) → List ℕ
word_text kind.Value word = value_text (value_of word)
word_text kind word = named_text kind

-- a text with a word, which is cut, for both marks
abbrev pub says_word : (text word : List ℕ) → Row
says_word text word = says_with text (cut_text word) (cut_text word)

abbrev pub word_rows : WordKind → (word : List ℕ) → List Row
word_rows kind word = says_word (word_text kind word) word ∷ []
