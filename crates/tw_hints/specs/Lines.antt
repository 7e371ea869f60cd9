-- The lines of a hint.
use Rattle.std.specs.Prelude.{◌≡◌, ℕ, ◌==◌, nat_lt, true, not, List, [], ◌∷◌, ◌++◌, Option, Some, None, cond, length, take, chars, encode_utf8_all, codes}
use Rattle.std.specs.List.{list_all}
use Rattle.tw_text.specs.Columns.{cell_text}
use Rattle.tw_terms.specs.Cuts.{parted}

-- a text of at most 20 characters: of a longer one 18, and two points
unfoldable pub cut_text : List ℕ → List ℕ
cut_text text = cond (nat_lt 20 (length (chars text))) (encode_utf8_all (take 18 (chars text)) ++ codes "..") text

-- what is around a mark, with another text in its place
abbrev pub with_number : (text number : List ℕ) → Option (List ℕ × List ℕ) → List ℕ
with_number text number None = text
with_number text number (Some x) = x.0 ++ (number ++ x.1)

-- a text with a number in place of its `#`
abbrev pub numbered : (text number : List ℕ) → List ℕ
numbered text number = with_number text number (parted 35 text)

abbrev pub with_place : (text place number : List ℕ) → Option (List ℕ × List ℕ) → List ℕ
with_place text place number None = numbered text number
with_place text place number (Some x) = x.0 ++ (place ++ numbered x.1 number)

-- a text with a place in place of its `%`, and a number in place of the `#` after it
abbrev pub filled : (text place number : List ℕ) → List ℕ
filled text place number = with_place text place number (parted 37 text)

-- what a line says: a space is in place of each control character
abbrev pub shown : (text place number : List ℕ) → List ℕ
shown text place number = cell_text (filled text place number)

-- a line
unfoldable pub line : (text place number : List ℕ) → List ℕ
line text place number = codes "tw: " ++ (shown text place number ++ codes "\n")

-- a text of a table, and what is put in
pub record Row : Type 0 where
  pub text : List ℕ
  pub place : List ℕ
  pub number : List ℕ

-- a row with nothing to put in, with a place, and with both
abbrev pub says : List ℕ → Row
says text = record { text = text; place = []; number = [] }

abbrev pub says_of : (text place : List ℕ) → Row
says_of text place = record { text = text; place = place; number = [] }

abbrev pub says_with : (text place number : List ℕ) → Row
says_with text place number = record { text = text; place = place; number = number }

-- the lines of rows, one after another
abbrev pub lines_of : List Row → List ℕ
lines_of [] = []
lines_of (r ∷ rs) = line r.text r.place r.number ++ lines_of rs

-- a text begins with `tw: `, ends with a newline and has no other
abbrev pub IsLine : List ℕ → Type 0
IsLine text = (said : List ℕ) × (list_all (λ b. not (b == 10)) said ≡ true) × (text ≡ codes "tw: " ++ (said ++ codes "\n"))

abbrev pub EachIsLine : List (List ℕ) → Type 0
EachIsLine [] = Unit {0}
EachIsLine (l ∷ ls) = IsLine l × EachIsLine ls

abbrev pub joined : List (List ℕ) → List ℕ
joined [] = []
joined (l ∷ ls) = l ++ joined ls

-- a text is such lines, one after another
abbrev pub AreLines : List ℕ → Type 0
AreLines text = (lines : List (List ℕ)) × EachIsLine lines × (text ≡ joined lines)

-- each hint is such lines
abbrev pub HintsAreLines : Type 0
HintsAreLines = (rows : List Row) → AreLines (lines_of rows)
