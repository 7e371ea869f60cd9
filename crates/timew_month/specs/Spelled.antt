-- What a line may have after its moments: tags and an annotation, each as it is or in quotes.
use Rattle.std.specs.Prelude.{◌≡◌, ◌↔◌, ℕ, Bool, true, false, not, ◌==◌, List, [], ◌∷◌, ◌++◌, codes, fold, Option, Some, None}
use Rattle.std.specs.List.{flat_map, list_any, AllByRecursion}
use Rattle.std.specs.Str.{is_utf8}
use Rattle.tw_world.specs.Folder.{add_name as add_tag}
use Rattle.tw_time.specs.Basic.{basic_moment}
use Rattle.timew_interval.specs.declared.interval.Interval.{Interval}
use Rattle.timew_interval.specs.Interval.{is_printable}
use Rattle.timew_interval.specs.Line.{is_special, quoted}
use Rattle.timew_interval.specs.ReadBack.{IsGoodTag}
use Rattle.timew_month.specs.Line.{is_end, row_of}
use Rattle.timew_month.specs.Tail.{marked}

-- a text as it is, or in quotes with a backslash before each quotation mark and each backslash
pub data Piece : Type 0 where
  AsIs : List ℕ → Piece
  InQuotes : List ℕ → Piece

abbrev pub piece_bytes : Piece → List ℕ
piece_bytes (AsIs text) = text
piece_bytes (InQuotes text) = quoted text

abbrev pub text_of : Piece → List ℕ
text_of (AsIs text) = text
text_of (InQuotes text) = text

-- a tag is not empty, printable and in UTF-8; one without quotes has no special character
abbrev pub IsTag : Piece → Type 0
IsTag (AsIs tag) = IsGoodTag tag × (list_any is_special tag ≡ false)
IsTag (InQuotes tag) = IsGoodTag tag

-- a text that is not empty and does not begin with a quotation mark
abbrev pub begins_plain : List ℕ → Bool
begins_plain [] = false
begins_plain (b ∷ text) = not (b == 34)

-- an annotation is printable and in UTF-8; one in quotes may be empty
abbrev pub IsNote : Piece → Type 0
IsNote (AsIs note) = (begins_plain note ≡ true) × (is_printable note ≡ true) × (is_utf8 note ≡ true)
IsNote (InQuotes note) = (is_printable note ≡ true) × (is_utf8 note ≡ true)

-- what is last: one more tag, or an annotation
pub data Last : Type 0 where
  OneMore : Piece → Last
  Note : Piece → Last

abbrev pub last_bytes : Last → List ℕ
last_bytes (OneMore tag) = piece_bytes tag
last_bytes (Note note) = codes "# " ++ piece_bytes note

abbrev pub IsLast : Last → Type 0
IsLast (OneMore tag) = IsTag tag
IsLast (Note note) = IsNote note

-- tags with a space after each
abbrev pub spaced : List Piece → List ℕ
spaced pieces = flat_map (λ p. piece_bytes p ++ 32 ∷ []) pieces

-- the tags, each once, in byte order
abbrev pub tags_of : List Piece → List (List ℕ)
tags_of pieces = fold (λ had p. add_tag (text_of p) had) [] pieces

-- tags and an annotation
abbrev pub said : List Piece → Last → List (List ℕ) × List ℕ
said pieces (OneMore tag) = (tags_of (pieces ++ tag ∷ []), [])
said pieces (Note note) = (tags_of pieces, text_of note)

-- bytes after ` # ` spell these tags and this annotation: tags with a space after each, and what is last
pub record Spell (bytes : List ℕ) (tail : List (List ℕ) × List ℕ) : Type 0 where
  pub pieces : List Piece
  pub last : Last
  pub text : bytes ≡ spaced pieces ++ last_bytes last
  pub tags : AllByRecursion IsTag pieces
  pub is_last : IsLast last
  pub says : tail ≡ said pieces last

-- what is read of a line after ` # ` is what its bytes spell, and nothing else is read
abbrev pub TailsAreSpelled : Type 0
TailsAreSpelled = (bytes : List ℕ) (tail : List (List ℕ) × List ℕ) → marked bytes ≡ Some tail ↔ Spell bytes tail

-- ---- a line

-- the end of an interval after its sign, if there is one
abbrev pub SpellEnd : List ℕ → Option ℕ → Type 0
SpellEnd bytes None = bytes ≡ []
SpellEnd bytes (Some end) = (text : List ℕ) × (bytes ≡ codes " - " ++ text) × (basic_moment text ≡ Some end)

-- tags and an annotation after their sign, or nothing
abbrev pub SpellTail : List ℕ → List (List ℕ) × List ℕ → Type 0
SpellTail [] tail = tail ≡ ([], [])
SpellTail (b ∷ bytes) tail = (text : List ℕ) × (b ∷ bytes ≡ codes " # " ++ text) × Spell text tail

-- a line spells an interval: its sign, the 16 bytes of its start, its end, and what is after the moments
pub record SpellLine (line : List ℕ) (r : Interval) : Type 0 where
  pub start_text : List ℕ
  pub end_text : List ℕ
  pub tail_text : List ℕ
  pub text : line ≡ codes "inc " ++ (start_text ++ (end_text ++ tail_text))
  pub starts : basic_moment start_text ≡ Some r.start
  pub ends : SpellEnd end_text r.end
  pub in_order : is_end r.start r.end ≡ true
  pub tail : SpellTail tail_text (r.tags, r.annotation)

-- what is read of a line is what it spells, and nothing else is read
abbrev pub LinesAreSpelled : Type 0
LinesAreSpelled = (line : List ℕ) (r : Interval) → row_of line ≡ Some r ↔ SpellLine line r
