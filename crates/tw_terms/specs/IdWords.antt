-- Id words: numbers of tasks, ranges of them, and uuids.
use Rattle.std.specs.Prelude.{ℕ, ◌==◌, ◌&&◌, nat_le, cond, length, List, [], ◌∷◌, Option, Some, None}
use Rattle.std.specs.Char.{is_ascii_digit}
use Rattle.std.specs.List.{list_all}
use Rattle.tw_terms.specs.Cuts.{parted, parts}
use Rattle.uuid.specs.Text.{parsed}
use Rattle.tw_text.specs.Natural.{number}
use Rattle.tw_terms.specs.declared.id_word.Name.{Name}
use Rattle.tw_terms.specs.declared.id_word.Name.TheVariants.{Numbers, One}

-- the uuid that a text is, in 36 characters
unfoldable pub uuid_of_36 : List ℕ → Option (List ℕ)
uuid_of_36 text = cond (length text == 36) (parsed text) None

abbrev pub not_zero : ℕ → Option ℕ
not_zero n = cond (n == 0) None (Some n)

-- the number of a task: 1 to 9 digits, and not 0
unfoldable pub number_in : List ℕ → Option ℕ
number_in text = cond (list_all is_ascii_digit text && nat_le 1 (length text) && nat_le (length text) 9) (not_zero (number text)) None

-- two numbers, the second of which is not below the first
abbrev pub range_of : Option ℕ → Option ℕ → Option Name
range_of None last = None
range_of (Some first) None = None
range_of (Some first) (Some last) = cond (nat_le first last) (Some (Numbers first last)) None

abbrev pub range_with : List ℕ → Option (List ℕ × List ℕ) → Option Name
range_with text None = range_of (number_in text) (number_in text)
range_with text (Some x) = range_of (number_in x.0) (number_in x.1)

-- a number, or two with a hyphen between
unfoldable pub range_in : List ℕ → Option Name
range_in text = range_with text (parted 45 text)

abbrev pub with_name : Option Name → Option (List Name) → Option (List Name)
with_name None names = None
with_name (Some name) None = None
with_name (Some name) (Some names) = Some (name ∷ names)

-- what each of these texts names
abbrev pub ranges_in : List (List ℕ) → Option (List Name)
ranges_in [] = Some []
ranges_in (text ∷ texts) = with_name (range_in text) (ranges_in texts)

abbrev pub names_of : Option (List ℕ) → Option (List Name) → Option (List Name)
names_of None ranges = ranges
names_of (Some u) ranges = Some (One u ∷ [])

-- what an id word names: a uuid, or numbers and ranges with commas between
unfoldable pub names_in : List ℕ → Option (List Name)
names_in word = names_of (uuid_of_36 word) (ranges_in (parts 44 word))
