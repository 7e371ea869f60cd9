-- Words with their numbers, and what a word is as a part of a command: timew(1).
use Rattle.std.specs.List.{list_any, starts_with}
use Rattle.std.specs.Prelude.{ℕ, List, [], ◌∷◌, codes, Bool, Option, Some, None, ◌+◌, ◌==◌, Result, Ok, Err, if◌then◌else◌, map, filter, not, drop, length}
use Rattle.std.specs.Prelude.{◌++◌, cond, nat_eq, take_while, is_some}
use Rattle.tw_text.specs.Columns.{cell_text}
use Rattle.tw_text.specs.Natural.{natural}
use Rattle.tw_time.specs.Lengths.{duration}
use Rattle.tw_time.specs.Moments.{TimeZone, moment}
use Rattle.tw_time.specs.declared.error.DateError.{DateError}
use Rattle.tw_time.specs.declared.error.DateError.TheVariants.{Unknown}
use Rattle.tw_time.specs.declared.length.Length.{Length}
use Rattle.tw_world.specs.Folder.{same_bytes, add_name as add_tag}
use Rattle.timew_words.specs.Results.{◌>>=◌}
use Rattle.timew_words.specs.declared.error.BadWord.{BadWord}
use Rattle.timew_words.specs.declared.error.WordKind.{WordKind}
use Rattle.timew_words.specs.declared.error.WordKind.TheVariants.{Value, Date, Missing, Extra}
use Rattle.timew_words.specs.declared.word.Word.{Word}

-- ---- words

-- words, each with its number
abbrev pub Words : Type 0
Words = List (ℕ × List ℕ)

abbrev pub words_from : ℕ → List (List ℕ) → Words
words_from n [] = []
words_from n (text ∷ texts) = (n, text) ∷ words_from (n + 1) texts

-- a word as it is held
abbrev pub word_of : Word → ℕ × List ℕ
word_of w = (w.number, w.text.now)

abbrev pub words_of : List Word → Words
words_of words = map word_of words

abbrev pub is_adjust : ℕ × List ℕ → Bool
is_adjust w = same_bytes w.1 (codes ":adjust")

-- whether `:adjust` is among words, and the words without it
abbrev pub adjusts : Words → Bool
adjusts words = list_any is_adjust words

abbrev pub unadjusted : Words → Words
unadjusted words = filter (λ w. not (is_adjust w)) words

-- ---- refusals

abbrev pub refused : {A : Type 0} → ℕ → WordKind → Result A BadWord
refused n kind = Err (record { word = n; kind = kind })

-- the words end where a part is missing, which is reported of the command's word
abbrev pub missing : {A : Type 0} → Result A BadWord
missing = refused 0 Missing

-- no part is left for a word
abbrev pub ended : {A : Type 0} → A → Words → Result A BadWord
ended x [] = Ok x
ended x (w ∷ words) = refused w.0 Extra

-- ---- moments and lengths

-- a text outside the grammar fits no part
abbrev pub kind_of : DateError → WordKind → WordKind
kind_of Unknown kind = Extra
kind_of _ kind = kind

abbrev pub judged : {A : Type 0} → ℕ → WordKind → Result A DateError → Result A BadWord
judged n kind (Ok x) = Ok x
judged n kind (Err e) = refused n (kind_of e kind)

abbrev pub moment_in : ℕ → TimeZone → ℕ × List ℕ → Result ℕ BadWord
moment_in now zone w = judged w.0 Date (moment w.1 now zone)

abbrev pub length_in : ℕ × List ℕ → Result Length BadWord
length_in w = judged w.0 Value (duration w.1)

-- ---- ids

abbrev pub not_zero : Option ℕ → Option ℕ
not_zero None = None
not_zero (Some n) = if n == 0 then None else Some n

-- the id of a text: `@` and a number from 1 on
abbrev pub id_of : List ℕ → Option ℕ
id_of text = cond (starts_with nat_eq text (codes "@")) (not_zero (natural (drop 1 text))) None

abbrev pub or_extra : ℕ → Option ℕ → Result ℕ BadWord
or_extra n None = refused n Extra
or_extra n (Some id) = Ok id

abbrev pub id_in : ℕ × List ℕ → Result ℕ BadWord
id_in w = or_extra w.0 (id_of w.1)

-- these ids, and one of each word
abbrev pub ids_with : List ℕ → Words → Result (List ℕ) BadWord
ids_with ids [] = Ok ids
ids_with ids (w ∷ words) = id_in w >>= λ id. ids_with (ids ++ id ∷ []) words

-- one id or more
abbrev pub some_ids : Words → Result (List ℕ) BadWord
some_ids [] = missing
some_ids (w ∷ words) = ids_with [] (w ∷ words)

-- how many words are ids before the first one that is none
abbrev pub leading_ids : Words → ℕ
leading_ids words = length (take_while (λ w. is_some (id_of w.1)) words)

-- ---- tags and texts

-- a tag that is not empty
abbrev pub unless_empty : ℕ → List ℕ → Result (List ℕ) BadWord
unless_empty n [] = refused n Value
unless_empty n (b ∷ text) = Ok (b ∷ text)

-- the tag of a word, with a space for each control character
abbrev pub tag_in : ℕ × List ℕ → Result (List ℕ) BadWord
tag_in w = unless_empty w.0 (cell_text w.1)

-- these tags, and one of each word: in byte order, each once
abbrev pub tags_with : List (List ℕ) → Words → Result (List (List ℕ)) BadWord
tags_with tags [] = Ok tags
tags_with tags (w ∷ words) = tag_in w >>= λ tag. tags_with (add_tag tag tags) words

-- one tag or more
abbrev pub some_tags : Words → Result (List (List ℕ)) BadWord
some_tags [] = missing
some_tags (w ∷ words) = tags_with [] (w ∷ words)

-- a text, and the texts of words, each after a space
abbrev pub spaced : List ℕ → Words → List ℕ
spaced text [] = text
spaced text (w ∷ words) = spaced (text ++ 32 ∷ cell_text w.1) words
