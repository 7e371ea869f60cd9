-- Parts of more than one word.
use Rattle.std.specs.Prelude.{ℕ, List, [], ◌∷◌, codes, Bool, Option, Some, None, Result, Ok, length, cond, drop, take}
use Rattle.tw_time.specs.Moments.{TimeZone}
use Rattle.tw_time.specs.Tables.{look_up}
use Rattle.tw_world.specs.Folder.{same_bytes}
use Rattle.timew_words.specs.Parts.{Words, words_of, refused, missing, ended, moment_in, length_in, id_in, ids_with, leading_ids, some_tags}
use Rattle.timew_words.specs.Results.{◌>>=◌}
use Rattle.timew_words.specs.declared.command.Resize.{Resize}
use Rattle.timew_words.specs.declared.error.BadWord.{BadWord}
use Rattle.timew_words.specs.declared.error.WordKind.TheVariants.{Extra}
use Rattle.timew_words.specs.declared.range.Range.{Range}
use Rattle.timew_words.specs.declared.range.Range.TheVariants.{Day, Week, All, Between}
use Rattle.timew_words.specs.declared.stretch.Stretch.{Stretch}
use Rattle.timew_words.specs.declared.command.Tagging.{Tagging}

abbrev pub range_names : List (List ℕ × Range)
range_names = (codes ":day", Day) ∷ (codes ":week", Week) ∷ (codes ":all", All) ∷ []

-- a stretch from a moment to another, the number of the later one's word, and the words after it
pub record Span : Type 0 where
  pub start : ℕ
  pub end : ℕ
  pub word : ℕ
  pub rest : Words

-- a stretch as it is held
abbrev pub span_of : Stretch → Span
span_of s = record { start = s.start; end = s.end; word = s.word; rest = words_of s.rest.now }

abbrev pub span_to : (now : ℕ) → TimeZone → (start : ℕ) → Words → Result Span BadWord
span_to now zone start [] = missing
span_to now zone start (w ∷ words) = moment_in now zone w >>= λ end. Ok (record { start = start; end = end; word = w.0; rest = words })

abbrev pub span_over : (now : ℕ) → TimeZone → (start : ℕ) → Words → Result Span BadWord
span_over now zone start [] = missing
span_over now zone start (w ∷ words) = cond (same_bytes w.1 (codes "-")) (span_to now zone start words) (refused w.0 Extra)

-- `S - E`
abbrev pub span_in : (now : ℕ) → TimeZone → Words → Result Span BadWord
span_in now zone [] = missing
span_in now zone (w ∷ words) = moment_in now zone w >>= λ start. span_over now zone start words

-- a range, or else the usual one
abbrev pub named_range : Option Range → (now : ℕ) → TimeZone → ℕ × List ℕ → Words → Result Range BadWord
named_range None now zone w words = span_in now zone (w ∷ words) >>= λ s. ended (Between s.start s.end) s.rest
named_range (Some r) now zone w words = ended r words

abbrev pub range_in : Range → (now : ℕ) → TimeZone → Words → Result Range BadWord
range_in usual now zone [] = Ok usual
range_in usual now zone (w ∷ words) = named_range (look_up w.1 range_names) now zone w words

-- an id and a length, and nothing after them
abbrev pub resize_by : Bool → (id : ℕ) → Words → Result Resize BadWord
resize_by adjust id [] = missing
resize_by adjust id (w ∷ words) = length_in w >>= λ l. ended (record { id = id; word = w.0; length = l; adjust = adjust }) words

abbrev pub resize_in : Bool → Words → Result Resize BadWord
resize_in adjust [] = missing
resize_in adjust (w ∷ words) = id_in w >>= λ id. resize_by adjust id words

-- the ids that words begin with, and one tag or more after them
abbrev pub tagging_in : Words → Result Tagging BadWord
tagging_in words = do
  ids ← ids_with [] (take (leading_ids words) words)
  tags ← some_tags (drop (leading_ids words) words)
  Ok (record { ids = ids; tags = tags })
