-- The words of `annotate`.
use Rattle.std.specs.Prelude.{ℕ, List, [], ◌∷◌, Option, Some, None, Result, Ok}
use Rattle.tw_text.specs.Columns.{cell_text}
use Rattle.timew_words.specs.Parts.{Words, missing, id_of, spaced}
use Rattle.timew_words.specs.declared.command.Changing.TheVariants.{Annotate}
use Rattle.timew_words.specs.declared.command.Command.{Command}
use Rattle.timew_words.specs.declared.command.Command.TheVariants.{Change}
use Rattle.timew_words.specs.declared.error.BadWord.{BadWord}

abbrev pub annotation_of : (id : Option ℕ) → Words → Result Command BadWord
annotation_of id [] = missing
annotation_of id (w ∷ words) = Ok (Change (Annotate (record { id = id; text = spaced (cell_text w.1) words })))

abbrev pub annotate_by : (id : Option ℕ) → ℕ × List ℕ → Words → Result Command BadWord
annotate_by None w words = annotation_of None (w ∷ words)
annotate_by (Some id) w words = annotation_of (Some id) words

-- an id, or none, and one word or more
abbrev pub annotate_in : Words → Result Command BadWord
annotate_in [] = missing
annotate_in (w ∷ words) = annotate_by (id_of w.1) w words
