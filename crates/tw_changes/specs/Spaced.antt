-- Words with a space between each two.
use Rattle.std.specs.Prelude.{ℕ, List, codes}
use Rattle.std.specs.List.{join_by}
use Rattle.tw_words.specs.Lines.{Parts}
use Rattle.tw_words.specs.Modifications.{rest_words}

abbrev pub spaced : List (List ℕ) → List ℕ
spaced words = join_by (λ word. word) (codes " ") words

-- the rest of a line as a text
abbrev pub rest_text : Parts → List ℕ
rest_text line = spaced (rest_words line)
