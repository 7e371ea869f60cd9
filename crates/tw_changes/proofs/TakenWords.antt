-- The words of a line that was judged are taken.
use Rattle.std.proofs.Common.{◌≡◌, ◌∙◌, ap, sym, subst, List, Option, Result, Ok}
use Rattle.tw_terms.specs.declared.bad_word.BadWord.{BadWord}
use Rattle.tw_words.specs.Readings.{modifications, or_none}
use Rattle.tw_words.specs.declared.changes.modification.Modification.{Modification}
use Rattle.tw_words.proofs.UnnamedWords.{IsReadAt, read_where_named}
use Rattle.tw_changes.specs.Worded.{WordsAreTaken}

is_read : (r : Result (List Modification) BadWord) → (ms : List Modification) × (r ≡ Ok ms) → r ≡ Ok (or_none r)
is_read r there = there.1 ∙ ap (λ x. Ok (or_none x)) (sym there.1)

pub words_taken : WordsAreTaken
words_taken scene line filter by judged named =
    is_read (modifications scene line) (subst (λ (o : Option BadWord). IsReadAt o (modifications scene line)) named (read_where_named scene line filter by judged))
