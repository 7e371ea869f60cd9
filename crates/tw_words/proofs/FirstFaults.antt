-- The first fault, by one word after another.
use Rattle.std.proofs.Common.{◌≡◌, ℕ, ◌+◌, ◌∙◌, Bool, List, ◌∷◌, Option, drop, ap, sym}
use Rattle.tw_terms.specs.declared.bad_word.BadWord.{BadWord}
use Rattle.tw_words.specs.Modifications.{Clock, first_fault, first_of, at_word, word_fault, is_plain, is_add}
use Rattle.tw_words.specs.Lines.{Parts}

-- that of a word, or else of the words after it
pub one_word : (clock : Clock) (sole : Bool) (line : Parts) (n : ℕ) (word : List ℕ) (words : List (List ℕ)) (o : Option BadWord) → drop n line.words ≡ word ∷ words
    → o ≡ at_word line n (word_fault clock (is_add line.command) sole (is_plain line n) word)
    → first_of o (first_fault clock sole line (n + 1) words) ≡ first_fault clock sole line n (drop n line.words)
one_word clock sole line n word words o left at =
    ap (λ x. first_of x (first_fault clock sole line (n + 1) words)) at ∙ sym (ap (first_fault clock sole line n) left)
