-- The word at a place, and those behind it.
use Rattle.std.proofs.Common.{◌≡◌, ℕ, ◌+◌, ◌<◌, List, ◌∷◌, ◌++◌, length, drop, get_or, Result, Ok, sym, ap, ◌∙◌}
use Rattle.std.proofs.lemmas.List.{drop_more}
use Rattle.tw_text.specs.Columns.{cell_text}
use Rattle.tw_world.specs.Folder.{add_name as add_tag}
use Rattle.timew_words.specs.declared.error.BadWord.{BadWord}
use Rattle.timew_words.specs.declared.word.Word.{Word}
use Rattle.timew_words.specs.Results.{◌>>=◌}
use Rattle.timew_words.specs.Parts.{word_of, words_of, tag_in, tags_with, spaced}

words_here : (words : List Word) (i : ℕ) (d : Word) → i < length words → words_of (drop i words) ≡ word_of (get_or words i d) ∷ words_of (drop (i + 1) words)
words_here words i d lt = ap words_of (drop_more words i d lt)

-- one tag more
pub tags_more : (words : List Word) (i : ℕ) (d : Word) (tags : List (List ℕ)) (tag : List ℕ) (all : Result (List (List ℕ)) BadWord) → i < length words
    → tag_in (word_of (get_or words i d)) ≡ Ok tag → tags_with tags (words_of (drop i words)) ≡ all → tags_with (add_tag tag tags) (words_of (drop (i + 1) words)) ≡ all
tags_more words i d tags tag all lt read rest =
    sym (ap (tags_with tags) (words_here words i d lt) ∙ ap (λ (r : Result (List ℕ) BadWord). r >>= λ t. tags_with (add_tag t tags) (words_of (drop (i + 1) words))) read) ∙ rest

-- one text more
pub spaced_more : (words : List Word) (i : ℕ) (d : Word) (text new all : List ℕ) → i < length words
    → new ≡ text ++ 32 ∷ cell_text (get_or words i d).text.now → spaced text (words_of (drop i words)) ≡ all → spaced new (words_of (drop (i + 1) words)) ≡ all
spaced_more words i d text new all lt is rest =
    ap (λ (t : List ℕ). spaced t (words_of (drop (i + 1) words))) is ∙ sym (ap (spaced text) (words_here words i d lt)) ∙ rest
