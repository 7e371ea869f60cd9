-- Words of which none is empty are taken alike, whether one text among them may be empty or not.
use Rattle.std.proofs.Common.{◌≡◌, ◌∙◌, ap, sym, refl, ℕ, ◌==◌, ◌&&◌, ◌||◌, not, ◌+◌, Bool, true, false, List, [], ◌∷◌, length, Option, Some, None, Result, Ok, Err}
use Rattle.tw_terms.specs.Scenes.{Scene}
use Rattle.tw_terms.specs.declared.bad_word.WordKind.{WordKind}
use Rattle.tw_terms.specs.declared.bad_word.WordKind.TheVariants as bad
use Rattle.tw_words.specs.Lines.{Parts}
use Rattle.tw_words.specs.Modifications.{Clock, unless, is_plain, is_add, tag_of, pair_of, text_fault, untagged_fault, tagged_fault}
use Rattle.tw_words.specs.Readings.{unless_wrong, clock_in, tag_or_pair, with_word, going_on_behind, with_words, has_empty}
use Rattle.tw_words.specs.declared.changes.modification.Modification.{Modification}

-- ---- words

text_same : (sole : Bool) (word : List ℕ) → (length word == 0) ≡ false → text_fault false word ≡ text_fault sole word
text_same true word some = ap (λ b. unless (not b) bad.Value) (sym some)
text_same false word some = refl

untagged_same : (clock : Clock) (adding sole : Bool) (word : List ℕ) (pair : Option (List ℕ × List ℕ)) → (length word == 0) ≡ false
    → untagged_fault clock adding false word pair ≡ untagged_fault clock adding sole word pair
untagged_same clock adding sole word None some = text_same sole word some
untagged_same clock adding sole word (Some x) some = refl

tagged_same : (clock : Clock) (adding sole plain : Bool) (word : List ℕ) (tag : Option (Bool × List ℕ)) → (length word == 0) ≡ false
    → tagged_fault clock adding false plain word tag ≡ tagged_fault clock adding sole plain word tag
tagged_same clock adding sole plain word None some = untagged_same clock adding sole word (pair_of plain word) some
tagged_same clock adding sole plain word (Some x) some = refl

word_same : (scene : Scene) (adding sole plain : Bool) (m : List Modification) (word : List ℕ) → (length word == 0) ≡ false → with_word scene adding false plain m word ≡ with_word scene adding sole plain m word
word_same scene adding sole plain m word some =
    ap (λ fault. unless_wrong fault (tag_or_pair scene adding plain m word (tag_of plain word))) (tagged_same (clock_in scene) adding sole plain word (tag_of plain word) some)

neither : (a b : Bool) → (a || b) ≡ false → (a ≡ false) × (b ≡ false)
neither true b e = absurd cc
neither false b e = (refl, e)

words_same : (scene : Scene) (sole : Bool) (line : Parts) (m : List Modification) (n : ℕ) (words : List (List ℕ)) → has_empty words ≡ false → with_words scene false line m n words ≡ with_words scene sole line m n words
words_same scene sole line m n [] some = refl
words_same scene sole line m n (word ∷ words) some =
    let parts = neither (length word == 0) (has_empty words) some in
    ap (λ made. going_on_behind line n made (λ d. with_words scene false line d (n + 1) words)) (word_same scene (is_add line.command) sole (is_plain line n) m word parts.0)
    ∙ on (with_word scene (is_add line.command) sole (is_plain line n) m word) (λ d. words_same scene sole line d (n + 1) words parts.1)
  where
    on : (made : Result (List Modification) WordKind) → ((d : List Modification) → with_words scene false line d (n + 1) words ≡ with_words scene sole line d (n + 1) words)
        → going_on_behind line n made (λ d. with_words scene false line d (n + 1) words) ≡ going_on_behind line n made (λ d. with_words scene sole line d (n + 1) words)
    on (Ok d) same = same d
    on (Err kind) same = refl

pub sole_if_empty : (scene : Scene) (sole : Bool) (line : Parts) (m : List Modification) (n : ℕ) (words : List (List ℕ)) → with_words scene (has_empty words && sole) line m n words ≡ with_words scene sole line m n words
sole_if_empty scene sole line m n words = by (has_empty words) refl
  where
    by : (b : Bool) → has_empty words ≡ b → with_words scene (b && sole) line m n words ≡ with_words scene sole line m n words
    by true is = refl
    by false is = words_same scene sole line m n words is

-- ---- looking for an empty word

pub first_empty : (words left : List (List ℕ)) (w : List ℕ) (all : Bool) → words ≡ w ∷ left → (length w == 0) ≡ true → has_empty words ≡ all → true ≡ all
first_empty words left w all is empty so = sym (ap has_empty is ∙ ap (λ b. b || has_empty left) empty) ∙ so

pub later_empty : (words left : List (List ℕ)) (w : List ℕ) (all : Bool) → words ≡ w ∷ left → (length w == 0) ≡ false → has_empty words ≡ all → has_empty left ≡ all
later_empty words left w all is some so = sym (ap has_empty is ∙ ap (λ b. b || has_empty left) some) ∙ so
