-- Where the words given to a line are in it.
use Rattle.std.specs.Prelude.{◌≡◌, ◌⊎◌, ◌≤◌, ◌+◌, ℕ, Bool, true, false, cond, List, [], ◌∷◌, Some, map, codes}
use Rattle.std.specs.List.{slice_get}
use Rattle.tw_model.specs.Maps.{same_bytes}
use Rattle.tw_settings.specs.Settings.{Pair}
use Rattle.tw_words.specs.Commands.{command_named}
use Rattle.tw_words.specs.Lines.{Parts, override_in, parts_of_line}
use Rattle.tw_words.specs.declared.command.AnyCommand.TheVariants.{Tasks}
use Rattle.tw_words.specs.declared.command.Command.TheVariants.{Next}

-- where a word given goes: to the words of the line, to its overrides, to its command, or it is the `--` after which all is text
pub data Pile : Type 0 where
  Word : Pile
  Override : Pile
  Naming : Pile
  Dash : Pile

abbrev pub is_pile : (wanted pile : Pile) → Bool
is_pile Word Word = true
is_pile Override Override = true
is_pile Naming Naming = true
is_pile Dash Dash = true
is_pile _ _ = false

-- the words of a pile, each with its place; the first word of all is at place n
abbrev pub picked : Pile → ℕ → List (Pile × List ℕ) → List (ℕ × List ℕ)
picked pile n [] = []
picked pile n (x ∷ sorted) = cond (is_pile pile x.0) ((n, x.1) ∷ picked pile (n + 1) sorted) (picked pile (n + 1) sorted)

-- the first `--` with its place, if there is one
abbrev pub first_dash : ℕ → List (List ℕ) → List (ℕ × List ℕ)
first_dash n [] = []
first_dash n (word ∷ words) = cond (same_bytes word (codes "--")) ((n, word) ∷ []) (first_dash (n + 1) words)

-- one word, at the command's place, names the command; or none does, and it is `next`
abbrev pub IsNamedBy : List (ℕ × List ℕ) → Parts → Type 0
IsNamedBy named line =
    ((word : List ℕ) × (named ≡ (line.word_number, word) ∷ []) × (command_named word ≡ Some line.command))
    ⊎ ((named ≡ []) × (line.command ≡ Tasks Next) × (line.word_number ≡ 0))

-- each word given goes to one pile, and the piles are the words with their places, the overrides, the command's word and the first `--`
pub record IsSorted (given : List (List ℕ)) (line : Parts) : Type 0 where
  pub sorted : List (Pile × List ℕ)
  pub each : map (λ (x : Pile × List ℕ). x.1) sorted ≡ given
  pub words : map (λ (x : ℕ × List ℕ). x.1) (picked Word 0 sorted) ≡ line.words
  pub places : map (λ (x : ℕ × List ℕ). x.0) (picked Word 0 sorted) ≡ line.word_numbers
  pub overrides : map (λ (x : ℕ × List ℕ). override_in x.1) (picked Override 0 sorted) ≡ map (λ (x : Pair). Some x) line.overrides
  pub command : IsNamedBy (picked Naming 0 sorted) line
  pub dash : picked Dash 0 sorted ≡ first_dash 0 given

-- the first number is at least n, and each is above the one before it
abbrev pub RisesFrom : ℕ → List ℕ → Type 0
RisesFrom n [] = Unit {0}
RisesFrom n (m ∷ ms) = (n ≤ m) × RisesFrom (m + 1) ms

-- the words given that have the places of a line's words are these words, the places rise, and each word given goes to one pile
pub record ArePlaced (given : List (List ℕ)) (line : Parts) : Type 0 where
  pub words : map (λ (n : ℕ). slice_get given n) line.word_numbers ≡ map (λ (word : List ℕ). Some word) line.words
  pub rise : RisesFrom 0 line.word_numbers
  pub sorted : IsSorted given line

-- each word of a line has the place at which it was given
abbrev pub EachWordHasItsPlace : Type 0
EachWordHasItsPlace = (given : List (List ℕ)) → ArePlaced given (parts_of_line given)
