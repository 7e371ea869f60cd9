-- Which word of a filter is refused: task(1), under "filters".
use Rattle.std.specs.Prelude.{◌≡◌, ℕ, ◌+◌, nat_le, List, [], ◌∷◌, ◌++◌, length, Result, Ok, Err}
use Rattle.std.specs.List.{slice_range}
use Rattle.tw_time.specs.Moments.{TimeZone}
use Rattle.tw_filter.specs.Grammar.{filter_in}
use Rattle.tw_terms.specs.Tokens.{tokens_of}
use Rattle.tw_filter.specs.Trees.{SpellAFilter, AreTokensOf}
use Rattle.tw_terms.specs.declared.bad_word.BadWord.{BadWord}
use Rattle.tw_terms.specs.declared.bad_word.WordKind.{WordKind}
use Rattle.tw_terms.specs.declared.token.Token.{Token}

-- after these tokens no filter goes on with those of a word
abbrev pub NoneGoesOn : List Token → Result (List Token) WordKind → Type 0
NoneGoesOn tokens (Err kind) = Unit {0}
NoneGoesOn tokens (Ok own) = (rest : List Token) → SpellAFilter (tokens ++ (own ++ rest)) → ⊥

-- after these tokens no filter goes on with the first of words, which has the number n; or there are no words, and they spell none
abbrev pub IsStuck : (n plain : ℕ) → List Token → List (List ℕ) → ℕ → TimeZone → Type 0
IsStuck n plain tokens [] now tz = SpellAFilter tokens → ⊥
IsStuck n plain tokens (word ∷ words) now tz = NoneGoesOn tokens (tokens_of (nat_le plain n) word now tz)

-- among words, the first of which has the number n, one is the first bad one: those before it begin a filter, which does not go on with it
pub record IsFirstBad (n plain : ℕ) (words : List (List ℕ)) (now : ℕ) (tz : TimeZone) (bad : BadWord) : Type 0 where
  pub before : List (List ℕ)
  pub from_it : List (List ℕ)
  pub all_words : words ≡ before ++ from_it
  pub number : bad.word ≡ n + length before
  pub tokens : List Token
  pub read : AreTokensOf n plain before now tz tokens
  pub rest : List Token
  pub begin : SpellAFilter (tokens ++ rest)
  pub stuck : IsStuck bad.word plain tokens from_it now tz

-- a word is refused where it is the first bad one, or at the end of the words if there is none
abbrev pub RefusedIsFirst : Type 0
RefusedIsFirst = (words : List (List ℕ)) (from to plain now : ℕ) (tz : TimeZone) (bad : BadWord)
    → filter_in words from to plain now tz ≡ Err bad → IsFirstBad from plain (slice_range words from to) now tz bad
