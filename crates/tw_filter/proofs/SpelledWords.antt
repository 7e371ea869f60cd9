-- The words of a filter are read exactly if their tokens spell one.
use Rattle.std.proofs.Common.{◌≡◌, ℕ, ◌+◌, nat_le, Bool, true, false, cond, List, [], ◌∷◌, ◌++◌, Result, Ok, Err, refl, sym, ap, subst, ◌∙◌}
use Rattle.std.specs.List.{slice_range}
use Rattle.tw_time.specs.Moments.{TimeZone}
use Rattle.tw_terms.specs.declared.bad_word.BadWord.{BadWord}
use Rattle.tw_terms.specs.declared.bad_word.WordKind.{WordKind}
use Rattle.tw_terms.specs.declared.bad_word.WordKind.TheVariants as bad
use Rattle.tw_terms.specs.declared.token.Token.{Token}
use Rattle.tw_filter.specs.declared.grammar.Progress.{Progress}
use Rattle.tw_terms.specs.Tokens.{tokens_of}
use Rattle.tw_filter.specs.Grammar.{after_word, bad_at, placed, read_word, is_end, with_front, going_on, read_on, start, filter_in, run_from, run}
use Rattle.tw_filter.specs.Trees.{is_at_end, AreTokensOf, WordsAreSpelled}
use Rattle.tw_filter.proofs.AcceptedWords.{AreOfWord, of_word, then_run, run_front, tokens_lead}
use Rattle.tw_filter.proofs.SpelledTokens.{read_is_spelled}
use Rattle.tw_filter.proofs.ReadFronts.{spelled_is_read}

abbrev pub goes_on : Progress → List Token → Bool
goes_on p tokens = is_at_end (run p tokens)

-- a word leads on as its tokens do
word_goes_on : (p q : Progress) (own more : List Token) → AreOfWord (Ok own) → after_word p own ≡ Ok q → goes_on p (own ++ more) ≡ goes_on q more
word_goes_on p q own more are e = ap is_at_end (run_front p own more) ∙ ap (λ o. is_at_end (then_run o more)) (tokens_lead p own q are e)

pub word_stops : (p : Progress) (own more : List Token) (kind : WordKind) → after_word p own ≡ Err kind → goes_on p (own ++ more) ≡ false
word_stops p [] more kind e = absurd (cc)
word_stops p (t ∷ ts) more kind e = ap (λ r. is_at_end (run_from r (λ q. run q (ts ++ more)))) e

module _ (plain now : ℕ) (tz : TimeZone) where
  abbrev pub tokens_at : ℕ → List ℕ → Result (List Token) WordKind
  tokens_at n word = tokens_of (nat_le plain n) word now tz

  abbrev rest : ℕ → Progress → List (List ℕ) → Result (List Token) BadWord
  rest n p words = read_on n plain p words now tz

  pub are_of : (n : ℕ) (word : List ℕ) (own : List Token) → tokens_at n word ≡ Ok own → AreOfWord (Ok own)
  are_of n word own e = subst AreOfWord e (of_word (nat_le plain n) word now tz)

  -- ---- words that are read

  end_is_read : (n : ℕ) (p : Progress) (tokens : List Token) (ends : Bool) → is_end p ≡ ends → cond ends (Ok []) (Err (bad_at n bad.End)) ≡ Ok tokens
      → (tokens ≡ []) × (goes_on p tokens ≡ true)
  end_is_read n p tokens true e is = let none : tokens ≡ [] = cc in (none, ap (goes_on p) none ∙ e)
  end_is_read n p tokens false e is = absurd (cc)

  read_tokens : (words : List (List ℕ)) (n : ℕ) (p : Progress) (tokens : List Token) → rest n p words ≡ Ok tokens → AreTokensOf n plain words now tz tokens × (goes_on p tokens ≡ true)
  read_tokens [] n p tokens is = end_is_read n p tokens (is_end p) refl is
  read_tokens (word ∷ words) n p tokens is = by_word (tokens_at n word) refl (λ q more. read_tokens words (n + 1) q more) is
    where
      by_rest : (own : List Token) (q : Progress) → tokens_at n word ≡ Ok own → after_word p own ≡ Ok q → (r : Result (List Token) BadWord) → rest (n + 1) q words ≡ r
          → ((more : List Token) → rest (n + 1) q words ≡ Ok more → AreTokensOf (n + 1) plain words now tz more × (goes_on q more ≡ true))
          → with_front own r ≡ Ok tokens → AreTokensOf n plain (word ∷ words) now tz tokens × (goes_on p tokens ≡ true)
      by_rest own q of_own leads (Err b) e h is = absurd (cc)
      by_rest own q of_own leads (Ok more) e h is =
          let whole : own ++ more ≡ tokens = cc in
          let left = h more e in
          ((own, more, of_own, left.0, sym whole), ap (goes_on p) (sym whole) ∙ word_goes_on p q own more (are_of n word own of_own) leads ∙ left.1)

      by_place : (own : List Token) → tokens_at n word ≡ Ok own → (r : Result Progress WordKind) → after_word p own ≡ r
          → ((q : Progress) (more : List Token) → rest (n + 1) q words ≡ Ok more → AreTokensOf (n + 1) plain words now tz more × (goes_on q more ≡ true))
          → going_on (placed n own r) (λ q. rest (n + 1) q words) ≡ Ok tokens → AreTokensOf n plain (word ∷ words) now tz tokens × (goes_on p tokens ≡ true)
      by_place own of_own (Err kind) e h is = absurd (cc)
      by_place own of_own (Ok q) e h is = by_rest own q of_own e (rest (n + 1) q words) refl (h q) is

      by_word : (r : Result (List Token) WordKind) → tokens_at n word ≡ r
          → ((q : Progress) (more : List Token) → rest (n + 1) q words ≡ Ok more → AreTokensOf (n + 1) plain words now tz more × (goes_on q more ≡ true))
          → going_on (read_word n p r) (λ q. rest (n + 1) q words) ≡ Ok tokens → AreTokensOf n plain (word ∷ words) now tz tokens × (goes_on p tokens ≡ true)
      by_word (Err kind) e h is = absurd (cc)
      by_word (Ok own) e h is = by_place own e (after_word p own) refl h is

  -- ---- tokens that lead to an end

  words_lead : (words : List (List ℕ)) (n : ℕ) (p : Progress) (tokens : List Token) → AreTokensOf n plain words now tz tokens → goes_on p tokens ≡ true → rest n p words ≡ Ok tokens
  words_lead [] n p tokens none on =
      let ends : is_end p ≡ true = ap (goes_on p) (sym none) ∙ on in
      ap (λ b. cond b (Ok []) (Err (bad_at n bad.End))) ends ∙ ap Ok (sym none)
  words_lead (word ∷ words) n p tokens h on =
      ap (λ r. going_on (read_word n p r) (λ q. rest (n + 1) q words)) h.2
      ∙ by_place (after_word p h.0) refl (λ q. words_lead words (n + 1) q h.1 h.3)
    where
      whole : goes_on p (h.0 ++ h.1) ≡ true
      whole = ap (goes_on p) (sym h.4) ∙ on

      by_place : (r : Result Progress WordKind) → after_word p h.0 ≡ r → ((q : Progress) → goes_on q h.1 ≡ true → rest (n + 1) q words ≡ Ok h.1)
          → going_on (placed n h.0 r) (λ q. rest (n + 1) q words) ≡ Ok tokens
      by_place (Err kind) e lead = let stops : goes_on p (h.0 ++ h.1) ≡ false = word_stops p h.0 h.1 kind e in let on : goes_on p (h.0 ++ h.1) ≡ true = whole in absurd (cc)
      by_place (Ok q) e lead =
          ap (with_front h.0) (lead q (sym (word_goes_on p q h.0 h.1 (are_of n word h.0 h.2) e) ∙ whole)) ∙ ap Ok (sym h.4)

pub words_are_spelled : WordsAreSpelled
unfolding filter_in
words_are_spelled words from to plain now tz tokens = (
  (λ is. let h = read_tokens plain now tz (slice_range words from to) from start tokens is in (h.0, read_is_spelled tokens h.1)),
  (λ h. words_lead plain now tz (slice_range words from to) from start tokens h.0 (spelled_is_read tokens h.1)),
)
