-- Tokens that are read so far can be led to an end.
use Rattle.std.proofs.Common.{◌≡◌, inl, inr, ℕ, zero, suc, ◌+◌, true, List, [], ◌∷◌, ◌++◌, Option, Some, None, is_some, refl, sym, ap, ◌∙◌, arith}
use Rattle.tw_terms.specs.declared.term.Test.TheVariants.{IsBlocked}
use Rattle.tw_terms.specs.declared.token.Token.{Token}
use Rattle.tw_terms.specs.declared.token.Token.TheVariants.{Close, Asked}
use Rattle.tw_filter.specs.declared.grammar.Behind.TheVariants.{Part}
use Rattle.tw_filter.specs.declared.grammar.Progress.{Progress}
use Rattle.tw_filter.specs.Grammar.{run, start}
use Rattle.tw_filter.specs.Trees.{is_at_end, are_read, SpellAFilter, FrontsAreRead}
use Rattle.tw_filter.proofs.AcceptedWords.{then_run, run_front}
use Rattle.tw_filter.proofs.ReadTrees.{place, one_closes, trees_are_read}
use Rattle.tw_filter.proofs.SpelledTokens.{read_is_spelled}

-- what spells a filter is read
pub spelled_is_read : (tokens : List Token) → SpellAFilter tokens → are_read tokens ≡ true
spelled_is_read tokens (inl none) = ap are_read none
spelled_is_read tokens (inr h) = ap are_read (sym h.2) ∙ trees_are_read h.0 h.1

-- a term, and all brackets closed
abbrev closes : ℕ → List Token
closes zero = []
closes (suc depth) = Close ∷ closes depth

abbrev some_end : ℕ → List Token
some_end depth = Asked (record { test = IsBlocked; wanted = true }) ∷ closes depth

brackets_close : (depth : ℕ) → is_at_end (run (place depth Part) (closes depth)) ≡ true
brackets_close zero = refl
brackets_close (suc depth) = ap is_at_end (one_closes (suc depth) depth (closes depth) (omega arith)) ∙ brackets_close depth

-- where tokens have come, they go on to an end
goes_to_an_end : (front : List Token) (o : Option Progress) → run start front ≡ o → is_some o ≡ true → (rest : List Token) × SpellAFilter (front ++ rest)
goes_to_an_end front None e there = absurd (cc)
goes_to_an_end front (Some p) e there =
    let read : are_read (front ++ some_end p.depth) ≡ true =
    ap is_at_end (run_front start front (some_end p.depth)) ∙ ap (λ o. is_at_end (then_run o (some_end p.depth))) e ∙ brackets_close p.depth in
    (some_end p.depth, read_is_spelled (front ++ some_end p.depth) read)

leads_so_far : (o : Option Progress) (rest : List Token) → is_at_end (then_run o rest) ≡ true → is_some o ≡ true
leads_so_far None rest e = absurd (cc)
leads_so_far (Some p) rest e = refl

pub fronts_are_read : FrontsAreRead
fronts_are_read front = (
  (λ there. goes_to_an_end front (run start front) refl there),
  (λ h. leads_so_far (run start front) h.0 (ap is_at_end (sym (run_front start front h.0)) ∙ spelled_is_read (front ++ h.0) h.1)),
)
