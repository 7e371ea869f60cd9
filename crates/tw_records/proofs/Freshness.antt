-- How many versions come after the last block, one record after another.
use Rattle.std.proofs.Common.{◌≡◌, ◌∙◌, ℕ, ◌+◌, ◌<◌, ◌≤◌, ◌==◌, Bool, true, false, cond, List, [], ◌∷◌, ◌++◌, length, get_or, take, refl, sym, ap, subst, arith}
use Rattle.std.proofs.lemmas.List.{take_more}
use Rattle.tw_records.specs.Opening.{fresh_by, fresh_after}

fresh_push : (fresh : ℕ) (kinds : List ℕ) (kind : ℕ) → fresh_after fresh (kinds ++ kind ∷ []) ≡ fresh_by (fresh_after fresh kinds) kind
fresh_push fresh [] kind = refl
fresh_push fresh (k ∷ kinds) kind = fresh_push (fresh_by fresh k) kinds kind

pub fresh_more : (kinds : List ℕ) (at fresh next : ℕ) → at < length kinds → fresh ≡ fresh_after 0 (take at kinds) → next ≡ fresh_by fresh (get_or kinds at 0) → next ≡ fresh_after 0 (take (at + 1) kinds)
fresh_more kinds at fresh next inside so_far step =
    step ∙ ap (λ k. fresh_by k (get_or kinds at 0)) so_far ∙ sym (fresh_push 0 (take at kinds) (get_or kinds at 0)) ∙ ap (fresh_after 0) (sym (take_more kinds at 0 inside))

pub fresh_few : (at fresh kind next : ℕ) → fresh ≤ at → next ≡ fresh_by fresh kind → next ≤ at + 1
fresh_few at fresh kind next few step = subst (λ k. k ≤ at + 1) (sym step) (by (kind == 1) (kind == 2))
  where
    by : (t u : Bool) → cond t (fresh + 1) (cond u 0 fresh) ≤ at + 1
    by true u = omega (arith, few)
    by false true = omega arith
    by false false = omega (arith, few)
