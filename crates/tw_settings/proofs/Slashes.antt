-- A text without a slash at its end.
use Rattle.std.proofs.Common.{◌≡◌, ◌≢◌, ℕ, ◌-◌, ◌==◌, Bool, true, false, cond, List, [], ◌∷◌, ◌++◌, length, take, get_or, refl, arith}
use Rattle.std.proofs.lemmas.Grind.{common_steps}
use Rattle.std.proofs.lemmas.Bool.{eqb-true}
use Rattle.tw_settings.specs.Address.{unslashed}

pub unslashed_at : (xs : List ℕ) → unslashed (xs ++ 47 ∷ []) ≡ xs
unslashed_at xs =
    let last : get_or (xs ++ 47 ∷ []) (length (xs ++ 47 ∷ []) - 1) 0 ≡ 47 = grind (arith, common_steps) in
    let front : take (length (xs ++ 47 ∷ []) - 1) (xs ++ 47 ∷ []) ≡ xs = grind (arith, common_steps) in
    rw (last, front)

last_splits : (xs : List ℕ) → get_or xs (length xs - 1) 0 ≡ 47 → xs ≡ take (length xs - 1) xs ++ 47 ∷ []
last_splits [] e = absurd (omega (arith, e))
last_splits (x ∷ xs) e = grind (arith, common_steps)

pub unslashed_none : (xs : List ℕ) → ((front : List ℕ) → xs ≢ front ++ 47 ∷ []) → unslashed xs ≡ xs
unslashed_none xs unended = by (get_or xs (length xs - 1) 0 == 47) (λ e. unended _ (last_splits xs (eqb-true _ _ e)))
  where
    by : (t : Bool) → (t ≡ true → ⊥) → cond t (take (length xs - 1) xs) xs ≡ xs
    by true k = absurd (k refl)
    by false k = refl
