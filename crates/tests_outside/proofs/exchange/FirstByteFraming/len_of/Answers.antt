use Rattle.std.proofs.Common.{rules, tests, ◌≡◌, ◌∷◌, ◌++◌, ◌≤◌, List, [], ℕ, length, slice_index_or, arith, refl, sym, ap, ◌∙◌}
use Rattle.tests_outside.proofs.exchange.FirstByteFraming.len_of.Goals as goal

begins : (bytes more : List ℕ) → 1 ≤ length bytes → (rest : List ℕ) × (bytes ++ more ≡ slice_index_or bytes 0 0 ∷ rest)
begins [] more l = absurd (omega (arith, l))
begins (b ∷ bs) more l = (bs ++ more, refl)

pub returns-in-len1-up-clause-ends : goal.returns-in-len1-up-clause-ends
returns-in-len1-up-clause-ends c more =
    let b = begins c.args.bytes.now more c.in-len1-up.len_at_least in
    (search (rules, tests), b.0, b.1 ∙ ap (λ x. x ∷ b.0) (sym c.from.ensures))
