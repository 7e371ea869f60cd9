-- What is around a newline.
use Rattle.std.proofs.Common.{◌≡◌, ℕ, ◌+◌, ◌-◌, ◌==◌, List, Some, length, take, drop, arith, ap, ◌∙◌}
use Rattle.std.proofs.lemmas.Grind.{common_steps}
use Rattle.std.specs.List.{position}
use Rattle.tw_terms.specs.Cuts.{round, parted}

-- the slice up to the end is all that is left
pub parted_at : (c : ℕ) (xs : List ℕ) (k : ℕ) → Some k ≡ position (λ b. b == c) xs → Some (take k xs, take (length xs - (k + 1)) (drop (k + 1) xs)) ≡ parted c xs
parted_at c xs k e =
    let all : take (length xs - (k + 1)) (drop (k + 1) xs) ≡ drop (k + 1) xs = grind (arith, common_steps) in
    ap (λ t. Some (take k xs, t)) all ∙ ap (round xs) e
