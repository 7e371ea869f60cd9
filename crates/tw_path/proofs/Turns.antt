-- One turn of a loop over a list.
use Rattle.std.proofs.Common.{◌≡◌, ℕ, ◌+◌, ◌<◌, List, [], ◌∷◌, ◌++◌, length, take, drop, get_or, sym, ap, ◌∙◌}
use Rattle.std.proofs.lemmas.List.{drop_more, take_more}

pub at_turn : {A : Type 0} (xs : List A) (at : ℕ) (x : A) → at < length xs → x ≡ get_or xs at x → drop at xs ≡ x ∷ drop (at + 1) xs
at_turn xs at x inside is = drop_more xs at x inside ∙ ap (λ y. y ∷ drop (at + 1) xs) (sym is)

pub take_turn : {A : Type 0} (xs : List A) (at : ℕ) (x : A) → at < length xs → x ≡ get_or xs at x → take (at + 1) xs ≡ take at xs ++ x ∷ []
take_turn xs at x inside is = take_more xs at x inside ∙ ap (λ y. take at xs ++ y ∷ []) (sym is)
