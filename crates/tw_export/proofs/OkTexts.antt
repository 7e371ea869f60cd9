-- What an answer that is Ok tells.
use Rattle.std.proofs.Common.{◌≡◌, Result, Ok, MatchResult, subst}

pub of_ok : {A E : Type 0} (P : A → Type 0) (Q : E → Type 0) (r : Result A E) (x : A) → r ≡ Ok x → MatchResult r P Q → P x
of_ok {A = A} {E = E} P Q r x e m = subst (λ (s : Result A E). MatchResult s P Q) e m
