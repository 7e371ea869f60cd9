-- Lines that are put to the end of others.
use Rattle.std.proofs.Common.{◌≡◌, ℕ, List, [], ◌++◌, Result, Ok, Err, OnOk, append_assoc, append-nil, sym, ap, ◌∙◌}

pub two : {A E : Type 0} (r : Result A E) (o m n a b : List ℕ) → m ≡ o ++ a → OnOk r (n ≡ m ++ b) → OnOk r (n ≡ o ++ (a ++ (b ++ [])))
two (Ok x) o m n a b e f = f ∙ ap (λ t. t ++ b) e ∙ append_assoc o a b ∙ ap (λ t. o ++ (a ++ t)) (sym (append-nil b))
two (Err x) o m n a b e f = tt
