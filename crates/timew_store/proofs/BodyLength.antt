-- The body of a record is short enough for four bytes of length.
use Rattle.std.proofs.Common.{◌≡◌, inl, inr, ℕ, ◌+◌, ◌^◌, ◌<◌, All, List, [], ◌∷◌, ◌++◌, length, get_or, refl, ap, subst, arith}
use Rattle.std.proofs.lemmas.List.{length-append}
use Rattle.tw_journal.specs.Record.{IsRecordLength}
use Rattle.tw_journal.specs.Open.{Records}
use Rattle.timew_store.specs.Held.{magic}

at_end : (xs : List (List ℕ)) (x d : List ℕ) → get_or (xs ++ x ∷ []) (length xs) d ≡ x
at_end [] x d = refl
at_end (y ∷ xs) x d = at_end xs x d

pub last_length : (xs : List (List ℕ)) (x : List ℕ) → All IsRecordLength (xs ++ x ∷ []) → IsRecordLength x
last_length xs x all = subst IsRecordLength (at_end xs x []) (all (length xs) [] (omega (arith, length-append xs (x ∷ []))))

not_empty : (xs : List (List ℕ)) (x : List ℕ) → xs ++ x ∷ [] ≡ [] → ⊥
not_empty xs x e = let n : length (xs ++ x ∷ []) ≡ 0 = ap length e in let m : length (xs ++ x ∷ []) ≡ length xs + 1 = length-append xs (x ∷ []) in omega arith

pub short_body : (bodies : List (List ℕ)) (body file : List ℕ) → Records magic file (bodies ++ body ∷ []) → length body < 2 ^ 32
short_body bodies body file (inl has) = last_length bodies body has.image.lengths
short_body bodies body file (inr none) = absurd (not_empty bodies body none.0)
