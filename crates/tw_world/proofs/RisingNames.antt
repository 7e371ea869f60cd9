-- Names that rise, and one more among them.
use Rattle.std.proofs.Common.{◌≡◌, ℕ, zero, suc, ◌+◌, ◌<◌, ◌≤◌, List, [], ◌∷◌, length, refl, ap, ◌∙◌, arith, inl, inr}
use Rattle.std.specs.Prelude.{slice_index_or}
use Rattle.std.specs.declared.cmp.Ordering.TheVariants.{Less, Equal, Greater}
use Rattle.std.specs.List.{insert as insert_at}
use Rattle.std.specs.FinMap.Entries.{by_order}
use Rattle.std.proofs.lemmas.Bool.{cases_eq}
use Rattle.tw_world.specs.Folder.{bytes_cmp, add_name, AreBelow}

below_rest : (k x : List ℕ) (xs : List (List ℕ)) (i : ℕ) → AreBelow k (x ∷ xs) (suc i) → AreBelow k xs i
below_rest k x xs i below j lt = below (suc j) (omega arith)

pub added_at : (k : List ℕ) (xs : List (List ℕ)) (i : ℕ) → AreBelow k xs i → i ≤ length xs → (i < length xs → bytes_cmp k (slice_index_or xs i []) ≡ Less) → add_name k xs ≡ insert_at xs i k
added_at k [] zero below le is = refl
added_at k [] (suc i) below le is = absurd (omega arith)
added_at k (x ∷ xs) zero below le is = ap (λ o. by_order o (k ∷ x ∷ xs) (x ∷ xs) (x ∷ add_name k xs)) (is (omega arith))
added_at k (x ∷ xs) (suc i) below le is = ap (λ o. by_order o (k ∷ x ∷ xs) (x ∷ xs) (x ∷ add_name k xs)) (below 0 (omega arith)) ∙ ap (λ ks. x ∷ ks) (added_at k xs i (below_rest k x xs i below) (omega arith) (λ lt. is (omega arith)))

pub there_already : (k : List ℕ) (xs : List (List ℕ)) (i : ℕ) → AreBelow k xs i → i < length xs → bytes_cmp k (slice_index_or xs i []) ≡ Equal → add_name k xs ≡ xs
there_already k [] i below lt is = absurd (omega arith)
there_already k (x ∷ xs) zero below lt is = ap (λ o. by_order o (k ∷ x ∷ xs) (x ∷ xs) (x ∷ add_name k xs)) is
there_already k (x ∷ xs) (suc i) below lt is = ap (λ o. by_order o (k ∷ x ∷ xs) (x ∷ xs) (x ∷ add_name k xs)) (below 0 (omega arith)) ∙ ap (λ ks. x ∷ ks) (there_already k xs i (below_rest k x xs i below) (omega arith) is)

pub below_more : (k : List ℕ) (xs : List (List ℕ)) (i : ℕ) → AreBelow k xs i → bytes_cmp k (slice_index_or xs i []) ≡ Greater → AreBelow k xs (i + 1)
below_more k xs i below here j lt = elim (cases_eq j i) [ inl same ↦ ap (λ n. bytes_cmp k (slice_index_or xs n [])) same ∙ here | inr other ↦ below j (omega arith) ]
