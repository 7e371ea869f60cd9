-- Whole records that lead on are before the damage.
use Rattle.std.specs.Prelude.{Option, Some, None, All}
use Rattle.std.specs.Int.{to_be_bytes, from_be_bytes, w32}
use Rattle.std.proofs.Common.{◌≡◌, ◌⊎◌, inl, inr, ⊎_elim, ◌<◌, ◌≤◌, ◌+◌, ◌∙◌, ℕ, zero, suc, List, [], ◌∷◌, ◌++◌, length, get_or, take, drop, refl, sym, ap, subst, arith, append_assoc, length-append}
use Rattle.std.proofs.lemmas.Nat.{from_be_bytes-to_be_bytes_4}
use Rattle.tw_journal.specs.Record.{rows, behind_gate, IsRecordLength}
use Rattle.tw_journal.specs.Open.{IsBroken}
use Rattle.tw_journal.proofs.Unique.{same_first}
use Rattle.tw_state.specs.State.{State, replayed, stepped}
use Rattle.tw_fields.specs.Reading.{◌>>=◌}

-- a whole record is not broken
not_broken : (body more rest : List ℕ) → IsRecordLength body → IsBroken rest → (1 ∷ behind_gate body) ++ more ≡ rest → ⊥
not_broken body more [] fits broken same = broken
not_broken body more (gate ∷ after) fits broken same =
    let is : to_be_bytes w32 (length body) ++ (body ++ more) ≡ after = sym (append_assoc (to_be_bytes w32 (length body)) body more) ∙ ap (λ (l : List ℕ). drop 1 l) same in
    let size : from_be_bytes w32 (take 4 after) ≡ length body = ap (λ (l : List ℕ). from_be_bytes w32 (take 4 l)) (sym is) ∙ from_be_bytes-to_be_bytes_4 (length body) fits in
    let first : 1 ≡ gate = ap (λ (l : List ℕ). get_or l 0 0) same in
    ⊎_elim (λ above. omega (arith, above, first)) (λ one. omega (arith, one.1, size, ap length (sym is), length-append body more)) broken

-- the rest of two rows that begin with a record
two_rows : (a b : List ℕ) (xs ys : List (List ℕ)) (s t : List ℕ) → IsRecordLength a → IsRecordLength b → rows (a ∷ xs) ++ s ≡ rows (b ∷ ys) ++ t → (a ≡ b) × (rows xs ++ s ≡ rows ys ++ t)
two_rows a b xs ys s t fits_a fits_b same =
    let left = append_assoc (behind_gate a) (rows xs) s ∙ append_assoc (to_be_bytes w32 (length a)) a (rows xs ++ s) in
    let right = append_assoc (behind_gate b) (rows ys) t ∙ append_assoc (to_be_bytes w32 (length b)) b (rows ys ++ t) in
    same_first a b (rows xs ++ s) (rows ys ++ t) fits_a fits_b (sym left ∙ ap (λ (l : List ℕ). drop 1 l) same ∙ right)

longer_by : (a b : List ℕ) (xs ys : List (List ℕ)) → a ≡ b → length (rows xs) ≤ length (rows ys) → length (rows (a ∷ xs)) ≤ length (rows (b ∷ ys))
longer_by a b xs ys same le = omega (arith, ap (λ (l : List ℕ). length (behind_gate l)) same, le, length-append (behind_gate a) (rows xs), length-append (behind_gate b) (rows ys))

-- whole records end before what is broken
pub before_broken : (xs ys : List (List ℕ)) (s t : List ℕ) → All IsRecordLength xs → All IsRecordLength ys → IsBroken t → rows xs ++ s ≡ rows ys ++ t → length (rows xs) ≤ length (rows ys)
before_broken [] ys s t all_x all_y broken same = omega arith
before_broken (a ∷ xs) [] s t all_x all_y broken same =
    absurd (not_broken a (rows xs ++ s) t (all_x 0 [] (omega arith)) broken (sym (append_assoc (1 ∷ behind_gate a) (rows xs) s) ∙ same))
before_broken (a ∷ xs) (b ∷ ys) s t all_x all_y broken same =
    let parts = two_rows a b xs ys s t (all_x 0 [] (omega arith)) (all_y 0 [] (omega arith)) same in
    longer_by a b xs ys parts.0 (before_broken xs ys s t (λ k d lt. all_x (suc k) d (omega arith)) (λ k d lt. all_y (suc k) d (omega arith)) broken parts.1)

none_some : (s : State) → None ≡ Some s → ⊥
none_some s e = absurd (cc)

-- steps that lead to a state lead through one
through : (o : Option State) (rest : List (List ℕ)) (end : State) → (o >>= λ next. replayed next rest) ≡ Some end → (next : State) × (o ≡ Some next) × (replayed next rest ≡ Some end)
through None rest end e = absurd (none_some end e)
through (Some next) rest end e = (next, refl, e)

-- records that lead to a state end before one whose step leads nowhere
pub before_no_step : (from a b : State) (xs ys more : List (List ℕ)) (body s t : List ℕ) → All IsRecordLength xs → All IsRecordLength (ys ++ body ∷ more)
    → replayed from xs ≡ Some a → replayed from ys ≡ Some b → stepped b body ≡ None → rows xs ++ s ≡ rows (ys ++ body ∷ more) ++ t → length (rows xs) ≤ length (rows ys)
before_no_step from a b [] ys more body s t all_x all_y leads stands nowhere same = omega arith
before_no_step from a b (x ∷ xs) [] more body s t all_x all_y leads stands nowhere same =
    let parts = two_rows x body xs more s t (all_x 0 [] (omega arith)) (all_y 0 [] (omega arith)) same in
    let on = through (stepped from x) xs a leads in
    let here : from ≡ b = some_is from b stands in
    absurd (none_some on.0 (sym nowhere ∙ (λ i. stepped (sym here i) (sym parts.0 i)) ∙ on.1))
  where
    some_is : (x y : State) → Some x ≡ Some y → x ≡ y
    some_is x y e = cc
before_no_step from a b (x ∷ xs) (y ∷ ys) more body s t all_x all_y leads stands nowhere same =
    let parts = two_rows x y xs (ys ++ body ∷ more) s t (all_x 0 [] (omega arith)) (all_y 0 [] (omega arith)) same in
    let on = through (stepped from x) xs a leads in
    let other = through (stepped from y) ys b stands in
    let next : on.0 ≡ other.0 = one_next on.0 other.0 (sym on.1 ∙ ap (stepped from) parts.0 ∙ other.1) in
    longer_by x y xs ys parts.0 (before_no_step on.0 a b xs ys more body s t (λ k d lt. all_x (suc k) d (omega arith)) (λ k d lt. all_y (suc k) d (omega arith))
    on.2 (subst (λ (n : State). replayed n ys ≡ Some b) (sym next) other.2) nowhere parts.1)
  where
    one_next : (x y : State) → Some x ≡ Some y → x ≡ y
    one_next x y e = cc
