-- Damage is in the file.
use Rattle.std.specs.Prelude.{unwrap_or}
use Rattle.std.proofs.Common.{◌≡◌, ◌⊎◌, inl, inr, ◌<◌, ◌≤◌, ◌+◌, ◌∙◌, ℕ, zero, suc, List, [], ◌∷◌, ◌++◌, length, take, drop, refl, sym, ap, subst, arith, append_assoc, length-append}
use Rattle.std.proofs.lemmas.List.{length-drop, take_all}
use Rattle.tw_journal.specs.Record.{rows, behind_gate, IsTail}
use Rattle.tw_journal.specs.Form.{Records, HasRecords, start_in, offset_in}
use Rattle.tw_journal.specs.Open.{IsBroken, IsBrokenAt, IsDamagedAt}
use Rattle.tw_journal.proofs.Forms.{start_bounds}
use Rattle.tw_replica.specs.Replica.{magic, IsBadAt, IsNoStepAt}
use Rattle.tw_server.specs.Server as server
use Rattle.tw_server.specs.Opening.{IsDamagedFile}

no_form : (file : List ℕ) (offset : ℕ) → offset ≡ 0 → (IsTail file → ⊥) → offset < length file
no_form [] offset first never = absurd (never tt)
no_form (byte ∷ more) offset first never = omega (arith, first)

broken_long : (rest : List ℕ) → IsBroken rest → 1 ≤ length rest
broken_long [] broken = absurd (broken)
broken_long (gate ∷ more) broken = omega arith

broken_inside : (text file : List ℕ) (offset : ℕ) → IsBrokenAt text file offset → offset < length file
broken_inside text file offset b =
    let long = broken_long b.rest b.broken in
    let both : length (drop b.start file) ≡ length (rows b.bodies) + length b.rest = ap length b.split ∙ length-append (rows b.bodies) b.rest in
    omega (arith, long, both, b.stands, length-drop b.start file)

-- the rows before a record are shorter than all
rows_before : (bodies more : List (List ℕ)) (body : List ℕ) → length (rows bodies) + 1 ≤ length (rows (bodies ++ body ∷ more))
rows_before [] more body = omega arith
rows_before (first ∷ bodies) more body =
    omega (arith, rows_before bodies more body, length-append (behind_gate first) (rows bodies), length-append (behind_gate first) (rows (bodies ++ body ∷ more)))

some_there : (bodies more : List (List ℕ)) (body : List ℕ) → bodies ++ body ∷ more ≡ [] → ⊥
some_there bodies more body none = omega (arith, ap length none, length-append bodies (body ∷ more))

step_inside : (file : List ℕ) (offset : ℕ) (n : IsNoStepAt file offset) → Records magic file (n.bodies ++ n.body ∷ n.more) → offset < length file
step_inside file offset n (inl has) =
    let at : offset_in magic file n.bodies (length n.bodies) ≡ has.start + length (rows n.bodies) =
    (λ i. unwrap_or (has.form i) 0 + length (rows (take_all (length n.bodies) n.bodies (omega arith) i))) in
    let both : length (drop has.start file) ≡ length (rows (n.bodies ++ n.body ∷ n.more)) + length has.image.tail = ap length has.image.split ∙ length-append (rows (n.bodies ++ n.body ∷ n.more)) has.image.tail in
    omega (arith, n.at ∙ at, both, rows_before n.bodies n.more n.body, length-drop has.start file)
step_inside file offset n (inr none) = absurd (some_there n.bodies n.more n.body none.0)

-- the damage of a journal is in its file
pub damage_inside : (text file : List ℕ) (offset : ℕ) → IsDamagedAt text file offset → offset < length file
damage_inside text file offset (inl none) = no_form file offset none.0 none.1.1
damage_inside text file offset (inr broken) = broken_inside text file offset broken

-- that of tasks
pub bad_is_inside : (file : List ℕ) (offset : ℕ) → IsBadAt file offset → offset < length file
bad_is_inside file offset (inl damaged) = damage_inside magic file offset damaged
bad_is_inside file offset (inr step) = step_inside file offset step step.records

-- the rows before the record with a number are shorter than all
rows_before_number : (n : ℕ) (bodies : List (List ℕ)) → n < length bodies → length (rows (take n bodies)) + 1 ≤ length (rows bodies)
rows_before_number n [] lt = absurd (omega (arith, lt))
rows_before_number zero (first ∷ bodies) lt = omega (arith, length-append (behind_gate first) (rows bodies))
rows_before_number (suc n) (first ∷ bodies) lt =
    omega (arith, rows_before_number n bodies (omega (arith, lt)), length-append (behind_gate first) (rows bodies), length-append (behind_gate first) (rows (take n bodies)))

number_inside : (file : List ℕ) (offset number : ℕ) (bodies : List (List ℕ)) → number < length bodies → offset ≡ offset_in server.magic file bodies number → Records server.magic file bodies → offset < length file
number_inside file offset number bodies lt at (inl has) =
    let begins : offset_in server.magic file bodies number ≡ has.start + length (rows (take number bodies)) = (λ i. unwrap_or (has.form i) 0 + length (rows (take number bodies))) in
    let both : length (drop has.start file) ≡ length (rows bodies) + length has.image.tail = ap length has.image.split ∙ length-append (rows bodies) has.image.tail in
    omega (arith, at ∙ begins, both, rows_before_number number bodies lt, length-drop has.start file)
number_inside file offset number bodies lt at (inr none) = omega (arith, ap length none.0, lt)

-- that of a history
pub history_inside : (file : List ℕ) (offset : ℕ) → IsDamagedFile file offset → offset < length file
history_inside file offset (inl damaged) = damage_inside server.magic file offset damaged
history_inside file offset (inr log) = number_inside file offset log.bad.number log.bodies log.bad.inside log.bad.at log.records
