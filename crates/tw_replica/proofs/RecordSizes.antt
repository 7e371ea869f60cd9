-- How many bytes the record of a step adds to a file.
use Rattle.std.proofs.Common.{◌≡◌, ◌∙◌, ◌≤◌, ◌^◌, inl, ℕ, ◌+◌, Bool, false, List, [], ◌∷◌, cond, length, ap, sym, subst, arith}
use Rattle.std.specs.Prelude.{min}
use Rattle.std.proofs.Math.Nat.{min-eq_left}
use Rattle.std.proofs.lemmas.List.{length-append}
use Rattle.std.specs.Int.{to_be_bytes, w32}
use Rattle.tw_world.specs.Disk.{DiskModel, LeavesOnly}
use Rattle.tw_world.proofs.Moments.{OnlyNow, started}
use Rattle.tw_journal.specs.Record.{rows, behind_gate, IsLongerBy}
use Rattle.tw_journal.specs.Journal.{AppendRefused}
use Rattle.tw_journal.specs.declared.journal.Journal.{Journal}
use Rattle.tw_journal.specs.declared.error.AppendError.{AppendError}
use Rattle.tw_journal.specs.declared.error.AppendError.TheVariants as appends
use Rattle.tw_model.specs.declared.Op.{Op}
use Rattle.tw_bodies.specs.Body.{body_of}
use Rattle.tw_bodies.specs.Body.Step.{Commit}
use Rattle.tw_state.specs.State.{is_idle}
use Rattle.tw_replica.specs.Prepared.{step_bodies, IsWithinLimit}

pub one_size : (body : List ℕ) → length (rows (body ∷ [])) ≡ length body + 5
one_size body = omega (arith, length-append (behind_gate body) [], length-append (to_be_bytes w32 (length body)) body)

-- a commit that has something to do writes one record
pub one_body : (renumber : Bool) (ops : List Op) (body : List ℕ) → is_idle renumber ops ≡ false → body ≡ body_of (Commit renumber ops) → step_bodies (Commit renumber ops) ≡ body ∷ []
one_body renumber ops body busy same = ap (λ b. cond b [] (body_of (Commit renumber ops) ∷ [])) busy ∙ ap (λ (l : List ℕ). l ∷ []) (sym same)

-- it is as long as its body with the gate and the length
pub bodies_size : (bodies : List (List ℕ)) (body : List ℕ) → bodies ≡ body ∷ [] → length (rows bodies) ≡ length body + 5
bodies_size bodies body same = ap (λ (l : List (List ℕ)). length (rows l)) same ∙ one_size body

pub bodies_within : (bodies : List (List ℕ)) (body : List ℕ) → bodies ≡ body ∷ [] → length body + 5 ≤ 2 ^ 30 → IsWithinLimit bodies
bodies_within bodies body same le = subst IsWithinLimit (sym same) (λ size is. subst (λ n. n ≤ 2 ^ 30) (sym is) le)

module _ {D : Type 0} (m : DiskModel D) where
  pub grows_by : (before after : D) (bytes more : ℕ) → more ≡ bytes → LeavesOnly m before after (IsLongerBy m before bytes) → LeavesOnly m before after (IsLongerBy m before more)
  grows_by before after bytes more same = subst (λ n. LeavesOnly m before after (IsLongerBy m before n)) (sym same)

  -- where nothing was written, nothing has grown
  pub nothing_grown : OnlyNow m → (disk : D) (more : ℕ) → LeavesOnly m disk disk (IsLongerBy m disk more)
  nothing_grown only disk more = started m only disk (IsLongerBy m disk more) (λ f left. inl left)

  -- at most a record at the limit
  module _ (only : OnlyNow m) (before after : D) (bodies : List (List ℕ)) where
    abbrev pub GrowsToLimit : Type 0
    GrowsToLimit = LeavesOnly m before after (IsLongerBy m before (min (length (rows bodies)) (2 ^ 30)))

    pub same_grown : after ≡ before → GrowsToLimit
    same_grown same = subst (λ (d : D). LeavesOnly m before d (IsLongerBy m before (min (length (rows bodies)) (2 ^ 30)))) (sym same) (nothing_grown only before (min (length (rows bodies)) (2 ^ 30)))

    pub row_grown : (body : List ℕ) → bodies ≡ body ∷ [] → length body + 5 ≤ 2 ^ 30 → LeavesOnly m before after (IsLongerBy m before (length body + 5)) → GrowsToLimit
    row_grown body same within = grows_by before after (length body + 5) (min (length (rows bodies)) (2 ^ 30)) (ap (λ n. min n (2 ^ 30)) (bodies_size bodies body same) ∙ min-eq_left within)

    pub refused_grown : (old new : Journal) (body : List ℕ) (e : AppendError) → bodies ≡ body ∷ [] → AppendRefused m old new before after (length body + 5) e → LeavesOnly m before after (IsLongerBy m before (length body + 5)) → GrowsToLimit
    refused_grown old new body appends.Disk same r leaves = row_grown body same r.3 leaves
    refused_grown old new body appends.Closed same r leaves = same_grown r.2
    refused_grown old new body (appends.TooLong bytes) same r leaves = same_grown r.4
