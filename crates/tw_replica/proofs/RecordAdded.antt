-- What stands once a record is after others.
use Rattle.std.proofs.Common.{◌≡◌, inl, inr, ℕ, ◌+◌, ◌^◌, ◌<◌, Bool, true, cond, List, [], ◌∷◌, ◌++◌, length, get_or, false, All, Option, Some, refl, sym, ap, subst, arith}
use Rattle.std.proofs.lemmas.List.{length-append}
use Rattle.tw_world.specs.Disk.{DiskModel, LeavesOnly}
use Rattle.tw_world.proofs.Moments.{OnlyNow, at_rest, weaker}
use Rattle.tw_journal.specs.Record.{IsRecordLength}
use Rattle.tw_journal.proofs.Offsets.{open_records}
use Rattle.tw_journal.specs.Open.{Records}
use Rattle.tw_journal.specs.Journal.{IsOpenOn, RecordsOrMore}
use Rattle.tw_model.specs.declared.Op.{Op}
use Rattle.tw_bodies.specs.Body.{Step, body_of, IsStep}
use Rattle.tw_bodies.specs.Body.Step.{Commit}
use Rattle.tw_state.specs.State.{State, is_idle, applied, Stands}
use Rattle.tw_state.specs.Core.{state_of}
use Rattle.tw_replica.specs.Replica.{magic, OpensToNext, OpensToEither, IsReplicaOn, bodies_after}
use Rattle.tw_replica.specs.declared.replica.Replica.{Replica}
use Rattle.tw_bodies.proofs.StepAgain.{step_again}
use Rattle.tw_state.proofs.StatesReached.{stands_more}

at_end : (xs : List (List ℕ)) (x d : List ℕ) → get_or (xs ++ x ∷ []) (length xs) d ≡ x
at_end [] x d = refl
at_end (y ∷ xs) x d = at_end xs x d

pub last_of : (xs : List (List ℕ)) (x : List ℕ) → All IsRecordLength (xs ++ x ∷ []) → IsRecordLength x
last_of xs x all = subst IsRecordLength (at_end xs x []) (all (length xs) [] (omega (arith, length-append xs (x ∷ []))))

not_empty : (xs : List (List ℕ)) (x : List ℕ) → xs ++ x ∷ [] ≡ [] → ⊥
not_empty xs x e = let n : length (xs ++ x ∷ []) ≡ 0 = ap length e in let m : length (xs ++ x ∷ []) ≡ length xs + 1 = length-append xs (x ∷ []) in omega arith

short_body : (bodies : List (List ℕ)) (body file : List ℕ) → Records magic file (bodies ++ body ∷ []) → length body < 2 ^ 32
short_body bodies body file (inl has) = last_of bodies body has.image.lengths
short_body bodies body file (inr none) = absurd (not_empty bodies body none.0)

-- a file with the records from before, or with that of a step too, opens to the state before it or after it
pub either_state : (bodies : List (List ℕ)) (step : Step) (body : List ℕ) (old new : State) (file : List ℕ) → Stands bodies old → IsStep step → body ≡ body_of step → applied old step ≡ Some new → RecordsOrMore magic bodies body file → OpensToEither old (applied old step) file
either_state bodies step body old new file stands is spelled done (inl records) = inl (record { bodies = bodies; records = records; stands = stands })
either_state bodies step body old new file stands is spelled done (inr records) =
    let here : Records magic file (bodies ++ body_of step ∷ []) = subst (λ b. Records magic file (bodies ++ b ∷ [])) spelled records in
    inr (subst (OpensToNext file) (sym done) (record { bodies = bodies ++ body_of step ∷ []; records = here; stands = stands_more bodies step old new stands (step_again step is (short_body bodies (body_of step) file here)) done }))

-- at each moment in which a file has the one or the other, it opens so
pub either_moment : {D : Type 0} (m : DiskModel D) (before after : D) (bodies : List (List ℕ)) (step : Step) (body : List ℕ) (old new : State) → Stands bodies old → IsStep step → body ≡ body_of step → applied old step ≡ Some new
    → LeavesOnly m before after (RecordsOrMore magic bodies body) → LeavesOnly m before after (OpensToEither old (applied old step))
either_moment m before after bodies step body old new stands is spelled done leaves =
    weaker m before after (RecordsOrMore magic bodies body) (OpensToEither old (applied old step)) leaves (λ file has. either_state bodies step body old new file stands is spelled done has)

pub stands_then : {D : Type 0} (m : DiskModel D) (old new : Replica) (before after : D) (bodies : List (List ℕ)) (step : Step) (body : List ℕ) → IsReplicaOn m old before bodies → IsStep step → body ≡ body_of step → applied (state_of old.core) step ≡ Some (state_of new.core)
    → IsOpenOn m magic new.journal after (bodies ++ body ∷ []) → IsReplicaOn m new after (bodies ++ body_of step ∷ [])
stands_then m old new before after bodies step body on is spelled done open_on =
    let here : IsOpenOn m magic new.journal after (bodies ++ body_of step ∷ []) = subst (λ b. IsOpenOn m magic new.journal after (bodies ++ b ∷ [])) spelled open_on in
    record { open_on = here; stands = stands_more bodies step (state_of old.core) (state_of new.core) on.stands (step_again step is (last_of bodies (body_of step) here.rest.lengths)) done }

-- where nothing was written each image opens to the state from before
pub nothing_written : {D : Type 0} (m : DiskModel D) → OnlyNow m → (replica : Replica) (disk : D) (bodies : List (List ℕ)) (next : Option State) → IsReplicaOn m replica disk bodies → LeavesOnly m disk disk (OpensToEither (state_of replica.core) next)
nothing_written m only replica disk bodies next on =
    weaker m disk disk _ (OpensToEither (state_of replica.core) next) (at_rest m only disk on.open_on.rest.settled)
    (λ file same. inl (record { bodies = bodies; records = subst (λ (f : List ℕ). Records magic f bodies) (sym same) (open_records m magic replica.journal disk bodies on.open_on); stands = on.stands }))

-- a commit that has something to do adds its record
pub one_more_body : (renumber : Bool) (ops : List Op) (bodies : List (List ℕ)) → is_idle renumber ops ≡ false → bodies_after renumber ops bodies ≡ bodies ++ body_of (Commit renumber ops) ∷ []
one_more_body renumber ops bodies busy = ap (λ b. cond b bodies (bodies ++ body_of (Commit renumber ops) ∷ [])) busy

pub no_more_body : (renumber : Bool) (ops : List Op) (bodies : List (List ℕ)) → is_idle renumber ops ≡ true → bodies_after renumber ops bodies ≡ bodies
no_more_body renumber ops bodies idle = ap (λ b. cond b bodies (bodies ++ body_of (Commit renumber ops) ∷ [])) idle
