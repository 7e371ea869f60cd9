-- What stands once a prepared step is written, and what a crash leaves meanwhile.
use Rattle.std.proofs.Common.{◌≡◌, ◌⊎◌, inl, inr, ⊎_elim, ◌∙◌, ap, refl, sym, subst, ℕ, ◌<◌, ◌^◌, Bool, true, false, cond, List, [], ◌∷◌, ◌++◌, length, Some}
use Rattle.std.proofs.lemmas.List.{append-nil}
use Rattle.tw_world.specs.Disk.{DiskModel, LeavesOnly}
use Rattle.tw_world.proofs.Moments.{weaker}
use Rattle.tw_journal.specs.Open.{Records}
use Rattle.tw_journal.specs.Journal.{IsOpenOn}
use Rattle.tw_journal.specs.declared.journal.Journal.{Journal}
use Rattle.tw_bodies.specs.Body.{Step, body_of}
use Rattle.tw_bodies.specs.Body.Step.{Commit, Undo, Sync, Carried, Partial, Checkpoint}
use Rattle.tw_state.specs.State.{State, is_idle, misfit, unless, moved_to, applied, Stands}
use Rattle.tw_model.specs.LocalOps.{apply_all_local}
use Rattle.tw_replica.specs.Replica.{magic, OpensToEither, IsReplicaOn, held_state}
use Rattle.tw_replica.specs.Prepared.{IsPrepared, RecordsOrAll, step_bodies, prepared_bodies, prepared_state}
use Rattle.tw_replica.specs.declared.step.write.Prepared.{Prepared}
use Rattle.tw_replica.specs.declared.replica.Replica.{Replica}
use Rattle.tw_bodies.proofs.StepAgain.{step_again}
use Rattle.tw_replica.proofs.RecordAdded.{either_state, last_of}
use Rattle.tw_state.proofs.StatesReached.{stands_more}

-- a step writes nothing and changes nothing, or writes its body
bodies_cases : (step : Step) (old new : State) → applied old step ≡ Some new → ((step_bodies step ≡ []) × (new ≡ old)) ⊎ (step_bodies step ≡ body_of step ∷ [])
bodies_cases (Commit renumber ops) old new done = by (is_idle renumber ops) done
  where
    made : State
    made = moved_to renumber (old.pending ++ ops) (apply_all_local old.tasks ops) old

    by : (idle : Bool) → cond idle (Some old) (unless (misfit 0 old.tasks ops) made) ≡ Some new
        → ((cond idle [] (body_of (Commit renumber ops) ∷ []) ≡ []) × (new ≡ old)) ⊎ (cond idle [] (body_of (Commit renumber ops) ∷ []) ≡ body_of (Commit renumber ops) ∷ [])
    by true e = inl (refl, (let same : old ≡ new = cc in sym same))
    by false e = inr refl
bodies_cases Undo old new done = inr refl
bodies_cases (Sync base ops) old new done = inr refl
bodies_cases (Carried base ops) old new done = inr refl
bodies_cases (Partial base ops pending) old new done = inr refl
bodies_cases (Checkpoint base places tasks pending) old new done = inr refl

last_length : {D : Type 0} (m : DiskModel D) (journal : Journal) (disk : D) (bodies : List (List ℕ)) (body : List ℕ) → IsOpenOn m magic journal disk (bodies ++ body ∷ []) → length body < 2 ^ 32
last_length m journal disk bodies body on = last_of bodies body on.rest.lengths

module _ {D : Type 0} (m : DiskModel D) (old : Replica) (step : Step) (prepared : Prepared) (is : IsPrepared old step prepared) (bodies : List (List ℕ)) (d0 d1 : D) (on : IsReplicaOn m old d0 bodies) where
  stood : Stands bodies (held_state old)
  stood = on.stands

  -- the replica is open on the disk, with the record after those from before
  pub prepared_on : (new : Replica) → held_state new ≡ prepared_state prepared
      → ((bs : List (List ℕ)) → IsOpenOn m magic prepared.journal d0 bs → IsOpenOn m magic new.journal d1 (bs ++ prepared_bodies prepared)) → IsReplicaOn m new d1 (bodies ++ step_bodies step)
  prepared_on new state opens =
      let here : IsOpenOn m magic new.journal d1 (bodies ++ step_bodies step) =
      subst (λ bs. IsOpenOn m magic new.journal d1 (bodies ++ bs)) is.bodies (opens bodies (subst (λ j. IsOpenOn m magic j d0 bodies) (sym is.journal) on.open_on)) in
      let leads : applied (held_state old) step ≡ Some (held_state new) = is.leads ∙ ap Some (sym state) in
      record { open_on = here; stands = ⊎_elim (λ none. nothing none) (λ one. more leads one here) (bodies_cases step (held_state old) (held_state new) leads) }
    where
      nothing : ((step_bodies step ≡ []) × (held_state new ≡ held_state old)) → Stands (bodies ++ step_bodies step) (held_state new)
      nothing none = subst (λ s. Stands (bodies ++ step_bodies step) s) (sym none.1) (subst (λ bs. Stands bs (held_state old)) (sym (ap (λ bs. bodies ++ bs) none.0 ∙ append-nil bodies)) stood)

      more : applied (held_state old) step ≡ Some (held_state new) → step_bodies step ≡ body_of step ∷ [] → IsOpenOn m magic new.journal d1 (bodies ++ step_bodies step) → Stands (bodies ++ step_bodies step) (held_state new)
      more leads one here =
          let there : IsOpenOn m magic new.journal d1 (bodies ++ body_of step ∷ []) = subst (λ bs. IsOpenOn m magic new.journal d1 (bodies ++ bs)) one here in
          subst (λ bs. Stands (bodies ++ bs) (held_state new)) (sym one) (stands_more bodies step (held_state old) (held_state new) stood (step_again step is.is (last_length m new.journal d1 bodies (body_of step) there)) leads)

  -- at each moment a file opens to the state before the step or after it
  pub prepared_leaves : ((bs : List (List ℕ)) → IsOpenOn m magic prepared.journal d0 bs → LeavesOnly m d0 d1 (RecordsOrAll bs (prepared_bodies prepared))) → LeavesOnly m d0 d1 (OpensToEither (held_state old) (applied (held_state old) step))
  prepared_leaves leaves =
      let left : LeavesOnly m d0 d1 (RecordsOrAll bodies (step_bodies step)) =
      subst (λ bs. LeavesOnly m d0 d1 (RecordsOrAll bodies bs)) is.bodies (leaves bodies (subst (λ j. IsOpenOn m magic j d0 bodies) (sym is.journal) on.open_on)) in
      weaker m d0 d1 (RecordsOrAll bodies (step_bodies step)) (OpensToEither (held_state old) (applied (held_state old) step)) left
      (λ file has. ⊎_elim (λ none. nothing file none has) (λ one. more file one has) (bodies_cases step (held_state old) (prepared_state prepared) is.leads))
    where
      before : (file : List ℕ) → Records magic file bodies → OpensToEither (held_state old) (applied (held_state old) step) file
      before file records = inl (record { bodies = bodies; records = records; stands = stood })

      nothing : (file : List ℕ) → ((step_bodies step ≡ []) × (prepared_state prepared ≡ held_state old)) → RecordsOrAll bodies (step_bodies step) file → OpensToEither (held_state old) (applied (held_state old) step) file
      nothing file none (inl records) = before file records
      nothing file none (inr records) = before file (subst (Records magic file) (ap (λ bs. bodies ++ bs) none.0 ∙ append-nil bodies) records)

      more : (file : List ℕ) → step_bodies step ≡ body_of step ∷ [] → RecordsOrAll bodies (step_bodies step) file → OpensToEither (held_state old) (applied (held_state old) step) file
      more file one (inl records) = before file records
      more file one (inr records) = either_state bodies step (body_of step) (held_state old) (prepared_state prepared) file stood is.is refl is.leads (inr (subst (λ bs. Records magic file (bodies ++ bs)) one records))
