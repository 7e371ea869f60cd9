-- What the calls that end a sync of a replica say of the step that they take.
use Rattle.std.proofs.Common.{◌≡◌, ◌+◌, ◌≤◌, ◌^◌, inl, inr, ℕ, Bool, false, cond, length, List, [], ◌∷◌, Option, Some, None, refl, sym, ap, subst, ◌∙◌, arith}
use Rattle.tw_world.specs.Disk.{DiskModel, LeavesOnly}
use Rattle.std.proofs.lemmas.List.{length-append}
use Rattle.std.specs.Int.{to_be_bytes, w32}
use Rattle.tw_world.proofs.Moments.{OnlyNow, started, weaker}
use Rattle.tw_journal.specs.Record.{rows, behind_gate, IsLongerBy}
use Rattle.tw_journal.specs.declared.error.AppendError.{AppendError}
use Rattle.tw_journal.specs.declared.error.AppendError.TheVariants as journal
use Rattle.tw_protocol.specs.Chain.{same_id}
use Rattle.tw_bodies.specs.Body.{Step, body_of}
use Rattle.tw_model.specs.Ops.{TasksValue, apply_all}
use Rattle.tw_model.specs.declared.SyncOp.{SyncOp}
use Rattle.tw_state.specs.State.{State, at_base, checkpoint, applied}
use Rattle.tw_state.proofs.Soundness.{checkpoint_leads}
use Rattle.tw_state.specs.Core.{state_of}
use Rattle.tw_replica.specs.Replica.{OpensToEither, LeavesStep, StandsAfter, StepRefused, SyncingRefused, one_more, taken_over, taking_over}
use Rattle.tw_replica.proofs.HeldSound.{held_sound}
use Rattle.tw_path.specs.Path.{Reached}
use Rattle.tw_outcome.proofs.Ends.{at_base_sound}
use Rattle.tw_replica.specs.declared.replica.Replica.{Replica}
use Rattle.tw_replica.specs.declared.error.RecordError.{RecordError}
use Rattle.tw_replica.specs.declared.error.RecordError.TheVariants as records
use Rattle.tw_sync.specs.Ends.Moved.{taken_step, moved_by, row_size, AddsRecord, IsMovedTo, MovesBy, LeavesMove, IsNotMoved}

far_by : (at : List ℕ) (step : Step) (state : State) → same_id at state.base ≡ false → moved_by at step state ≡ applied state step
far_by at step state far = ap (λ (b : Bool). cond b None (applied state step)) far

-- the step that was taken is this one, to another version than the base
module _ {D : Type 0} (m : DiskModel D) (old new : Replica) (before after : D) (at : List ℕ) (taken step : Step) (is : taken ≡ step) (far : same_id at old.core.base ≡ false) where
  pub leaves_move : LeavesStep m old before after (applied (state_of old.core) taken) → LeavesMove m old before after at step
  leaves_move leaves bodies on =
      subst (λ (o : Option State). LeavesOnly m before after (OpensToEither (state_of old.core) o)) (sym (far_by at step (state_of old.core) far))
      (subst (λ (x : Step). LeavesOnly m before after (OpensToEither (state_of old.core) (applied (state_of old.core) x))) is (leaves bodies on))

  pub moves_by : applied (state_of old.core) taken ≡ Some (state_of new.core) → StandsAfter m old new before after (one_more (body_of taken)) → row_size taken ≤ 2 ^ 30 → MovesBy m old new before after at step
  moves_by leads adds within =
      subst (IsMovedTo m old new before after step) (sym (far_by at step (state_of old.core) far ∙ ap (applied (state_of old.core)) (sym is) ∙ leads))
      (refl, subst (λ (x : Step). AddsRecord m old new before after (body_of x)) is adds, subst (λ (x : Step). row_size x ≤ 2 ^ 30) is within)

  pub not_moved : (e : RecordError) → SyncingRefused m old new before after (length (body_of taken)) e → IsNotMoved m old new before after at step e
  not_moved e refused = (far, subst (λ (x : Step). SyncingRefused m old new before after (length (body_of x)) e) is refused)

-- ---- how much the disk grows

-- where nothing was written, nothing has grown
pub nothing_grown : {D : Type 0} (m : DiskModel D) → OnlyNow m → (disk : D) (more : ℕ) → LeavesOnly m disk disk (IsLongerBy m disk more)
nothing_grown m only disk more = started m only disk (IsLongerBy m disk more) (λ f left. inl left)

one_size : (body : List ℕ) → length (rows (body ∷ [])) ≡ length body + 5
one_size body = omega (arith, length-append (behind_gate body) [], length-append (to_be_bytes w32 (length body)) body)

module _ {D : Type 0} (m : DiskModel D) (only : OnlyNow m) (before after : D) where
  -- nothing was written
  pub same_grown : after ≡ before → LeavesOnly m before after (IsLongerBy m before (2 ^ 30))
  same_grown same = subst (λ (d : D). LeavesOnly m before d (IsLongerBy m before (2 ^ 30))) (sym same) (nothing_grown m only before (2 ^ 30))

  -- a record within its limit was
  pub row_grown : (body : List ℕ) → length body + 5 ≤ 2 ^ 30 → LeavesOnly m before after (IsLongerBy m before (length (rows (body ∷ [])))) → LeavesOnly m before after (IsLongerBy m before (2 ^ 30))
  row_grown body within leaves = weaker m before after (IsLongerBy m before (length (rows (body ∷ [])))) (IsLongerBy m before (2 ^ 30)) leaves longer
    where
      longer : (file : List ℕ) → IsLongerBy m before (length (rows (body ∷ []))) file → IsLongerBy m before (2 ^ 30) file
      longer file (inl left) = inl left
      longer file (inr short) = inr (let size = one_size body in omega (arith, within, short, size))

  -- the journal refused it
  pub refused_grown : (old new : Replica) (body : List ℕ) (e : AppendError) → StepRefused m old new before after (length body) e → LeavesOnly m before after (IsLongerBy m before (length (rows (body ∷ [])))) → LeavesOnly m before after (IsLongerBy m before (2 ^ 30))
  refused_grown old new body journal.Disk r leaves = row_grown body r.0.3 leaves
  refused_grown old new body journal.Closed r leaves = same_grown r.0.2
  refused_grown old new body (journal.TooLong bytes) r leaves = same_grown r.0.4

-- it was refused, or there was no memory
pub syncing_grown : {D : Type 0} (m : DiskModel D) → OnlyNow m → (before after : D) (old new : Replica) (body : List ℕ) (e : RecordError) → SyncingRefused m old new before after (length body) e
    → LeavesOnly m before after (IsLongerBy m before (length (rows (body ∷ [])))) → LeavesOnly m before after (IsLongerBy m before (2 ^ 30))
syncing_grown m only before after old new body (records.Journal e) refused leaves = refused_grown m only before after old new body e refused leaves
syncing_grown m only before after old new body records.Memory refused leaves = same_grown m only before after refused.1.disk

-- a snapshot is taken over: the step is its checkpoint, at a place to which what is carried leads
module _ {D : Type 0} (m : DiskModel D) (old new : Replica) (before after : D) (base : List ℕ) (hand there : TasksValue) (ops : List SyncOp) (there_is : there ≡ apply_all hand ops) (r : Reached) (at_is : base ≡ r.at) (ops_are : ops ≡ r.carried)
    (leads_to : r.tasks ≡ apply_all hand r.carried) (far : same_id base old.core.base ≡ false) where
  abbrev taken : Step
  taken = taking_over base there old

  tasks_are : there ≡ r.tasks
  tasks_are = there_is ∙ ap (apply_all hand) ops_are ∙ sym leads_to

  is_taken : taken ≡ taken_step (state_of old.core) r
  is_taken = λ i. checkpoint (at_base (at_is i) (tasks_are i) (state_of old.core))

  far_there : same_id r.at old.core.base ≡ false
  far_there = ap (λ (h : List ℕ). same_id h old.core.base) (sym at_is) ∙ far

  taken_leads : applied (state_of old.core) taken ≡ Some (taken_over base there old)
  taken_leads = checkpoint_leads (state_of old.core) (taken_over base there old) (at_base_sound (state_of old.core) base there (held_sound old))

  pub taking_leaves : LeavesStep m old before after (Some (taken_over base there old)) → LeavesMove m old before after r.at (taken_step (state_of old.core) r)
  taking_leaves leaves = leaves_move m old new before after r.at taken (taken_step (state_of old.core) r) is_taken far_there (subst (LeavesStep m old before after) (sym taken_leads) leaves)

  pub taking_moves : state_of new.core ≡ taken_over base there old → StandsAfter m old new before after (one_more (body_of taken)) → row_size taken ≤ 2 ^ 30 → MovesBy m old new before after r.at (taken_step (state_of old.core) r)
  taking_moves state adds within = moves_by m old new before after r.at taken (taken_step (state_of old.core) r) is_taken far_there (taken_leads ∙ ap Some (sym state)) adds within

  pub taking_refused : (e : RecordError) → SyncingRefused m old new before after (length (body_of taken)) e → IsNotMoved m old new before after r.at (taken_step (state_of old.core) r) e
  taking_refused e refused = not_moved m old new before after r.at taken (taken_step (state_of old.core) r) is_taken far_there e refused
