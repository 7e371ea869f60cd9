-- A step that is made in memory and not yet written.
use Rattle.std.specs.Prelude.{◌≡◌, ◌⊎◌, ◌<◌, ◌≤◌, ◌+◌, ◌^◌, ℕ, Bool, false, true, cond, List, [], ◌∷◌, ◌++◌, length, Option, Some, None}
use Rattle.std.specs.Global.{Vec}
use Rattle.std.specs.FinMap.{get}
use Rattle.tw_world.specs.Disk.{DiskModel, Rose}
use Rattle.tw_journal.specs.Open.{Records}
use Rattle.tw_journal.specs.Journal.{is_closed, journal_end}
use Rattle.tw_model.specs.Ops.{TasksValue}
use Rattle.tw_bodies.specs.Body.{Step, body_of, IsStep}
use Rattle.tw_bodies.specs.Body.Step.{Commit, Undo, Sync, Carried, Partial, Checkpoint}
use Rattle.tw_state.specs.State.{State, is_idle, applied, split_group}
use Rattle.tw_state.specs.Core.{state_of}
use Rattle.tw_replica.specs.Replica.{magic, held_state}
use Rattle.tw_numbers.specs.Assigned.{is_among}
use Rattle.tw_world.specs.declared.Moment.{Moment}
use Rattle.tw_model.specs.Changes.{changed_all, ops_of_all, group_of}
use Rattle.tw_model.specs.declared.Change.{Change}
use Rattle.tw_replica.specs.declared.step.edit.Editing.{Editing}
use Rattle.tw_replica.specs.declared.step.write.Prepared.{Prepared}
use Rattle.tw_replica.specs.declared.replica.Replica.{Replica}
use Rattle.tw_replica.specs.declared.error.TakeBackError.{TakeBackError}
use Rattle.tw_replica.specs.declared.error.TakeBackError.TheVariants as backs
use Rattle.tw_replica.specs.declared.error.WriteError.{WriteError}
use Rattle.tw_replica.specs.declared.error.WriteError.TheVariants as writes

-- the bodies of the records that a step writes: one, unless it is a commit that has nothing to do
abbrev pub step_bodies : Step → List (List ℕ)
step_bodies (Commit renumber ops) = cond (is_idle renumber ops) [] (body_of (Commit renumber ops) ∷ [])
step_bodies Undo = body_of Undo ∷ []
step_bodies (Sync base ops) = body_of (Sync base ops) ∷ []
step_bodies (Carried base ops) = body_of (Carried base ops) ∷ []
step_bodies (Partial base ops pending) = body_of (Partial base ops pending) ∷ []
step_bodies (Checkpoint base places tasks pending) = body_of (Checkpoint base places tasks pending) ∷ []

-- the body that is to be written, if there is one
abbrev pub bodies_in : Option (Vec ℕ) → List (List ℕ)
bodies_in None = []
bodies_in (Some body) = body.items ∷ []

-- the state that it leads to
abbrev pub prepared_state : Prepared → State
prepared_state prepared = state_of prepared.core

abbrev pub prepared_bodies : Prepared → List (List ℕ)
prepared_bodies prepared = bodies_in prepared.body

-- this step of a replica is made in memory
pub record IsPrepared (old : Replica) (step : Step) (prepared : Prepared) : Type 0 where
  pub journal : prepared.journal ≡ old.journal
  pub leads : applied (held_state old) step ≡ Some (prepared_state prepared)
  pub bodies : prepared_bodies prepared ≡ step_bodies step
  pub is : IsStep step

-- only the tasks of these uuids were changed
abbrev pub ChangedAmong : List (List ℕ) → (old new : TasksValue) → Type 0
ChangedAmong us old new = (u : List ℕ) → is_among us u ≡ false → get new u ≡ get old u

-- these changes were made of the tasks of a replica, at a moment
pub record IsEditing (old : Replica) (made : List Change) (at : Moment) (editing : Editing) : Type 0 where
  pub journal : editing.journal ≡ old.journal
  pub base : editing.core.base ≡ old.core.base
  pub pending : editing.core.pending ≡ old.core.pending
  pub numbers : editing.core.numbers.items ≡ old.core.numbers.items
  pub tasks : editing.core.tasks ≡ changed_all old.core.tasks made
  pub ops : editing.ops.items ≡ ops_of_all old.core.tasks made at
  pub among : ChangedAmong editing.touched.keys old.core.tasks editing.core.tasks

-- whichever changes were made before, these are made as well
abbrev pub MakesAll : (old new : Editing) → List Change → Moment → Type 0
MakesAll old new changes at = (replica : Replica) (made : List Change) → IsEditing replica made at old → IsEditing replica (made ++ changes) at new

-- the step that the changes are
abbrev pub step_of_changes : Replica → (renumber : Bool) → List Change → Moment → Step
step_of_changes old renumber made at = Commit renumber (group_of (ops_of_all (held_state old).tasks made at))

-- the step that whichever changes were made are is made in memory
abbrev pub PreparesChanges : Editing → (renumber : Bool) → Prepared → Type 0
PreparesChanges editing renumber prepared = (old : Replica) (made : List Change) (at : Moment) → IsEditing old made at editing
    → IsPrepared old (step_of_changes old renumber made at) prepared

-- why an undo is not prepared
abbrev pub TakingBackRefused : Replica → TakeBackError → Type 0
TakingBackRefused old backs.NothingToUndo = split_group (held_state old).pending ≡ None
TakingBackRefused old backs.Memory = Unit {0}

-- a file has these records after the magic, or these and those that were to be written
abbrev pub RecordsOrAll : (bodies more : List (List ℕ)) → List ℕ → Type 0
RecordsOrAll bodies more file = Records magic file bodies ⊎ Records magic file (bodies ++ more)

-- there is one record to be written, which has this size with its gate and length
abbrev pub HasSize : List (List ℕ) → ℕ → Type 0
HasSize [] size = ⊥
HasSize (body ∷ bodies) size = size ≡ length body + 5

-- the record that is to be written, if there is one, is not above the limit
abbrev pub IsWithinLimit : List (List ℕ) → Type 0
IsWithinLimit bodies = (size : ℕ) → HasSize bodies size → size ≤ 2 ^ 30

-- why a prepared step is not written
abbrev pub PreparedRefused : {D : Type 0} → DiskModel D → Prepared → (before after : D) → WriteError → Type 0
PreparedRefused m prepared before after writes.Disk = Rose (m.faults before) (m.faults after)
PreparedRefused m prepared before after writes.Closed = (is_closed prepared.journal ≡ true) × (after ≡ before)
PreparedRefused m prepared before after (writes.TooLong bytes) = HasSize (prepared_bodies prepared) bytes × (2 ^ 30 < bytes) × (after ≡ before)

-- the disk has the length that the journal left, unless that is closed
abbrev pub IsLengthReady : {D : Type 0} → DiskModel D → Prepared → D → Type 0
IsLengthReady m prepared disk = is_closed prepared.journal ≡ false → m.len disk ≡ journal_end prepared.journal
