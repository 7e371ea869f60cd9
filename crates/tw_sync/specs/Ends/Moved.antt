-- A replica is moved to the place at which a sync is done, or is stopped.
use Rattle.std.specs.Prelude.{◌≡◌, ◌⊎◌, ℕ, ◌+◌, ◌≤◌, ◌^◌, false, cond, List, ◌∷◌, [], ◌++◌, length, Option, Some, None}
use Rattle.tw_world.specs.Disk.{DiskModel, LeavesOnly}
use Rattle.tw_protocol.specs.Chain.{same_id}
use Rattle.tw_bodies.specs.Body.{Step, body_of}
use Rattle.tw_bodies.specs.Body.Step.{Carried, Partial}
use Rattle.tw_state.specs.State.{State, at_base, checkpoint, applied}
use Rattle.tw_state.specs.Core.{state_of}
use Rattle.tw_replica.specs.Replica.{IsReplicaOn, IsSame, OpensToEither, SyncingRefused}
use Rattle.tw_replica.specs.declared.replica.Replica.{Replica}
use Rattle.tw_replica.specs.declared.error.RecordError.{RecordError}
use Rattle.tw_groups.specs.Groups.{joined, pending_on}
use Rattle.tw_path.specs.Path.{Reached}
use Rattle.tw_sync.specs.Start.{Start}
use Rattle.tw_sync.specs.Start.Start.{Base, Snapshot}

-- the step of a sync that is done at a place: what is carried there
abbrev pub done_step : Reached → Step
done_step r = Carried r.at r.carried

-- and of one that is stopped there: what is left stays pending, with the old values that it finds there
abbrev pub stopped_step : Reached → Step
stopped_step r = Partial r.at r.carried (pending_on r.tasks r.left)

-- the step of a sync from a snapshot, done or stopped: the whole state at a place
abbrev pub taken_step : State → Reached → Step
taken_step old r = checkpoint (at_base r.at r.tasks old)

-- the steps of a sync by what it starts from
abbrev pub done_by : Start → State → Reached → Step
done_by Base old r = done_step r
done_by (Snapshot version tasks) old r = taken_step old r

abbrev pub stopped_by : Start → State → Reached → Step
stopped_by Base old r = stopped_step r
stopped_by (Snapshot version tasks) old r = taken_step old r

-- the step of a sync that is done at a place: nothing is left there
abbrev pub IsDoneStep : Start → State → Reached → Step → Type 0
IsDoneStep start old r step = (joined r.left ≡ []) × (step ≡ done_by start old r)

-- the step of a sync that is stopped there
abbrev pub IsStoppedStep : Start → State → Reached → Step → Type 0
IsStoppedStep start old r step = step ≡ stopped_by start old r

-- the step of a sync that goes to a place
abbrev pub IsStepTo : Start → State → Reached → Step → Type 0
IsStepTo start old r step = IsDoneStep start old r step ⊎ IsStoppedStep start old r step

-- how many bytes the row of a step's record has
abbrev pub row_size : Step → ℕ
row_size step = length (body_of step) + 5

-- the state that a replica gets by a step to a version, unless that is its base
abbrev pub moved_by : List ℕ → Step → State → Option State
moved_by at step state = cond (same_id at state.base) None (applied state step)

-- whichever records the replica has, this one is appended to them
abbrev pub AddsRecord : {D : Type 0} → DiskModel D → (old new : Replica) (before after : D) → (body : List ℕ) → Type 0
AddsRecord m old new before after body = (bodies : List (List ℕ)) → IsReplicaOn m old before bodies → IsReplicaOn m new after (bodies ++ body ∷ [])

-- if there is no such state the replica stays as it is, and if there is one it gets it by one record, which is within its limit
abbrev pub IsMovedTo : {D : Type 0} → DiskModel D → (old new : Replica) (before after : D) → Step → Option State → Type 0
IsMovedTo m old new before after step None = IsSame old new before after
IsMovedTo m old new before after step (Some next) = (state_of new.core ≡ next) × AddsRecord m old new before after (body_of step) × (row_size step ≤ 2 ^ 30)

-- it is moved by this step to this version
abbrev pub MovesBy : {D : Type 0} → DiskModel D → (old new : Replica) (before after : D) → (at : List ℕ) → Step → Type 0
MovesBy m old new before after at step = IsMovedTo m old new before after step (moved_by at step (state_of old.core))

-- at any moment the disk opens to the state before, or to the one that the replica gets
abbrev pub LeavesMove : {D : Type 0} → DiskModel D → (old : Replica) (before after : D) → (at : List ℕ) → Step → Type 0
LeavesMove m old before after at step = (bodies : List (List ℕ)) → IsReplicaOn m old before bodies
    → LeavesOnly m before after (OpensToEither (state_of old.core) (moved_by at step (state_of old.core)))

-- why it is not moved to another version
abbrev pub IsNotMoved : {D : Type 0} → DiskModel D → (old new : Replica) (before after : D) → (at : List ℕ) → Step → RecordError → Type 0
IsNotMoved m old new before after at step e = (same_id at old.core.base ≡ false) × SyncingRefused m old new before after (length (body_of step)) e
