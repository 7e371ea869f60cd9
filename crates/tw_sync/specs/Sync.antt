-- The parts of the contract of a sync.
use Rattle.std.specs.Prelude.{◌≡◌, ◌⊎◌, ℕ, ◌≤◌, ◌^◌, List, [], ◌∷◌, ◌++◌, Option, Some, None}
use Rattle.tw_world.specs.Disk.{DiskModel, LeavesOnly}
use Rattle.tw_model.specs.declared.SyncOp.{SyncOp}
use Rattle.tw_protocol.specs.Chain.{Version}
use Rattle.tw_http.specs.Link.{LinkModel}
use Rattle.tw_bodies.specs.Body.{Step, body_of}
use Rattle.tw_state.specs.State.{State, applied}
use Rattle.tw_state.specs.Core.{state_of}
use Rattle.tw_replica.specs.Replica.{IsReplicaOn, IsSame, OpensToEither}
use Rattle.tw_replica.specs.declared.replica.Replica.{Replica}
use Rattle.tw_path.specs.Fold.{Reads}
use Rattle.tw_path.specs.Path.{Reached, Leg, IsPath}
use Rattle.tw_outcome.specs.End.{ServerChain, Answer, starts_at}
use Rattle.tw_sync.specs.Start.{Start, from_state, MayStart}
use Rattle.tw_sync.specs.Ends.End.{EndFrom}
use Rattle.tw_sync.specs.Way.Cursor.{place, LiesIn}
use Rattle.tw_sync.specs.Ends.Moved.{IsStepTo, row_size}
use Rattle.tw_sync.specs.Replies.Heard.{Heard, brought, versions_in}
use Rattle.tw_sync.specs.Ends.Refused.{EndedBy, IsLastReply, GoesOnFrom}
use Rattle.tw_sync.specs.declared.report.SyncReport.{SyncReport}

-- what a link tells of its chain
abbrev pub server_chain : {L : Type 0} → LinkModel L → L → ServerChain
server_chain m link = record { chain = m.chain link; own = m.own link }

-- a step from one state to another, to a place of a path of a sync of the first that starts from this
pub record IsEndStep (start : Start) (old next : State) (step : Step) : Type 0 where
  pub may : MayStart start old
  pub legs : List Leg
  pub path : IsPath (starts_at (from_state start old)) legs
  pub goes_there : IsStepTo start old (place (from_state start old) legs) step
  pub leads : applied old step ≡ Some next

-- a sync that leaves the base writes nothing
pub record WritesNothing {D : Type 0} (m : DiskModel D) (old new : Replica) (before after : D) (bodies : List (List ℕ)) : Type 0 where
  pub base : new.core.base ≡ old.core.base
  pub same : IsSame old new before after

-- a sync that moves the base writes one record, which is within its limit: of such a step to a place of its path through the chain.
-- At any moment the disk opens to the state before or to the new one
pub record WritesOne {D : Type 0} (m : DiskModel D) (Goes : Start → State → Reached → Step → Type 0) (start : Start) (old new : Replica)
    (before after : D) (honest : Type 0) (chain : List Version) (bodies : List (List ℕ)) : Type 0 where
  pub moved : ¬ (new.core.base ≡ old.core.base)
  pub step : Step
  pub end : IsEndStep start (state_of old.core) (state_of new.core) step
  pub goes : Goes start (state_of old.core) (place (from_state start (state_of old.core)) end.legs) step
  pub lies : honest → LiesIn (from_state start (state_of old.core)) chain end.legs
  pub within : row_size step ≤ 2 ^ 30
  pub on : IsReplicaOn m new after (bodies ++ body_of step ∷ [])
  pub leaves : LeavesOnly m before after (OpensToEither (state_of old.core) (Some (state_of new.core)))

-- the records after a sync that goes to its place by such a step
abbrev pub RecordsOfSync : {D : Type 0} → DiskModel D → (Goes : Start → State → Reached → Step → Type 0) → (start : Start) (old new : Replica)
    (before after : D) (honest : Type 0) (chain : List Version) → List (List ℕ) → Type 0
RecordsOfSync m Goes start old new before after honest chain bodies =
    WritesNothing m old new before after bodies ⊎ WritesOne m Goes start old new before after honest chain bodies

-- the end that a sync has led to, if it has come so far
abbrev pub IsEndIn : (start : Start) (old : State) (before after : ServerChain) → Option State → Type 0
IsEndIn start old before after None = Unit {0}
IsEndIn start old before after (Some next) = (answer : Answer) × EndFrom answer start old next before after

-- the state after a sync, if there is one: that of a step to a place of a path
abbrev pub IsSyncOf : (start : Start) (old : State) → Option State → Type 0
IsSyncOf start old None = Unit {0}
IsSyncOf start old (Some next) = (step : Step) × IsEndStep start old next step

-- at any moment the disk opens to the state before, or to the one end of the sync, over the chain as it is at the end of the call
pub record LeavesEnd {D : Type 0} (m : DiskModel D) (before after : D) (start : Start) (old : State) (honest : Type 0) (first last : ServerChain) : Type 0 where
  pub next : Option State
  pub made : IsSyncOf start old next
  pub end : honest → IsEndIn start old first last next
  pub leaves : LeavesOnly m before after (OpensToEither old next)

-- what was heard by a sync that ends
pub record HeardEnd (client : List ℕ) (hs : List Heard) (report : SyncReport) : Type 0 where
  pub ended : EndedBy hs (IsLastReply client report.base)
  pub brought_is : brought hs ≡ report.pulled
  pub read : (ops : List SyncOp) × Reads (versions_in hs) ops
  pub goes_on : GoesOnFrom hs
