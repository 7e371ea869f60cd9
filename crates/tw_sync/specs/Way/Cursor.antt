-- Where a sync is in a chain.
use Rattle.std.specs.Prelude.{◌≡◌, ◌⊎◌, ℕ, ◌+◌, ◌-◌, ◌<◌, ◌≤◌, Bool, true, false, ◌||◌, List, [], ◌∷◌, length}
use Rattle.tw_model.specs.Ops.{TasksValue}
use Rattle.tw_model.specs.LocalOps.{plain}
use Rattle.tw_model.specs.declared.SyncOp.{SyncOp}
use Rattle.tw_protocol.specs.Chain.{Version, IsCut, IsBetween}
use Rattle.tw_segment.specs.Segment.{IsSegment}
use Rattle.tw_segment.specs.Refusals.{IsUnread}
use Rattle.tw_segment.specs.declared.error.SegmentError.{SegmentError}
use Rattle.tw_segment.specs.declared.error.SegmentError.TheVariants as segments
use Rattle.tw_state.specs.State.{State}
use Rattle.tw_path.specs.Path.{Reached, Leg, come, IsPath, versions_of, added_of, pulled_of, sent_of}
use Rattle.tw_path.specs.Path.Leg.{Pull, Push}
use Rattle.tw_path.specs.Walk.{StandsAt, GoesOverPull, GoesOverPush}
use Rattle.tw_outcome.specs.End.{starts_at}
use Rattle.tw_sync.specs.Ends.Refused.{max_pull}
use Rattle.tw_sync.specs.declared.report.SyncReport.{SyncReport}
use Rattle.tw_sync.specs.declared.cursor.Cursor.{Cursor}
use Rattle.tw_sync.specs.declared.error.TakeError.{TakeError}
use Rattle.tw_sync.specs.declared.error.TakeError.TheVariants as taking

-- ---- on a path

-- where the path of a replica's state leads
abbrev pub place : State → List Leg → Reached
place state legs = come (starts_at state) legs

-- how many bytes the segments have that are pulled on a path
abbrev pub pulled_len : List Leg → ℕ
pulled_len [] = 0
pulled_len (Pull v ops ∷ legs) = length v.segment + pulled_len legs
pulled_len (Push v ops ∷ legs) = pulled_len legs

-- the cursor is where a path leads from this state, and counts what is on it. A snapshot is wanted only after a version was added
pub record IsOnPath (state : State) (legs : List Leg) (cursor : Cursor) : Type 0 where
  pub path : IsPath (starts_at state) legs
  pub stands : StandsAt state.tasks (place state legs) cursor.walker
  pub versions : cursor.versions ≡ pulled_of legs
  pub bytes : cursor.bytes ≡ pulled_len legs
  pub pending : cursor.pending ≡ length (plain state.pending)
  pub unsent : cursor.unsent ≡ length (plain state.pending) - sent_of legs
  pub wants : cursor.wanted ≡ true → 1 ≤ length (added_of legs)

-- what a sync did that ends at a cursor
abbrev pub made_report : Cursor → SyncReport
made_report cursor = record { pulled = cursor.versions; dropped = cursor.unsent; pushed = cursor.pending - cursor.unsent; base = cursor.walker.at }

-- a sync of this state is where it begins
pub record IsAtStart (state : State) (cursor : Cursor) : Type 0 where
  pub on_path : IsOnPath state [] cursor
  pub conflicts : cursor.conflicts ≡ 0
  pub calm : cursor.wanted ≡ false

-- the versions of a path lie in the chain after the base
abbrev pub IsIn : State → List Version → List Leg → Type 0
IsIn state chain legs = IsBetween chain state.base (place state legs).at (versions_of legs)

-- they do, or there are none, and the chain need not know the base
abbrev pub LiesIn : State → List Version → List Leg → Type 0
LiesIn state chain legs = (legs ≡ []) ⊎ IsIn state chain legs

-- there are versions after this one
pub record GoesFurther (chain : List Version) (v : List ℕ) : Type 0 where
  pub front : List Version
  pub back : List Version
  pub cut : IsCut chain v front back
  pub some : ¬ (back ≡ [])

-- ---- one version more

-- beside the tasks at hand the cursor goes on to a version with this segment
pub record TakesVersion (hand : TasksValue) (old new : Cursor) (id segment : List ℕ) : Type 0 where
  pub ops : List SyncOp
  pub reads : IsSegment segment ops
  pub walks : GoesOverPull hand id ops old.walker new.walker
  pub versions : new.versions ≡ old.versions + 1
  pub bytes : new.bytes ≡ old.bytes + length segment
  pub conflicts : new.conflicts ≡ old.conflicts
  pub pending : new.pending ≡ old.pending
  pub unsent : new.unsent ≡ old.unsent
  pub wanted : new.wanted ≡ old.wanted

-- the cursor goes on to a version that was added with these operations. A snapshot is wanted then, or not
pub record AddsVersion (old new : Cursor) (id : List ℕ) (ops : List SyncOp) (wanted : Bool) : Type 0 where
  pub walks : GoesOverPush id ops old.walker new.walker
  pub versions : new.versions ≡ old.versions
  pub bytes : new.bytes ≡ old.bytes
  pub conflicts : new.conflicts ≡ old.conflicts
  pub pending : new.pending ≡ old.pending
  pub unsent : new.unsent ≡ old.unsent - length ops
  pub wants : new.wanted ≡ (old.wanted || wanted)

-- a segment that is none
pub record IsUnreadable (segment : List ℕ) : Type 0 where
  pub error : SegmentError
  pub unread : IsUnread segment error
  pub other : ¬ (error ≡ segments.Memory)

-- why a version is not taken
abbrev pub IsNotTaken : Cursor → (id segment : List ℕ) → TakeError → Type 0
IsNotTaken cursor id segment (taking.TooLong bytes) = (bytes ≡ cursor.bytes + length segment) × (max_pull < bytes)
IsNotTaken cursor id segment (taking.Segment version) = (version ≡ id) × IsUnreadable segment × (cursor.bytes + length segment ≤ max_pull)
IsNotTaken cursor id segment taking.Memory = cursor.bytes + length segment ≤ max_pull
