-- The numbers of a refusal for a limit, by what was heard.
use Rattle.std.specs.Prelude.{◌≡◌, ◌⊎◌, ℕ, List, [], length}
use Rattle.tw_journal.specs.declared.error.AppendError.TheVariants.{TooLong, Disk, Closed}
use Rattle.tw_segment.specs.Segment.{segment_text}
use Rattle.tw_state.specs.State.{State}
use Rattle.tw_groups.specs.Groups.{joined}
use Rattle.tw_groups.specs.Cut.{first}
use Rattle.tw_path.specs.Path.{Leg, IsPath, is_batch, versions_of}
use Rattle.tw_outcome.specs.End.{starts_at}
use Rattle.tw_sync.specs.Replies.Heard.{Heard, told_in}
use Rattle.tw_sync.specs.Ends.Refused.{EndedBy, IsLastReply}
use Rattle.tw_sync.specs.Way.{TellsOf}
use Rattle.tw_sync.specs.Ends.Moved.{done_by, stopped_by, row_size}
use Rattle.tw_sync.specs.Start.{Start, from_state}
use Rattle.tw_sync.specs.Way.Cursor.{place}
use Rattle.tw_sync.specs.declared.error.SyncError.{SyncError}
use Rattle.tw_sync.specs.declared.error.SyncError.TheVariants as errors

-- the versions that were told of are those of a path of this state, at whose end nothing more was to pull
pub record HasHeardPath (state : State) (client : List ℕ) (hs : List Heard) (legs : List Leg) : Type 0 where
  pub path : IsPath (starts_at state) legs
  pub told : told_in hs ≡ versions_of legs
  pub ended : EndedBy hs (IsLastReply client (place state legs).at)

-- so many bytes has the segment of what is sent first of what is left at its end
pub record IsSegmentLen (state : State) (client : List ℕ) (hs : List Heard) (bytes : ℕ) : Type 0 where
  pub legs : List Leg
  pub heard : HasHeardPath state client hs legs
  pub some : ¬ (joined (place state legs).left ≡ [])
  pub len : bytes ≡ length (segment_text (first is_batch (place state legs).left))

-- so many bytes has the row of the record of a sync that has come to its end
pub record IsDoneLen (start : Start) (state : State) (client : List ℕ) (hs : List Heard) (bytes : ℕ) : Type 0 where
  pub legs : List Leg
  pub heard : HasHeardPath (from_state start state) client hs legs
  pub len : bytes ≡ row_size (done_by start state (place (from_state start state) legs))

-- or of one that was stopped after what it was told of
pub record IsStoppedLen (start : Start) (state : State) (hs : List Heard) (bytes : ℕ) : Type 0 where
  pub legs : List Leg
  pub path : IsPath (starts_at (from_state start state)) legs
  pub tells : TellsOf legs (errors.Journal (TooLong bytes)) hs
  pub len : bytes ≡ row_size (stopped_by start state (place (from_state start state) legs))

-- so many bytes has the row of its record
abbrev pub IsRecordLen : Start → State → (client : List ℕ) → List Heard → (bytes : ℕ) → Type 0
IsRecordLen start state client hs bytes = IsDoneLen start state client hs bytes ⊎ IsStoppedLen start state hs bytes

-- the number of a refusal, unless it is a sum of what was brought, is that of what was heard
abbrev pub IsMeasured : Start → State → (client : List ℕ) → List Heard → SyncError → Type 0
IsMeasured start state client hs (errors.SegmentTooLong bytes) = IsSegmentLen (from_state start state) client hs bytes
IsMeasured start state client hs (errors.Journal (TooLong bytes)) = IsRecordLen start state client hs bytes
IsMeasured start state client hs (errors.Journal Disk) = Unit {0}
IsMeasured start state client hs (errors.Journal Closed) = Unit {0}
IsMeasured start state client hs (errors.PullTooLong bytes) = Unit {0}
IsMeasured start state client hs (errors.Reply kind) = Unit {0}
IsMeasured start state client hs (errors.Gone base) = Unit {0}
IsMeasured start state client hs (errors.Busy parent) = Unit {0}
IsMeasured start state client hs (errors.OutOfSync base parent) = Unit {0}
IsMeasured start state client hs (errors.Segment version) = Unit {0}
IsMeasured start state client hs errors.Link = Unit {0}
IsMeasured start state client hs errors.Memory = Unit {0}
