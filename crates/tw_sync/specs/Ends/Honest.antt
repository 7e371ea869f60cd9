-- What a refusal says over an honest link that tells its chain, and when a sync is not refused.
use Rattle.std.specs.Prelude.{◌≡◌, ◌⊎◌, ℕ, ◌+◌, ◌≤◌, ◌^◌, false, List, [], ◌∷◌, ◌++◌, length, All, Contains}
use Rattle.tw_world.specs.Disk.{DiskModel, Rose}
use Rattle.tw_model.specs.declared.SyncOp.{SyncOp}
use Rattle.tw_protocol.specs.Chain.{Version, IsBetween, HoldsAll}
use Rattle.tw_journal.specs.Journal.{is_closed}
use Rattle.tw_journal.specs.declared.error.AppendError.TheVariants.{TooLong, Disk, Closed}
use Rattle.tw_http.specs.Link.{LinkModel, IsHonest}
use Rattle.tw_segment.specs.Segment.{max_len, segment_text, IsSegment}
use Rattle.tw_segment.specs.Refusals.{IsUnread}
use Rattle.tw_segment.specs.declared.error.SegmentError.{SegmentError}
use Rattle.tw_segment.specs.declared.error.SegmentError.TheVariants as segments
use Rattle.tw_state.specs.Core.{state_of}
use Rattle.tw_state.specs.State.{State}
use Rattle.tw_replica.specs.declared.replica.Replica.{Replica}
use Rattle.tw_groups.specs.Groups.{joined}
use Rattle.tw_groups.specs.Cut.{first}
use Rattle.tw_path.specs.Path.{Leg, IsPath, is_batch, versions_of}
use Rattle.tw_outcome.specs.Agreement.{Agrees}
use Rattle.tw_outcome.specs.End.{ServerChain, starts_at}
use Rattle.tw_sync.specs.Way.Cursor.{place, pulled_len, IsIn}
use Rattle.tw_sync.specs.Replies.Heard.{HearsThat, versions_in}
use Rattle.tw_sync.specs.Ends.Refused.{max_pull}
use Rattle.tw_sync.specs.Sync.{server_chain}
use Rattle.tw_sync.specs.Ends.Moved.{done_by, stopped_by, row_size}
use Rattle.tw_sync.specs.Start.{Start, from_state}
use Rattle.tw_sync.specs.Way.{TellsOf}
use Rattle.tw_sync.specs.declared.error.ReplyKind.TheVariants.{Status}
use Rattle.tw_sync.specs.declared.error.SyncError.{SyncError}
use Rattle.tw_sync.specs.declared.error.SyncError.TheVariants as errors

-- others added at least so many versions: so many more than this replica's exchanges
pub record OthersAdded (before after : ServerChain) (least : ℕ) : Type 0 where
  pub more : List Version
  pub joined : after.chain ≡ before.chain ++ more
  pub mine : List Version
  pub own : after.own ≡ before.own ++ mine
  pub many : least + length mine ≤ length more
  pub of_others : All (λ v. Contains after.own v → Contains mine v) more

-- how many bytes the segments of versions have
abbrev pub segments_len : List Version → ℕ
segments_len [] = 0
segments_len (v ∷ vs) = length v.segment + segments_len vs

-- the versions that were pulled, with one more, are too long together. They are different ones
pub record IsLongPull (old : State) (chain : List Version) (bytes : ℕ) : Type 0 where
  pub legs : List Leg
  pub v : Version
  pub path : IsPath (starts_at old) legs
  pub between : IsBetween chain old.base v.id (versions_of legs ++ v ∷ [])
  pub len : bytes ≡ pulled_len legs + length v.segment

-- what is sent first of what is left, once all versions are pulled that the chain held before, is too long
pub record IsLongSegment (old : State) (before after : ServerChain) (bytes : ℕ) : Type 0 where
  pub legs : List Leg
  pub path : IsPath (starts_at old) legs
  pub between : IsIn old after.chain legs
  pub last : HoldsAll before.chain after.chain (place old legs).at
  pub some : ¬ (joined (place old legs).left ≡ [])
  pub len : bytes ≡ length (segment_text (first is_batch (place old legs).left))

-- a version after the base can't be read
pub record IsUnreadIn (old : State) (chain : List Version) (id : List ℕ) : Type 0 where
  pub versions : List Version
  pub v : Version
  pub between : IsBetween chain old.base v.id (versions ++ v ∷ [])
  pub id_is : v.id ≡ id
  pub error : SegmentError
  pub unread : IsUnread v.segment error
  pub other : ¬ (error ≡ segments.Memory)

-- the record of a sync is too long that has come to the end of what the chain held before, or was stopped on its path
pub record IsLongRecord (start : Start) (old : State) (before after : ServerChain) (bytes : ℕ) : Type 0 where
  pub legs : List Leg
  pub path : IsPath (starts_at (from_state start old)) legs
  pub between : IsIn (from_state start old) after.chain legs
  pub len : (HoldsAll before.chain after.chain (place (from_state start old) legs).at
      × (bytes ≡ row_size (done_by start old (place (from_state start old) legs))))
      ⊎ (bytes ≡ row_size (stopped_by start old (place (from_state start old) legs)))

-- what a refusal says of the chain, over an honest link
abbrev pub HonestRefused : (start : Start) (old : State) (before after : ServerChain) → SyncError → Type 0
HonestRefused start old before after (errors.Reply kind) = kind ≡ Status 500
HonestRefused start old before after (errors.Gone base) = ¬ (Agrees (from_state start old) before.chain)
HonestRefused start old before after (errors.Busy parent) = OthersAdded before after 16
HonestRefused start old before after (errors.OutOfSync base parent) = ⊥
HonestRefused start old before after (errors.Segment version) = IsUnreadIn (from_state start old) after.chain version
HonestRefused start old before after (errors.SegmentTooLong bytes) = IsLongSegment (from_state start old) before after bytes
HonestRefused start old before after (errors.PullTooLong bytes) = IsLongPull (from_state start old) after.chain bytes
HonestRefused start old before after (errors.Journal (TooLong bytes)) = IsLongRecord start old before after bytes
HonestRefused start old before after (errors.Journal Disk) = Unit {0}
HonestRefused start old before after (errors.Journal Closed) = Unit {0}
HonestRefused start old before after errors.Link = Unit {0}
HonestRefused start old before after errors.Memory = Unit {0}

-- a sync pulled this version, if the link tells its exchanges
abbrev pub WasPulled : {L : Type 0} → LinkModel L → (client host : List ℕ) → (first last : L) → Version → Type 0
WasPulled m client host first last v = HearsThat m client host first last (λ hs. Contains (versions_in hs) v)

-- a segment that can be read
pub record IsReadable (segment : List ℕ) : Type 0 where
  pub ops : List SyncOp
  pub within : length segment ≤ max_len
  pub reads : IsSegment segment ops

-- each version that a sync pulled is such, with those before it
abbrev pub EachPulled : {L : Type 0} → LinkModel L → (client host : List ℕ) → (old : State) → (first last : L) → (List Version → Version → Type 0) → Type 0
EachPulled m client host old first last P = (versions : List Version) (v : Version) → IsBetween (m.chain last) old.base v.id (versions ++ v ∷ [])
    → WasPulled m client host first last v → P versions v

-- what is sent first of what is left, once all is pulled that the chain held before, fits a segment
abbrev pub LeftFitsSegment : (old : State) → (before after : List Version) → Type 0
LeftFitsSegment old before after = (legs : List Leg) → IsPath (starts_at old) legs → IsIn old after legs → HoldsAll before after (place old legs).at
    → ¬ (joined (place old legs).left ≡ []) → length (segment_text (first is_batch (place old legs).left)) ≤ max_len

-- a sync was told of the versions of this path, if the link tells its exchanges, and of one more at most, which it may refuse
abbrev pub WasTold : {L : Type 0} → LinkModel L → (client host : List ℕ) → (first last : L) → List Leg → Type 0
WasTold m client host first last legs = HearsThat m client host first last (λ hs. (bytes : ℕ) × TellsOf legs (errors.Journal (TooLong bytes)) hs)

-- what is carried once all is pulled that the chain held before fits a record, and so does what is carried to the place that was told,
-- with what is left there
abbrev pub AllFitsRecord : {L : Type 0} → LinkModel L → (client host : List ℕ) → (start : Start) (old : State) → (first last : L) → Type 0
AllFitsRecord m client host start old first last = (legs : List Leg) → IsPath (starts_at (from_state start old)) legs
    → IsIn (from_state start old) (m.chain last) legs
    → (HoldsAll (m.chain first) (m.chain last) (place (from_state start old) legs).at
    → row_size (done_by start old (place (from_state start old) legs)) ≤ 2 ^ 30)
    × (WasTold m client host first last legs → row_size (stopped_by start old (place (from_state start old) legs)) ≤ 2 ^ 30)

-- what is pulled, and what is left of what is pending once all is pulled that the chain held before, are within their limits
pub record AreWithin {L : Type 0} (m : LinkModel L) (client host : List ℕ) (start : Start) (old : State) (first last : L) : Type 0 where
  pub pull : EachPulled m client host (from_state start old) first last (λ versions v. segments_len (versions ++ v ∷ []) ≤ max_pull)
  pub read : EachPulled m client host (from_state start old) first last (λ versions v. IsReadable v.segment)
  pub segment : LeftFitsSegment (from_state start old) (m.chain first) (m.chain last)
  pub record_fits : AllFitsRecord m client host start old first last

-- what a sync needs: nothing fails meanwhile, the link is honest, the replica agrees with the chain, others add fewer than sixteen versions,
-- and all is within its limits
pub record CanSync {D L : Type 0} (d : DiskModel D) (m : LinkModel L) (start : Start) (old : Replica) (before after : D) (first last : L)
    (client host : List ℕ) : Type 0 where
  pub is_open : is_closed old.journal ≡ false
  pub disk_works : ¬ (Rose (d.faults before) (d.faults after))
  pub link_works : ¬ (Rose (m.faults first) (m.faults last))
  pub honest : IsHonest m first client
  pub agrees : Agrees (from_state start (state_of old.core)) (m.chain first)
  pub few : ¬ (OthersAdded (server_chain m first) (server_chain m last) 16)
  pub within : AreWithin m client host start (state_of old.core) first last

-- what a refusal for a version of the chain rests on was pulled
abbrev pub RestsOnPulled : {L : Type 0} → LinkModel L → (client host : List ℕ) → (old : State) → (first last : L) → SyncError → Type 0
RestsOnPulled m client host old first last (errors.Segment version) = (u : IsUnreadIn old (m.chain last) version) × WasPulled m client host first last u.v
RestsOnPulled m client host old first last (errors.PullTooLong bytes) = (l : IsLongPull old (m.chain last) bytes) × WasPulled m client host first last l.v
RestsOnPulled m client host old first last (errors.Reply kind) = Unit {0}
RestsOnPulled m client host old first last (errors.Gone base) = Unit {0}
RestsOnPulled m client host old first last (errors.Busy parent) = Unit {0}
RestsOnPulled m client host old first last (errors.OutOfSync base parent) = Unit {0}
RestsOnPulled m client host old first last (errors.SegmentTooLong bytes) = Unit {0}
RestsOnPulled m client host old first last (errors.Journal e) = Unit {0}
RestsOnPulled m client host old first last errors.Link = Unit {0}
RestsOnPulled m client host old first last errors.Memory = Unit {0}

-- a refusal for a record that is too long rests on the place that was told
abbrev pub RestsOnTold : {L : Type 0} → LinkModel L → (client host : List ℕ) → (start : Start) (old : State) → (first last : L) → SyncError → Type 0
RestsOnTold m client host start old first last (errors.Journal (TooLong bytes)) =
    (long : IsLongRecord start old (server_chain m first) (server_chain m last) bytes) × WasTold m client host first last long.legs
RestsOnTold m client host start old first last (errors.Journal Disk) = Unit {0}
RestsOnTold m client host start old first last (errors.Journal Closed) = Unit {0}
RestsOnTold m client host start old first last (errors.Segment version) = Unit {0}
RestsOnTold m client host start old first last (errors.PullTooLong bytes) = Unit {0}
RestsOnTold m client host start old first last (errors.Reply kind) = Unit {0}
RestsOnTold m client host start old first last (errors.Gone base) = Unit {0}
RestsOnTold m client host start old first last (errors.Busy parent) = Unit {0}
RestsOnTold m client host start old first last (errors.OutOfSync base parent) = Unit {0}
RestsOnTold m client host start old first last (errors.SegmentTooLong bytes) = Unit {0}
RestsOnTold m client host start old first last errors.Link = Unit {0}
RestsOnTold m client host start old first last errors.Memory = Unit {0}

-- if a sync can be done, it is refused only since memory ran out, or since the server drew an id that is taken
abbrev pub IsWant : SyncError → Type 0
IsWant e = (e ≡ errors.Memory) ⊎ (e ≡ errors.Reply (Status 500))
