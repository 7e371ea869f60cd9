-- Why a sync is refused, and what a refusal leaves.
use Rattle.std.specs.Prelude.{◌≡◌, ◌⊎◌, ℕ, ◌<◌, ◌≤◌, ◌^◌, Bool, true, false, List, [], ◌∷◌, ◌++◌, Ok, Err}
use Rattle.std.specs.List.{AllByRecursion}
use Rattle.uuid.specs.Parts.{zero_bytes}
use Rattle.tw_world.specs.Disk.{DiskModel, Rose}
use Rattle.tw_journal.specs.Journal.{is_closed}
use Rattle.tw_journal.specs.declared.error.AppendError.{AppendError}
use Rattle.tw_journal.specs.declared.error.AppendError.TheVariants as journal
use Rattle.tw_http.specs.Link.{LinkModel}
use Rattle.tw_http.specs.declared.message.Request.{Request}
use Rattle.tw_http.specs.declared.message.Request.TheVariants as asks
use Rattle.tw_http.specs.declared.message.Response.TheVariants as replies
use Rattle.tw_http.specs.declared.message.HttpError.TheVariants as http
use Rattle.tw_segment.specs.Segment.{max_len}
use Rattle.tw_segment.specs.Refusals.{IsUnread}
use Rattle.tw_segment.specs.declared.error.SegmentError.{SegmentError}
use Rattle.tw_segment.specs.declared.error.SegmentError.TheVariants as segments
use Rattle.tw_state.specs.Core.{state_of}
use Rattle.tw_replica.specs.Replica.{IsSame}
use Rattle.tw_replica.specs.declared.replica.Replica.{Replica}
use Rattle.tw_sync.specs.Replies.Heard.{Heard, versions_of, conflicts_of, conflicts, pulled_bytes}
use Rattle.tw_sync.specs.declared.error.ReplyKind.{ReplyKind}
use Rattle.tw_sync.specs.declared.error.ReplyKind.TheVariants.{Cut, Head, Header, Length, TooLong, Parent, Nil, Status}
use Rattle.tw_sync.specs.declared.error.SyncError.{SyncError}
use Rattle.tw_sync.specs.declared.error.SyncError.TheVariants as errors

-- the most bytes of the segments of one sync
abbrev pub max_pull : ℕ
max_pull = 268_435_456

-- ---- what was heard

-- the last thing heard
pub record EndsWith (hs : List Heard) (last : Heard) : Type 0 where
  pub earlier : List Heard
  pub split : hs ≡ earlier ++ last ∷ []

-- the call ended at this reply
abbrev pub EndedBy : List Heard → (Heard → Type 0) → Type 0
EndedBy hs P = (last : Heard) × EndsWith hs last × P last

-- a 200 to get-child that names another parent than was asked for
abbrev pub IsOtherParent : Heard → Type 0
IsOtherParent heard = (client : List ℕ) × (asked : List ℕ) × (id : List ℕ) × (parent : List ℕ) × (segment : List ℕ)
    × (heard.asked ≡ asks.Child client asked) × (heard.reply ≡ Ok (replies.Child id parent segment)) × ¬ (parent ≡ asked)

-- the child of the version that was asked for, whose id is nil
abbrev pub IsNilChild : Heard → Type 0
IsNilChild heard = (client : List ℕ) × (parent : List ℕ) × (segment : List ℕ)
    × (heard.asked ≡ asks.Child client parent) × (heard.reply ≡ Ok (replies.Child zero_bytes parent segment))

-- a 200 to add-version that gave the version this id
abbrev pub IsAdded : (id : List ℕ) → Heard → Type 0
IsAdded id heard = (wanted : Bool) × (heard.reply ≡ Ok (replies.Added id wanted))

-- a version that was added or brought has the id nil
abbrev pub IsNilVersion : Heard → Type 0
IsNilVersion heard = IsAdded zero_bytes heard ⊎ IsNilChild heard

-- a reply with this status, which none has that a sync goes on from
abbrev pub HasBadStatus : (code : ℕ) → Heard → Type 0
HasBadStatus code heard = (heard.reply ≡ Err (http.Status code))
    ⊎ ((code ≡ 400) × (heard.reply ≡ Ok replies.Bad)) ⊎ ((code ≡ 413) × (heard.reply ≡ Ok replies.TooLong)) ⊎ ((code ≡ 500) × (heard.reply ≡ Ok replies.Taken))

-- a reply that no sync goes on from
abbrev pub IsBadReply : ReplyKind → Heard → Type 0
IsBadReply Cut heard = heard.reply ≡ Err http.NotYet
IsBadReply Head heard = heard.reply ≡ Err http.Head
IsBadReply Header heard = heard.reply ≡ Err http.Header
IsBadReply Length heard = heard.reply ≡ Err http.Length
IsBadReply TooLong heard = heard.reply ≡ Err http.TooLong
IsBadReply Parent heard = IsOtherParent heard
IsBadReply Nil heard = IsNilVersion heard
IsBadReply (Status code) heard = HasBadStatus code heard

-- a reply that a sync goes on from, or that says why it can't
abbrev pub IsWelcome : Heard → Type 0
IsWelcome heard = (kind : ReplyKind) → ¬ (IsBadReply kind heard)

-- what is asked of the chain, and not of the snapshot
abbrev pub AsksOfChain : Request → Type 0
AsksOfChain (asks.Add client parent segment) = Unit {0}
AsksOfChain (asks.Child client parent) = Unit {0}
AsksOfChain (asks.AddSnapshot client version bytes) = ⊥
AsksOfChain (asks.Snapshot client) = ⊥

-- a reply that a sync goes on from: no 410
abbrev pub LeadsOn : Heard → Type 0
LeadsOn heard = IsWelcome heard × ¬ (heard.reply ≡ Ok replies.Gone) × AsksOfChain heard.asked

-- a reply about the chain that no sync goes on from
abbrev pub IsBadOfChain : ReplyKind → Heard → Type 0
IsBadOfChain kind heard = IsBadReply kind heard × AsksOfChain heard.asked

-- a 404 to get-child of this version: there is none after it
abbrev pub IsUpToDate : (client base : List ℕ) → Heard → Type 0
IsUpToDate client base heard = (heard.asked ≡ asks.Child client base) × (heard.reply ≡ Ok replies.UpToDate)

-- the last reply of a sync that has come to the end of the chain: there is no version after this one, or this one was added
abbrev pub IsLastReply : (client base : List ℕ) → Heard → Type 0
IsLastReply client base last = IsUpToDate client base last ⊎ IsAdded base last

-- a 410 to get-child of this version
abbrev pub IsGone : (client base : List ℕ) → Heard → Type 0
IsGone client base heard = (heard.asked ≡ asks.Child client base) × (heard.reply ≡ Ok replies.Gone)

-- a 409 that names this version
abbrev pub IsConflict : List ℕ → Heard → Type 0
IsConflict last heard = heard.reply ≡ Ok (replies.Conflict last)

-- a 409 named the parent, and the next get-child of the base answered 404
pub record IsOutOfSync (client : List ℕ) (hs : List Heard) (base parent : List ℕ) : Type 0 where
  pub earlier : List Heard
  pub refused : Heard
  pub asked_next : Heard
  pub split : hs ≡ earlier ++ refused ∷ asked_next ∷ []
  pub conflict : IsConflict parent refused
  pub of_base : asked_next.asked ≡ asks.Child client base
  pub none : asked_next.reply ≡ Ok replies.UpToDate

-- a version was brought whose segment is none
pub record IsBadSegment (version : List ℕ) (heard : Heard) : Type 0 where
  pub parent : List ℕ
  pub segment : List ℕ
  pub reply_is : heard.reply ≡ Ok (replies.Child version parent segment)
  pub error : SegmentError
  pub unread : IsUnread segment error
  pub other : ¬ (error ≡ segments.Memory)

-- the segments that were brought pass their limit, the last one with them
pub record IsTooMuch (hs : List Heard) (bytes : ℕ) : Type 0 where
  pub last : EndedBy hs IsWelcome
  pub sum : bytes ≡ pulled_bytes hs
  pub over : max_pull < bytes

-- the cause of a refusal, if it was heard
abbrev pub HeardCause : (client : List ℕ) → List Heard → SyncError → Type 0
HeardCause client hs (errors.Reply kind) = EndedBy hs (IsBadOfChain kind)
HeardCause client hs (errors.Gone base) = EndedBy hs (IsGone client base)
HeardCause client hs (errors.Busy parent) = EndedBy hs (IsConflict parent) × (conflicts hs ≡ 16)
HeardCause client hs (errors.OutOfSync base parent) = IsOutOfSync client hs base parent
HeardCause client hs (errors.Segment version) = EndedBy hs (IsBadSegment version)
HeardCause client hs (errors.PullTooLong bytes) = IsTooMuch hs bytes
HeardCause client hs (errors.SegmentTooLong bytes) = (base : List ℕ) × EndedBy hs (IsLastReply client base)
HeardCause client hs errors.Link = Unit {0}
HeardCause client hs (errors.Journal e) = Unit {0}
HeardCause client hs errors.Memory = Unit {0}

-- what follows a 409 brings a version
abbrev pub BringsNext : Heard → List Heard → Type 0
BringsNext h [] = Unit {0}
BringsNext h (next ∷ hs) = conflicts_of h.reply ≡ 1 → versions_of next.reply ≡ 1

abbrev pub EachBringsNext : List Heard → Type 0
EachBringsNext [] = Unit {0}
EachBringsNext (h ∷ hs) = BringsNext h hs × EachBringsNext hs

-- replies that a sync goes on from: each leads on, each 409 is followed by a version, and their segments and conflicts are within their limits
pub record GoesOnFrom (hs : List Heard) : Type 0 where
  pub each : AllByRecursion LeadsOn hs
  pub followed : EachBringsNext hs
  pub within : pulled_bytes hs ≤ max_pull
  pub few : conflicts hs ≤ 15

-- it goes on from all but the last
abbrev pub GoesOnFromAllButLast : List Heard → Type 0
GoesOnFromAllButLast hs = (last : Heard) × (ends : EndsWith hs last) × GoesOnFrom ends.earlier

-- a sync is refused for a reply or for a limit at the first reply that it does not go on from
abbrev pub GoesOnToRefusal : List Heard → SyncError → Type 0
GoesOnToRefusal hs (errors.Reply kind) = GoesOnFromAllButLast hs
GoesOnToRefusal hs (errors.Gone base) = GoesOnFromAllButLast hs
GoesOnToRefusal hs (errors.OutOfSync base parent) = GoesOnFromAllButLast hs
GoesOnToRefusal hs (errors.Busy parent) = GoesOnFromAllButLast hs
GoesOnToRefusal hs (errors.PullTooLong bytes) = GoesOnFromAllButLast hs
GoesOnToRefusal hs errors.Link = GoesOnFrom hs
GoesOnToRefusal hs (errors.Segment version) = GoesOnFrom hs
GoesOnToRefusal hs (errors.SegmentTooLong bytes) = GoesOnFrom hs
-- the replica was not moved, whatever stopped the sync
GoesOnToRefusal hs (errors.Journal e) = GoesOnFrom hs ⊎ GoesOnFromAllButLast hs
GoesOnToRefusal hs errors.Memory = GoesOnFrom hs ⊎ GoesOnFromAllButLast hs

-- what was heard by a sync that is refused
pub record HeardRefused (client : List ℕ) (hs : List Heard) (e : SyncError) : Type 0 where
  pub cause : HeardCause client hs e
  pub until : GoesOnToRefusal hs e

-- ---- what stays

-- an open replica and its disk are as they were
pub record IsUnchanged {D : Type 0} (old new : Replica) (before after : D) : Type 0 where
  pub same : IsSame old new before after
  pub is_open : is_closed old.journal ≡ false

-- an open replica was moved, or is as it was
pub record IsMovedOrSame {D : Type 0} (old new : Replica) (before after : D) : Type 0 where
  pub stays : new.core.base ≡ old.core.base → IsSame old new before after
  pub is_open : is_closed old.journal ≡ false

-- why the record is not written, and what stays
abbrev pub JournalRefused : {D L : Type 0} → DiskModel D → (old new : Replica) (before after : D) (first last : L) → AppendError → Type 0
JournalRefused m old new before after first last journal.Disk =
    Rose (m.faults before) (m.faults after) × (state_of new.core ≡ state_of old.core) × (is_closed old.journal ≡ false) × (is_closed new.journal ≡ true)
JournalRefused m old new before after first last journal.Closed = (is_closed old.journal ≡ true) × IsSame old new before after × (last ≡ first)
JournalRefused m old new before after first last (journal.TooLong bytes) = (2 ^ 30 < bytes) × IsUnchanged old new before after

-- why a sync is refused, and what stays. Counts show the faults of the disk and of the link
abbrev pub SyncRefused : {D L : Type 0} → DiskModel D → LinkModel L → (old new : Replica) (before after : D) (first last : L) → SyncError → Type 0
SyncRefused m links old new before after first last (errors.Journal e) = JournalRefused m old new before after first last e
SyncRefused m links old new before after first last errors.Link = Rose (links.faults first) (links.faults last) × IsMovedOrSame old new before after
SyncRefused m links old new before after first last (errors.Reply kind) = IsMovedOrSame old new before after
SyncRefused m links old new before after first last (errors.Gone base) = IsMovedOrSame old new before after
SyncRefused m links old new before after first last (errors.Busy parent) = IsMovedOrSame old new before after
SyncRefused m links old new before after first last (errors.OutOfSync base parent) = IsMovedOrSame old new before after
SyncRefused m links old new before after first last (errors.Segment version) = IsMovedOrSame old new before after
SyncRefused m links old new before after first last (errors.SegmentTooLong bytes) = (max_len < bytes) × IsMovedOrSame old new before after
SyncRefused m links old new before after first last (errors.PullTooLong bytes) = (max_pull < bytes) × IsMovedOrSame old new before after
SyncRefused m links old new before after first last errors.Memory = IsUnchanged old new before after

-- the causes after which a version may have been added that a refused sync was not told of
abbrev pub MayAdd : SyncError → Type 0
MayAdd errors.Link = Unit {0}
MayAdd errors.Memory = Unit {0}
MayAdd (errors.Journal journal.Disk) = Unit {0}
MayAdd (errors.Journal (journal.TooLong bytes)) = Unit {0}
MayAdd (errors.Journal journal.Closed) = ⊥
MayAdd (errors.Reply kind) = ⊥
MayAdd (errors.Gone base) = ⊥
MayAdd (errors.Busy parent) = ⊥
MayAdd (errors.OutOfSync base parent) = ⊥
MayAdd (errors.Segment version) = ⊥
MayAdd (errors.SegmentTooLong bytes) = ⊥
MayAdd (errors.PullTooLong bytes) = ⊥
