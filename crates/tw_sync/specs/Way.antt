-- The path that a sync has gone.
use Rattle.std.specs.Prelude.{◌≡◌, ◌⊎◌, ℕ, ◌+◌, List, [], ◌∷◌, ◌++◌, length}
use Rattle.tw_model.specs.LocalOps.{plain}
use Rattle.tw_protocol.specs.Chain.{Version}
use Rattle.tw_journal.specs.declared.error.AppendError.TheVariants as journal
use Rattle.tw_http.specs.Link.{LinkModel, IsHonest}
use Rattle.tw_state.specs.State.{State}
use Rattle.tw_groups.specs.Groups.{joined}
use Rattle.tw_path.specs.Path.{Reached, Leg, come, IsPath, versions_of, pulled_of, sent_of}
use Rattle.tw_outcome.specs.End.{ServerChain, starts_at, stands_at, ends_at, Went, IsUntold}
use Rattle.tw_sync.specs.Start.{Start, from_state}
use Rattle.tw_sync.specs.Ends.End.{IsStopping}
use Rattle.tw_sync.specs.Replies.Heard.{Heard, HearsThat, HearsUntilThat, told_in}
use Rattle.tw_sync.specs.Ends.Refused.{MayAdd}
use Rattle.tw_sync.specs.Sync.{server_chain}
use Rattle.tw_sync.specs.declared.report.SyncReport.{SyncReport}
use Rattle.tw_sync.specs.declared.error.ReplyKind.{ReplyKind}
use Rattle.tw_sync.specs.declared.error.ReplyKind.TheVariants.{Cut, Head, Header, Length, TooLong, Parent, Nil, Status}
use Rattle.tw_sync.specs.declared.error.SyncError.{SyncError}
use Rattle.tw_sync.specs.declared.error.SyncError.TheVariants as errors
pub mod Cursor
pub mod Positions
pub mod Sending
pub mod Progress

-- one version
abbrev pub IsOne : List Version → Type 0
IsOne versions = (v : Version) × (versions ≡ v ∷ [])

-- what a sync does not pass of the versions that it was told of, if it can't go on from a reply: the one that the reply brings, if it brings one
abbrev pub IsUnpassedAt : ReplyKind → List Version → Type 0
IsUnpassedAt Parent last = IsOne last
IsUnpassedAt Nil last = IsOne last
IsUnpassedAt Cut last = last ≡ []
IsUnpassedAt Head last = last ≡ []
IsUnpassedAt Header last = last ≡ []
IsUnpassedAt Length last = last ≡ []
IsUnpassedAt TooLong last = last ≡ []
IsUnpassedAt (Status code) last = last ≡ []

-- What a sync does not pass of the versions that it was told of: the last one if it refuses that, and else none. If the replica is not moved for want
-- of memory or for its journal, it may be either
abbrev pub IsUnpassed : SyncError → List Version → Type 0
IsUnpassed (errors.Reply kind) last = IsUnpassedAt kind last
IsUnpassed (errors.Segment version) last = IsOne last
IsUnpassed (errors.PullTooLong bytes) last = IsOne last
IsUnpassed (errors.Gone base) last = last ≡ []
IsUnpassed (errors.Busy parent) last = last ≡ []
IsUnpassed (errors.OutOfSync base parent) last = last ≡ []
IsUnpassed (errors.SegmentTooLong bytes) last = last ≡ []
IsUnpassed errors.Link last = last ≡ []
IsUnpassed errors.Memory last = (last ≡ []) ⊎ IsOne last
IsUnpassed (errors.Journal journal.Disk) last = (last ≡ []) ⊎ IsOne last
IsUnpassed (errors.Journal (journal.TooLong bytes)) last = (last ≡ []) ⊎ IsOne last
IsUnpassed (errors.Journal journal.Closed) last = last ≡ []

-- the versions that were told of are those of a path, up to one that is refused
pub record TellsOf (legs : List Leg) (e : SyncError) (hs : List Heard) : Type 0 where
  pub last : List Version
  pub told : told_in hs ≡ versions_of legs ++ last
  pub unpassed : IsUnpassed e last

-- it has gone these versions, and may have added one more that it was not told of
pub record WentOn (from : State) (before after : ServerChain) (legs : List Leg) (e : SyncError) : Type 0 where
  pub untold : List Leg
  pub few : IsUntold untold
  pub told_only : (untold ≡ []) ⊎ MayAdd e
  pub went : Went (starts_at from) before after (legs ++ untold)

-- what a report says of a path
pub record IsReportOf (old : State) (start : Reached) (legs : List Leg) (report : SyncReport) : Type 0 where
  pub pulled : report.pulled ≡ pulled_of legs
  pub pushed : report.pushed ≡ sent_of legs
  pub dropped : report.dropped + report.pushed ≡ length (plain old.pending)
  pub base : report.base ≡ (come start legs).at

-- a sync that is done has gone a path through the versions that it was told of, and no other. Nothing is left at its end, and the replica is there
pub record WentToEnd {L : Type 0} (m : LinkModel L) (client host : List ℕ) (start : Start) (old new : State) (first now : L)
    (report : SyncReport) : Type 0 where
  pub legs : List Leg
  pub path : IsPath (starts_at (from_state start old)) legs
  pub heard : HearsThat m client host first now (λ hs. told_in hs ≡ versions_of legs)
  pub went : IsHonest m first client → Went (starts_at (from_state start old)) (server_chain m first) (server_chain m now) legs
  pub nothing : joined (come (starts_at (from_state start old)) legs).left ≡ []
  pub state : new ≡ ends_at old (come (starts_at (from_state start old)) legs)
  pub reported : IsReportOf old (starts_at (from_state start old)) legs report

-- a refused sync has gone a path through the versions that it was told of. If it was stopped the replica is there, with what is left pending
pub record WentUntil {L : Type 0} (m : LinkModel L) (client host : List ℕ) (start : Start) (old new : State) (first now : L) (e : SyncError) : Type 0 where
  pub legs : List Leg
  pub path : IsPath (starts_at (from_state start old)) legs
  pub heard : HearsUntilThat m client host first now e (TellsOf legs e)
  pub went : IsHonest m first client → WentOn (from_state start old) (server_chain m first) (server_chain m now) legs e
  pub state : IsStopping e → new ≡ stands_at old (come (starts_at (from_state start old)) legs)
