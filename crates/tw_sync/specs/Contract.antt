-- The contract of a sync: one record for each of its ends, from where it starts.
use Rattle.std.specs.Prelude.{◌≡◌, ◌⊎◌, ℕ, ◌+◌, ◌≤◌, ◌^◌, true, IsTrue, List, [], ◌++◌, length, option_map, Result, Ok, Err, IfOk, IfErr}
use Rattle.tw_world.specs.Disk.{DiskModel}
use Rattle.tw_model.specs.declared.SyncOp.{SyncOp}
use Rattle.tw_journal.specs.Journal.{is_closed}
use Rattle.tw_protocol.specs.Chain.{Version, Grows}
use Rattle.tw_http.specs.Link.{LinkModel, IsHonest}
use Rattle.tw_state.specs.State.{State}
use Rattle.tw_state.specs.Core.{state_of}
use Rattle.tw_replica.specs.Replica.{IsReplicaOn, GrowsBy}
use Rattle.tw_replica.specs.declared.replica.Replica.{Replica}
use Rattle.tw_outcome.specs.Agreement.{Agrees}
use Rattle.tw_path.specs.Path.{Leg, sent_of, added_of}
use Rattle.tw_path.specs.Sent.{WasSent, SendsLater}
use Rattle.tw_outcome.specs.End.{Went, starts_at}
use Rattle.tw_sync.specs.Start.{Start, from_state, IsSoundStart, Since}
use Rattle.tw_sync.specs.Ends.End.{EndFrom, SyncEnd, answer_to, IsStopping}
use Rattle.tw_sync.specs.Replies.Heard.{Heard, HearsUntil, HearsThat, HearsUntilThat, brought, most_exchanges}
use Rattle.tw_sync.specs.Replies.Answers.{IsLinkKept}
use Rattle.tw_sync.specs.Ends.Refused.{HeardRefused, SyncRefused}
use Rattle.tw_sync.specs.Sync.{server_chain, RecordsOfSync, LeavesEnd, HeardEnd}
use Rattle.tw_sync.specs.Ends.Moved.{IsDoneStep, IsStoppedStep}
use Rattle.tw_sync.specs.Replies.Measured.{IsMeasured}
use Rattle.tw_sync.specs.Ends.Honest.{HonestRefused, CanSync, IsWant}
use Rattle.tw_sync.specs.Replies.Given.{IsUnheard}
use Rattle.tw_sync.specs.Ends.Offer.{HasLetter, OffersState, OffersAfter, IfWanted, IfUnwanted, reported}
use Rattle.tw_sync.specs.Way.{WentToEnd, WentUntil}
use Rattle.tw_sync.specs.declared.offer.Done.{Done}
use Rattle.tw_sync.specs.declared.report.SyncReport.{SyncReport}
use Rattle.tw_sync.specs.declared.error.SyncError.{SyncError}
use Rattle.tw_sync.specs.declared.error.SyncError.TheVariants as errors

-- ---- over an honest link

-- a sync ends in one of its ends
abbrev pub EndsOn : {L : Type 0} → LinkModel L → (client : List ℕ) → Start → (old new : Replica) (first now : L) → SyncReport → Type 0
EndsOn m client start old new first now report =
    IsHonest m first client → SyncEnd start (state_of old.core) (state_of new.core) (server_chain m first) (server_chain m now) report

-- a refused sync ends where it was stopped, or leaves the state, whatever it has added
abbrev pub EndsRefused : {L : Type 0} → LinkModel L → (client : List ℕ) → Start → (old new : Replica) (first now : L) → SyncError → Type 0
EndsRefused m client start old new first now e =
    IsHonest m first client → EndFrom (answer_to e) start (state_of old.core) (state_of new.core) (server_chain m first) (server_chain m now)

-- a replica that agreed with the chain agrees with it, if the snapshot is sound that it started from
abbrev pub KeepsAgreement : {L : Type 0} → LinkModel L → (client : List ℕ) → Start → (old new : Replica) (first now : L) → Type 0
KeepsAgreement m client start old new first now =
    IsHonest m first client → Agrees (state_of old.core) (m.chain first) → IsSoundStart start (m.chain now) → Agrees (state_of new.core) (m.chain now)

-- a sync of this state pulls what a refused one sent, up to the version w, and sends what is left of the operations that came after it alone
abbrev pub SendsTheRest : {L : Type 0} → LinkModel L → State → (first now : L) → SyncReport → Type 0
SendsTheRest m old first now report = (mine later : List SyncOp) (w : List ℕ) (was : WasSent (starts_at old) (m.chain first) mine later w)
    → (legs : List Leg) × Went (starts_at old) (server_chain m first) (server_chain m now) legs × (report.pushed ≡ sent_of legs)
    × SendsLater (starts_at old) legs w mine later was.pulled

-- one that is refused too has sent nothing, or what is left of the later operations alone
abbrev pub SendsNoMore : {L : Type 0} → LinkModel L → State → (first now : L) → Type 0
SendsNoMore m old first now = (mine later : List SyncOp) (w : List ℕ) (was : WasSent (starts_at old) (m.chain first) mine later w)
    → (legs : List Leg) × Went (starts_at old) (server_chain m first) (server_chain m now) legs
    × ((added_of legs ≡ []) ⊎ SendsLater (starts_at old) legs w mine later was.pulled)

abbrev pub SendsLaterAlone : {L : Type 0} → LinkModel L → (client : List ℕ) → Start → (old : Replica) (first now : L) → SyncReport → Type 0
SendsLaterAlone m client start old first now report = IsHonest m first client → SendsTheRest m (from_state start (state_of old.core)) first now report

abbrev pub SendsNothingAgain : {L : Type 0} → LinkModel L → (client : List ℕ) → Start → (old : Replica) (first now : L) → Type 0
SendsNothingAgain m client start old first now = IsHonest m first client → SendsNoMore m (from_state start (state_of old.core)) first now

-- a refusal is true of the chain
abbrev pub RefusedTruly : {L : Type 0} → LinkModel L → (client : List ℕ) → Start → (old : Replica) (first now : L) → SyncError → Type 0
RefusedTruly m client start old first now e = IsHonest m first client → HonestRefused start (state_of old.core) (server_chain m first) (server_chain m now) e

-- ---- whichever records the replica has

-- at any moment the disk opens to the state before, or to an end of the sync
abbrev pub LeavesOneEnd : {D L : Type 0} → DiskModel D → LinkModel L → (client : List ℕ) → Start → (old : Replica) (before after : D) (first now : L) → Type 0
LeavesOneEnd d m client start old before after first now = (bodies : List (List ℕ)) → IsReplicaOn d old before bodies
    → LeavesEnd d before after start (state_of old.core) (IsHonest m first client) (server_chain m first) (server_chain m now)

-- ---- what was heard

-- of the exchanges of a sync that pulled so many versions each added at most one, and there are few besides
abbrev pub AsksFewFor : {L : Type 0} → LinkModel L → (first now : L) → (pulled besides : ℕ) → Type 0
AsksFewFor m first now pulled besides = (added : List Version) × (m.own now ≡ m.own first ++ added)
    × (m.exchanges now ≤ m.exchanges first + most_exchanges pulled + length added + besides)

-- a refused sync heard its cause, and asked at most once more than one that ends
abbrev pub HearsItsRefusal : {L : Type 0} → LinkModel L → (client host : List ℕ) → (first now : L) → SyncError → Type 0
HearsItsRefusal m client host first now e = IsTrue (m.tells_list first)
    → (hs : List Heard) × HearsUntil m client host first now hs e × HeardRefused client hs e
    × (IsHonest m first client → AsksFewFor m first now (brought hs) 1)

-- its number is that of what was heard
abbrev pub HearsItsNumber : {L : Type 0} → LinkModel L → (client host : List ℕ) → Start → (old : Replica) (first now : L) → SyncError → Type 0
HearsItsNumber m client host start old first now e = HearsUntilThat m client host first now e (λ hs. IsMeasured start (state_of old.core) client hs e)

-- over an honest link a sync that ends has asked no more often than for what it pulled and added
abbrev pub AsksFew : {L : Type 0} → LinkModel L → (client : List ℕ) → (first now : L) → SyncReport → Type 0
AsksFew m client first now report = IsHonest m first client → AsksFewFor m first now report.pulled 0

-- ---- the ends of a sync, from where it starts

-- whatever becomes of it
pub record AnyEnd {D L : Type 0} (d : DiskModel D) (m : LinkModel L) (client : List ℕ) (start : Start) (old new : Replica) (before after : D)
    (first now : L) : Type 0 where
  pub agrees : KeepsAgreement m client start old new first now
  pub grows : IsHonest m first client → Grows (m.chain first) (m.chain now)
  pub any_moment : LeavesOneEnd d m client start old before after first now
  pub growth : GrowsBy d old before after (2 ^ 30)
  pub link_kept : IsLinkKept m first now

-- it is done
pub record DoneEnd {D L : Type 0} (d : DiskModel D) (m : LinkModel L) (client host : List ℕ) (start : Start) (old new : Replica) (before after : D)
    (first now : L) (report : SyncReport) : Type 0 where
  pub ended : EndsOn m client start old new first now report
  pub cancels : SendsLaterAlone m client start old first now report
  pub records : (bodies : List (List ℕ)) → IsReplicaOn d old before bodies
      → RecordsOfSync d IsDoneStep start old new before after (IsHonest m first client) (m.chain now) bodies
  pub way : WentToEnd m client host start (state_of old.core) (state_of new.core) first now report
  pub heard : HearsThat m client host first now (λ hs. HeardEnd client hs report)
  pub exchanges : AsksFew m client first now report

-- it is refused
pub record RefusedEnd {D L : Type 0} (d : DiskModel D) (m : LinkModel L) (client host : List ℕ) (start : Start) (old new : Replica) (before after : D)
    (first now : L) (e : SyncError) : Type 0 where
  pub ended : EndsRefused m client start old new first now e
  pub records : IsStopping e → (bodies : List (List ℕ)) → IsReplicaOn d old before bodies
      → RecordsOfSync d IsStoppedStep start old new before after (IsHonest m first client) (m.chain now) bodies
  pub way : WentUntil m client host start (state_of old.core) (state_of new.core) first now e
  pub cancels : SendsNothingAgain m client start old first now
  pub refused : SyncRefused d m old new before after first now e
  pub honest : RefusedTruly m client start old first now e
  pub complete : CanSync d m start old before after first now client host → IsWant e
  pub heard : HearsItsRefusal m client host first now e
  pub measured : HearsItsNumber m client host start old first now e

-- it ends in one of its ends
pub record EndsSomehow {D L : Type 0} (d : DiskModel D) (m : LinkModel L) (client host : List ℕ) (start : Start) (old new : Replica) (before after : D)
    (first now : L) (result : Result SyncReport SyncError) : Type 0 where
  pub any : AnyEnd d m client start old new before after first now
  pub done : IfOk result (DoneEnd d m client host start old new before after first now)
  pub refused : IfErr result (RefusedEnd d m client host start old new before after first now)

-- no reply came: the link failed, or memory ran out, before anything else was asked
abbrev pub GetsNoReply : {L : Type 0} → LinkModel L → (client host : List ℕ) → (first now : L) → Result SyncReport SyncError → Type 0
GetsNoReply m client host first now (Ok report) = ⊥
GetsNoReply m client host first now (Err e) = ((e ≡ errors.Link) ⊎ (e ≡ errors.Memory)) × IsUnheard m client host first now e

-- why a new replica does not ask for the snapshot: it is closed, or gets no reply
abbrev pub AsksInVain : {L : Type 0} → LinkModel L → (client host : List ℕ) → Replica → (first now : L) → Result SyncReport SyncError → Type 0
AsksInVain m client host old first now result = (is_closed old.journal ≡ true) ⊎ GetsNoReply m client host first now result

-- the end of a sync, with the request for the snapshot that is to be sent after it
pub record EndsOpen {D L : Type 0} (d : DiskModel D) (m : LinkModel L) (client host : List ℕ) (start : Start) (old new : Replica) (before after : D)
    (first now : L) (result : Result Done SyncError) : Type 0 where
  pub ends : EndsSomehow d m client host start old new before after first now (reported result)
  pub letter : IfOk result (λ done. HasLetter m client host (state_of old.core) (state_of new.core) first now (option_map (λ v. v.items) done.letter))

-- a sync of an open replica begins with a question for a snapshot, if it may, and ends in one of its ends from there
abbrev pub RunsOpen : {D L : Type 0} → DiskModel D → LinkModel L → (client host : List ℕ) → (old new : Replica) (before after : D) (first now : L)
    → Result Done SyncError → Type 0
RunsOpen d m client host old new before after first now result =
    Since m client host (state_of old.core) first (AsksInVain m client host old first now (reported result))
    (λ start begun. EndsOpen d m client host start old new before after begun now result)

-- it ends somewhere, and then sends a snapshot, or not. It does if one was wanted, and else does not
pub record EndsAndOffers {D L : Type 0} (d : DiskModel D) (m : LinkModel L) (client host : List ℕ) (start : Start) (old new : Replica) (before after : D)
    (first last : L) (result : Result SyncReport SyncError) : Type 0 where
  pub now : L
  pub ends : EndsSomehow d m client host start old new before after first now result
  pub offers : OffersAfter m client host (state_of new.core) now last result
  pub wanted : IfOk result (λ report. IfWanted m client host (state_of old.core) (state_of new.core) first now
      (OffersState m client host (state_of new.core) now last))
  pub unwanted : IfOk result (λ report. IfUnwanted m client host first now (last ≡ now))

-- it begins with a question for a snapshot, if it may, and ends in one of its ends from there
abbrev pub Runs : {D L : Type 0} → DiskModel D → LinkModel L → (client host : List ℕ) → (old new : Replica) (before after : D) (first now : L)
    → Result SyncReport SyncError → Type 0
Runs d m client host old new before after first now result =
    Since m client host (state_of old.core) first (AsksInVain m client host old first now result)
    (λ start begun. EndsAndOffers d m client host start old new before after begun now result)
