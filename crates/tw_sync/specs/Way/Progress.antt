-- How far a sync has come, what it heard, and where it ends.
use Rattle.std.specs.Prelude.{◌≡◌, ◌⊎◌, ℕ, ◌+◌, ◌*◌, ◌<◌, ◌≤◌, Bool, true, false, IsTrue, List, [], ◌∷◌, ◌++◌, length}
use Rattle.std.specs.List.{AllByRecursion}
use Rattle.tw_model.specs.Ops.{TasksValue}
use Rattle.tw_model.specs.declared.SyncOp.{SyncOp}
use Rattle.tw_world.specs.Disk.{Rose}
use Rattle.tw_protocol.specs.Chain.{Version, IsChain, Grows, latest}
use Rattle.tw_http.specs.Link.{LinkModel, IsHonest}
use Rattle.tw_segment.specs.Segment.{max_len}
use Rattle.tw_state.specs.State.{State}
use Rattle.tw_groups.specs.Groups.{joined}
use Rattle.tw_path.specs.Fold.{Reads}
use Rattle.tw_path.specs.Path.{Leg, IsPath, versions_of, added_of}
use Rattle.tw_path.specs.Sent.{PushesBehind}
use Rattle.tw_outcome.specs.End.{starts_at}
use Rattle.tw_sync.specs.Replies.Heard.{Heard, Hears, HearsUntil, conflicts_of, brought, pulled_bytes, conflicts, wanted_in, versions_in, told_in}
use Rattle.tw_sync.specs.Replies.Heard.{most_exchanges}
use Rattle.tw_sync.specs.Replies.Answers.{IsLinkKept, GrowsOn, AnsweredAt}
use Rattle.tw_sync.specs.Ends.Refused.{EndedBy, LeadsOn, EachBringsNext, IsConflict, IsLastReply, HeardRefused, max_pull}
use Rattle.tw_sync.specs.Sync.{server_chain}
use Rattle.tw_sync.specs.Replies.Measured.{IsMeasured}
use Rattle.tw_sync.specs.Ends.Honest.{HonestRefused, RestsOnPulled}
use Rattle.tw_sync.specs.Way.{TellsOf, WentOn}
use Rattle.tw_sync.specs.Way.Cursor.{place, IsOnPath, IsIn, LiesIn, GoesFurther}
use Rattle.tw_sync.specs.Start.Start.{Base}
use Rattle.tw_sync.specs.declared.cursor.Cursor.{Cursor}
use Rattle.tw_sync.specs.declared.error.SyncError.{SyncError}
use Rattle.tw_sync.specs.declared.error.SyncError.TheVariants as errors

-- ---- what was asked

-- what was heard since a sync began tells of this path and counts what the cursor counts, and is so
pub record HeardSoFar {L : Type 0} (m : LinkModel L) (client host : List ℕ) (first now : L) (legs : List Leg) (cursor : Cursor)
    (Q : List Heard → Type 0) : Type 0 where
  pub hs : List Heard
  pub hears : Hears m client host first now hs
  pub told : told_in hs ≡ versions_of legs
  pub ops : List SyncOp
  pub reads : Reads (versions_in hs) ops
  pub brought_is : brought hs ≡ cursor.versions
  pub bytes_are : pulled_bytes hs ≡ cursor.bytes
  pub conflicts_are : conflicts hs ≡ cursor.conflicts
  pub wanted_is : wanted_in hs ≡ cursor.wanted
  pub each : AllByRecursion LeadsOn hs
  pub followed : EachBringsNext hs
  pub so : Q hs

-- there were exchanges for the versions, two for each conflict, and so many besides
pub record HasAsked {L : Type 0} (m : LinkModel L) (client host : List ℕ) (first now : L) (legs : List Leg) (cursor : Cursor)
    (besides : ℕ) (Q : List Heard → Type 0) : Type 0 where
  pub kept : IsLinkKept m first now
  pub count : m.exchanges now ≤ m.exchanges first + (cursor.versions + length (added_of legs) + 2 * cursor.conflicts + besides)
  pub heard : IsTrue (m.tells_list first) → HeardSoFar m client host first now legs cursor Q

-- one if the last thing heard is a 409
abbrev pub ends_late : List Heard → ℕ
ends_late [] = 0
ends_late (h ∷ []) = conflicts_of h.reply
ends_late (h ∷ next ∷ hs) = ends_late (next ∷ hs)

-- ---- how far it has come over an honest link

-- it has added what is pushed on its path, for each conflict others have added a version, and after each but the last one was pulled
pub record HasCome {L : Type 0} (m : LinkModel L) (client : List ℕ) (state : State) (first now : L) (legs : List Leg) (cursor : Cursor) : Type 0 where
  pub on : GrowsOn m first now client
  pub mine : m.own now ≡ m.own first ++ added_of legs
  pub lies : LiesIn state (m.chain now) legs
  pub behind : PushesBehind (m.chain first) (m.chain now) legs
  pub others : length (m.chain first) + length (added_of legs) + cursor.conflicts ≤ length (m.chain now)
  pub late : (cursor.conflicts ≤ cursor.versions) ⊎ ((cursor.conflicts ≤ cursor.versions + 1) × GoesFurther (m.chain now) (place state legs).at)

-- it is at the version that was the chain's last when it asked
pub record IsAtEnd {L : Type 0} (m : LinkModel L) (client : List ℕ) (state : State) (first now : L) (legs : List Leg) (cursor : Cursor) : Type 0 where
  pub on : GrowsOn m first now client
  pub mine : m.own now ≡ m.own first ++ added_of legs
  pub lies : IsIn state (m.chain now) legs
  pub behind : PushesBehind (m.chain first) (m.chain now) legs
  pub front : List Version
  pub given : AnsweredAt m first now front
  pub last : latest front ≡ (place state legs).at
  pub others : length (m.chain first) + length (added_of legs) + cursor.conflicts ≤ length front
  pub late : cursor.conflicts ≤ cursor.versions

-- ---- its steps

-- a sync that began at this state and this link asks for the version after its cursor, and what it heard is so
pub record Asks {L : Type 0} (m : LinkModel L) (client host : List ℕ) (state : State) (first now : L) (cursor : Cursor) (Q : List Heard → Type 0) : Type 0 where
  pub legs : List Leg
  pub on_path : IsOnPath state legs cursor
  pub tries : cursor.conflicts ≤ 15
  pub asked : HasAsked m client host first now legs cursor 0 Q
  pub come : IsHonest m first client → HasCome m client state first now legs cursor

abbrev pub IsAsking : {L : Type 0} → LinkModel L → (client host : List ℕ) → State → (first now : L) → Cursor → Type 0
IsAsking m client host state first now cursor = Asks m client host state first now cursor (λ hs. Unit {0})

-- it asks, and not since a version came too late
abbrev pub IsPulling : {L : Type 0} → LinkModel L → (client host : List ℕ) → State → (first now : L) → Cursor → Type 0
IsPulling m client host state first now cursor = Asks m client host state first now cursor (λ hs. ends_late hs ≡ 0)

-- it has come to the end of the chain
pub record HasPulled {L : Type 0} (m : LinkModel L) (client host : List ℕ) (state : State) (first now : L) (cursor : Cursor) : Type 0 where
  pub legs : List Leg
  pub on_path : IsOnPath state legs cursor
  pub tries : cursor.conflicts ≤ 15
  pub asked : HasAsked m client host first now legs cursor 1 (λ hs. EndedBy hs (IsLastReply client (place state legs).at))
  pub come : IsHonest m first client → IsAtEnd m client state first now legs cursor

-- whether it goes on pulling
abbrev pub PullsOn : {L : Type 0} → Bool → LinkModel L → (client host : List ℕ) → State → (first now : L) → Cursor → Type 0
PullsOn true m client host state first now cursor = IsPulling m client host state first now cursor
PullsOn false m client host state first now cursor = HasPulled m client host state first now cursor

-- what it sent came too late
pub record IsLate {L : Type 0} (m : LinkModel L) (client host : List ℕ) (state : State) (first now : L) (cursor : Cursor) (last : List ℕ) : Type 0 where
  pub legs : List Leg
  pub on_path : IsOnPath state legs cursor
  pub tries : cursor.conflicts ≤ 16
  pub asked : HasAsked m client host first now legs cursor 0 (λ hs. EndedBy hs (IsConflict last))
  pub come : IsHonest m first client → HasCome m client state first now legs cursor
  pub behind : IsHonest m first client → GoesFurther (m.chain now) (place state legs).at

-- ---- its end

-- it has met the server's chain: it has come to its end, and nothing is left
pub record IsMet {L : Type 0} (m : LinkModel L) (client host : List ℕ) (state : State) (first now : L) (cursor : Cursor) : Type 0 where
  pub pulled : HasPulled m client host state first now cursor
  pub nothing : joined (place state pulled.legs).left ≡ []

-- ---- its refusal

-- which causes a refusal on the way has
abbrev pub IsCause : {L : Type 0} → LinkModel L → (first now : L) → SyncError → Type 0
IsCause m first now errors.Link = Rose (m.faults first) (m.faults now)
IsCause m first now (errors.Journal e) = ⊥
IsCause m first now (errors.SegmentTooLong bytes) = max_len < bytes
IsCause m first now (errors.PullTooLong bytes) = max_pull < bytes
IsCause m first now (errors.Reply kind) = Unit {0}
IsCause m first now (errors.Gone base) = Unit {0}
IsCause m first now (errors.Busy parent) = Unit {0}
IsCause m first now (errors.OutOfSync base parent) = Unit {0}
IsCause m first now (errors.Segment version) = Unit {0}
IsCause m first now errors.Memory = Unit {0}

-- what was heard up to the refusal
pub record HeardToStop {L : Type 0} (m : LinkModel L) (client host : List ℕ) (state : State) (first now : L) (legs : List Leg) (e : SyncError) : Type 0 where
  pub hs : List Heard
  pub hears : HearsUntil m client host first now hs e
  pub refused : HeardRefused client hs e
  pub measured : IsMeasured Base state client hs e
  pub tells : TellsOf legs e hs
  pub few : IsHonest m first client → m.exchanges now ≤ m.exchanges first + most_exchanges (brought hs) + length (added_of legs) + 1

-- what it says over an honest link, where it has gone these versions
pub record StopsTruly {L : Type 0} (m : LinkModel L) (client host : List ℕ) (state : State) (first now : L) (legs : List Leg) (e : SyncError) : Type 0 where
  pub whole : IsChain (m.chain now)
  pub grows : Grows (m.chain first) (m.chain now)
  pub refused : HonestRefused Base state (server_chain m first) (server_chain m now) e
  pub pulled : RestsOnPulled m client host state first now e
  pub went : WentOn state (server_chain m first) (server_chain m now) legs e

-- a sync that began at this state and this link is refused, where it has gone a path. Unless memory ran out its cursor is there
pub record IsStopped {L : Type 0} (m : LinkModel L) (client host : List ℕ) (state : State) (first now : L) (cursor : Cursor) (e : SyncError) : Type 0 where
  pub legs : List Leg
  pub path : IsPath (starts_at state) legs
  pub stands : (e ≡ errors.Memory) ⊎ IsOnPath state legs cursor
  pub kept : IsLinkKept m first now
  pub cause : IsCause m first now e
  pub heard : IsTrue (m.tells_list first) → HeardToStop m client host state first now legs e
  pub come : IsHonest m first client → StopsTruly m client host state first now legs e

-- ---- what a call does to each sync that has come to its cursor, whichever state with these tasks and link this began at

-- a sync that pulls has pulled all
abbrev pub PullsAll : {L : Type 0} → LinkModel L → (client host : List ℕ) → TasksValue → (before : L) → Cursor → (after : L) → Cursor → Type 0
PullsAll {L = L} m client host hand before cursor after moved = (state : State) (first : L) → state.tasks ≡ hand
    → IsPulling m client host state first before cursor → HasPulled m client host state first after moved

-- it has pulled one version more, or all
abbrev pub PullsOne : {L : Type 0} → LinkModel L → (client host : List ℕ) → TasksValue → (before : L) → Cursor → (after : L) → Cursor → (more : Bool) → Type 0
PullsOne {L = L} m client host hand before cursor after moved more = (state : State) (first : L) → state.tasks ≡ hand
    → IsPulling m client host state first before cursor → PullsOn more m client host state first after moved

-- it is refused
abbrev pub StopsPulling : {L : Type 0} → LinkModel L → (client host : List ℕ) → TasksValue → (before : L) → Cursor → (after : L) → Cursor → SyncError → Type 0
StopsPulling {L = L} m client host hand before cursor after moved e = (state : State) (first : L) → state.tasks ≡ hand
    → IsPulling m client host state first before cursor → IsStopped m client host state first after moved e

-- it has met the server's chain
abbrev pub Meets : {L : Type 0} → LinkModel L → (client host : List ℕ) → TasksValue → (before : L) → Cursor → (after : L) → Cursor → Type 0
Meets {L = L} m client host hand before cursor after moved = (state : State) (first : L) → state.tasks ≡ hand
    → IsPulling m client host state first before cursor → IsMet m client host state first after moved

-- a sync that asks, also after a conflict, pulls
abbrev pub FindsOne : {L : Type 0} → LinkModel L → (client host : List ℕ) → TasksValue → (before : L) → Cursor → (after : L) → Cursor → Type 0
FindsOne {L = L} m client host hand before cursor after moved = (state : State) (first : L) → state.tasks ≡ hand
    → IsAsking m client host state first before cursor → IsPulling m client host state first after moved

-- it is refused
abbrev pub StopsAsking : {L : Type 0} → LinkModel L → (client host : List ℕ) → TasksValue → (before : L) → Cursor → (after : L) → Cursor → SyncError → Type 0
StopsAsking {L = L} m client host hand before cursor after moved e = (state : State) (first : L) → state.tasks ≡ hand
    → IsAsking m client host state first before cursor → IsStopped m client host state first after moved e

-- a sync whose version came too late is refused, since there is nothing to pull
abbrev pub FindsNoneLate : {L : Type 0} → LinkModel L → (client host : List ℕ) → (before : L) → Cursor → (after : L) → Cursor → Type 0
FindsNoneLate {L = L} m client host before cursor after moved = cursor.conflicts ≤ 15 → (state : State) (first : L) (last : List ℕ)
    → IsLate m client host state first before cursor last → IsStopped m client host state first after moved (errors.OutOfSync moved.walker.at last)

-- after a conflict that named this version it has pulled all
abbrev pub PullsLate : {L : Type 0} → LinkModel L → (client host : List ℕ) → TasksValue → (before : L) → Cursor → (last : List ℕ) → (after : L)
    → Cursor → Type 0
PullsLate {L = L} m client host hand before cursor last after moved = (state : State) (first : L) → state.tasks ≡ hand
    → IsLate m client host state first before cursor last → HasPulled m client host state first after moved

-- it is refused
abbrev pub StopsLate : {L : Type 0} → LinkModel L → (client host : List ℕ) → TasksValue → (before : L) → Cursor → (last : List ℕ) → (after : L)
    → Cursor → SyncError → Type 0
StopsLate {L = L} m client host hand before cursor last after moved e = (state : State) (first : L) → state.tasks ≡ hand
    → IsLate m client host state first before cursor last → IsStopped m client host state first after moved e

-- a sync that has pulled all is refused
abbrev pub StopsSending : {L : Type 0} → LinkModel L → (client host : List ℕ) → (before : L) → Cursor → (after : L) → Cursor → SyncError → Type 0
StopsSending {L = L} m client host before cursor after moved e = (state : State) (first : L) → HasPulled m client host state first before cursor
    → IsStopped m client host state first after moved e
