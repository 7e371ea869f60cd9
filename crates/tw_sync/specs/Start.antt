-- What a sync starts from: the base of its replica, or a snapshot that it was given (TaskChampion book, "Snapshots").
use Rattle.std.specs.Prelude.{◌≡◌, ◌⊎◌, ℕ, ◌+◌, ◌≤◌, true, IsTrue, List, [], ◌∷◌, ◌++◌, Some, Result, Ok}
use Rattle.tw_model.specs.Ops.{TasksValue, apply_all}
use Rattle.tw_protocol.specs.Chain.{Version, IsCut, Grows, has_id}
use Rattle.tw_protocol.specs.Snapshots.{Account}
use Rattle.std.specs.List.{AllByRecursion}
use Rattle.tw_http.specs.Link.{LinkModel, Exchange, IsHonest}
use Rattle.tw_http.specs.Messages.{request_text}
use Rattle.tw_http.specs.Responses.{IsResponseAnswer}
use Rattle.tw_http.specs.declared.message.Asked.TheVariants as asked
use Rattle.tw_http.specs.declared.message.Request.TheVariants as asks
use Rattle.tw_http.specs.declared.message.Response.{Response}
use Rattle.tw_http.specs.declared.message.Response.TheVariants as replies
use Rattle.tw_http.specs.declared.message.HttpError.{HttpError}
use Rattle.tw_snapshot.specs.Snapshot.{snapshot_of}
use Rattle.tw_state.specs.State.{State, at_base}
use Rattle.tw_path.specs.Fold.{IsFold}
use Rattle.tw_path.specs.Path.{Reached}
use Rattle.tw_outcome.specs.Start.{IsNewReplica}
use Rattle.tw_sync.specs.Replies.Heard.{Hears, heard}
use Rattle.tw_sync.specs.Replies.Answers.{IsLinkKept, GrowsOn}

-- what a sync starts from
pub data Start : Type 0 where
  Base : Start
  Snapshot : (version : List ℕ) → TasksValue → Start

-- the state from which its path goes: that of the replica, or the one at the snapshot
abbrev pub from_state : Start → State → State
from_state Base state = state
from_state (Snapshot version tasks) state = at_base version tasks state

-- only a new replica may start from a snapshot
abbrev pub MayStart : Start → State → Type 0
MayStart Base state = Unit {0}
MayStart (Snapshot version tasks) state = IsNewReplica state

-- a snapshot is sound if it is the chain folded to its version
abbrev pub IsSoundStart : Start → List Version → Type 0
IsSoundStart Base chain = Unit {0}
IsSoundStart (Snapshot version tasks) chain = IsFold chain version tasks

-- the chain knows the version of a snapshot
abbrev pub IsKnownStart : Start → List Version → Type 0
IsKnownStart Base chain = Unit {0}
IsKnownStart (Snapshot version tasks) chain = (front : List Version) × (back : List Version) × IsCut chain version front back

-- operations carried from a snapshot lead to the tasks of a place
abbrev pub LeadsTo : Start → Reached → Type 0
LeadsTo Base r = Unit {0}
LeadsTo (Snapshot version tasks) r = r.tasks ≡ apply_all tasks r.carried

-- ---- the first exchange

-- one exchange asked for the snapshot, and its reply is such
pub record AsksSnapshot {L : Type 0} (m : LinkModel L) (client host : List ℕ) (first now : L) (Q : Result Response HttpError → Type 0) : Type 0 where
  pub kept : IsLinkKept m first now
  pub count : m.exchanges now ≤ m.exchanges first + 1
  pub on : IsHonest m first client → GrowsOn m first now client
  pub mine : IsHonest m first client → m.own now ≡ m.own first
  pub heard_is : IsTrue (m.tells_list first) → (reply : Result Response HttpError)
      × Hears m client host first now (heard (asks.Snapshot client) reply ∷ []) × Q reply

-- a reply brings these tasks as a snapshot of a version
pub record IsSnapshotOf (version : List ℕ) (tasks : TasksValue) (reply : Result Response HttpError) : Type 0 where
  pub bytes : List ℕ
  pub reply_is : reply ≡ Ok (replies.Snapshot version bytes)
  pub reads : snapshot_of bytes ≡ Some tasks

-- a reply brings none that can be read
abbrev pub BringsNoSnapshot : Result Response HttpError → Type 0
BringsNoSnapshot reply = (version : List ℕ) (tasks : TasksValue) → ¬ (IsSnapshotOf version tasks reply)

-- the server had this snapshot, of a version of its chain
pub record HasStored (old new : List Version) (version : List ℕ) (tasks : TasksValue) : Type 0 where
  pub at : Account
  pub before : Grows old at.chain
  pub after : Grows at.chain new
  pub bytes : List ℕ
  pub stored : at.stored ≡ Some (record { version = version; bytes = bytes })
  pub known : has_id version at.chain ≡ true
  pub reads : snapshot_of bytes ≡ Some tasks

-- a new replica asked for the snapshot, and passed the reply over
pub record PassesOver {L : Type 0} (m : LinkModel L) (client host : List ℕ) (state : State) (first now : L) : Type 0 where
  pub fresh : IsNewReplica state
  pub asked : AsksSnapshot m client host first now BringsNoSnapshot

-- it was given a snapshot
pub record IsGiven {L : Type 0} (m : LinkModel L) (client host : List ℕ) (state : State) (first now : L) (version : List ℕ) (tasks : TasksValue) : Type 0 where
  pub fresh : IsNewReplica state
  pub asked : AsksSnapshot m client host first now (IsSnapshotOf version tasks)
  pub stored : IsHonest m first client → HasStored (m.chain first) (m.chain now) version tasks

-- how a sync begins: a replica that is not new asks for no snapshot
abbrev pub Begins : {L : Type 0} → LinkModel L → (client host : List ℕ) → State → (first now : L) → Start → Type 0
Begins m client host state first now Base = (now ≡ first) ⊎ PassesOver m client host state first now
Begins m client host state first now (Snapshot version tasks) = IsGiven m client host state first now version tasks

-- a new replica asks for the snapshot before all else, unless this is so
abbrev pub AsksFirst : {L : Type 0} → LinkModel L → (client host : List ℕ) → State → (first begun : L) → (unasked : Type 0) → Type 0
AsksFirst m client host state first begun unasked = IsNewReplica state → AsksSnapshot m client host first begun (λ reply. Unit {0}) ⊎ unasked

-- it begins so, and the rest of it, from there on, is such
pub record Since {L : Type 0} (m : LinkModel L) (client host : List ℕ) (state : State) (first : L) (unasked : Type 0) (P : Start → L → Type 0) : Type 0 where
  pub start : Start
  pub begun : L
  pub begins : Begins m client host state first begun start
  pub asks : AsksFirst m client host state first begun unasked
  pub rest : P start begun

-- ---- sound snapshots

-- an exchange that brings a snapshot brings the chain folded to its version
abbrev pub IsSoundExchange : List Version → (client host : List ℕ) → Exchange → Type 0
IsSoundExchange chain client host x = (version bytes : List ℕ) (tasks : TasksValue) → x.request ≡ request_text (asks.Snapshot client) host
    → IsResponseAnswer asked.Snapshot x.reply (Ok (replies.Snapshot version bytes)) → snapshot_of bytes ≡ Some tasks → IsFold chain version tasks

-- each exchange of a call is such, over the chain after it
abbrev pub SoundSnapshots : {L : Type 0} → LinkModel L → (client host : List ℕ) → (first now : L) → Type 0
SoundSnapshots m client host first now = (xs : List Exchange) → m.list now ≡ m.list first ++ xs → AllByRecursion (IsSoundExchange (m.chain now) client host) xs

-- if the replica is new, the link tells its exchanges, and each is such
abbrev pub GivenSoundly : {L : Type 0} → LinkModel L → (client host : List ℕ) → State → (first now : L) → Type 0
GivenSoundly m client host state first now = IsNewReplica state → IsTrue (m.tells_list first) × SoundSnapshots m client host first now
