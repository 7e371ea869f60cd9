-- The snapshot that a new replica is given, if there is one (TaskChampion book, "Snapshots").
use Rattle.std.specs.Prelude.{◌≡◌, ℕ, ◌+◌, ◌≤◌, IsTrue, List, [], Option, Some, None, Result, Ok, Err}
use Rattle.tw_http.specs.Link.{LinkModel, IsHonest}
use Rattle.tw_http.specs.Responses.{IsResponseAnswer}
use Rattle.tw_http.specs.declared.message.Asked.TheVariants as asked
use Rattle.tw_http.specs.declared.message.Response.{Response}
use Rattle.tw_http.specs.declared.message.HttpError.{HttpError}
use Rattle.tw_sync.specs.Replies.Heard.{HearsUntil}
use Rattle.tw_sync.specs.Replies.Answers.{IsLinkKept, GrowsOn}
use Rattle.tw_sync.specs.Start.{AsksSnapshot, IsSnapshotOf, BringsNoSnapshot, HasStored}
use Rattle.tw_sync.specs.declared.given.Given.{Given}
use Rattle.tw_sync.specs.declared.error.SyncError.{SyncError}

-- what a reply brings
abbrev pub Brings : Option Given → Result Response HttpError → Type 0
Brings None reply = BringsNoSnapshot reply
Brings (Some given) reply = IsSnapshotOf given.version given.tasks reply

-- bytes are read as this response to a question for a snapshot, or as none
abbrev pub ReadsResponse : List ℕ → Option Response → Type 0
ReadsResponse bytes None = (e : HttpError) × IsResponseAnswer asked.Snapshot bytes (Err e)
ReadsResponse bytes (Some response) = IsResponseAnswer asked.Snapshot bytes (Ok response)

-- bytes are read as a reply that brings it
abbrev pub ReadsGiven : List ℕ → Option Given → Type 0
ReadsGiven bytes given = (reply : Result Response HttpError) × IsResponseAnswer asked.Snapshot bytes reply × Brings given reply

-- over an honest link the server had the snapshot that it gave
abbrev pub StoredBy : {L : Type 0} → LinkModel L → (client : List ℕ) → (first now : L) → Option Given → Type 0
StoredBy m client first now None = Unit {0}
StoredBy m client first now (Some given) = IsHonest m first client → HasStored (m.chain first) (m.chain now) given.version given.tasks

-- one exchange asked for the snapshot, and brought this
pub record IsAskedFor {L : Type 0} (m : LinkModel L) (client host : List ℕ) (first now : L) (given : Option Given) : Type 0 where
  pub asked_is : AsksSnapshot m client host first now (Brings given)
  pub stored : StoredBy m client first now given

-- one exchange at most was tried, and no reply was read
pub record IsUnheard {L : Type 0} (m : LinkModel L) (client host : List ℕ) (first now : L) (e : SyncError) : Type 0 where
  pub kept : IsLinkKept m first now
  pub count : m.exchanges now ≤ m.exchanges first + 1
  pub on : IsHonest m first client → GrowsOn m first now client
  pub mine : IsHonest m first client → m.own now ≡ m.own first
  pub hears : IsTrue (m.tells_list first) → HearsUntil m client host first now [] e
