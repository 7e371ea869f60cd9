-- The snapshot that a sync sends, if the server wants one (TaskChampion book, "Snapshots").
use Rattle.std.specs.Prelude.{◌≡◌, ◌⊎◌, ℕ, ◌+◌, ◌-◌, ◌^◌, min, Bool, true, false, IsTrue, List, [], ◌∷◌, ◌++◌, Option, Some, None, Result, Ok, Err}
use Rattle.tw_model.specs.Ops.{TasksValue}
use Rattle.tw_protocol.specs.Chain.{same_id}
use Rattle.tw_http.specs.Link.{LinkModel, IsHonest}
use Rattle.tw_http.specs.Messages.{request_text}
use Rattle.tw_http.specs.Requests.{IsRequestAnswer}
use Rattle.tw_http.specs.declared.message.Request.TheVariants as asks
use Rattle.tw_snapshot.specs.Snapshot.{snapshot_text, text_within, snapshot_of}
use Rattle.tw_state.specs.State.{State}
use Rattle.tw_path.specs.Path.{Reached}
use Rattle.tw_sync.specs.Replies.Heard.{HearsThat, wanted_in}
use Rattle.tw_sync.specs.Replies.Answers.{IsLinkKept, GrowsOn}
use Rattle.tw_sync.specs.declared.offer.Done.{Done}
use Rattle.tw_sync.specs.declared.report.SyncReport.{SyncReport}
use Rattle.tw_sync.specs.declared.error.SyncError.{SyncError}

-- bytes are a request that stores a snapshot
abbrev pub IsLetter : (client : List ℕ) → List ℕ → Type 0
IsLetter client text = (version : List ℕ) × (bytes : List ℕ) × IsRequestAnswer text (Ok (asks.AddSnapshot client version bytes))

-- the request that stores these tasks at a version
pub record StoresTasks (client host version : List ℕ) (tasks : TasksValue) (text : List ℕ) : Type 0 where
  pub within : text_within tasks ≡ Some (snapshot_text tasks)
  pub is : text ≡ request_text (asks.AddSnapshot client version (snapshot_text tasks)) host
  pub read : IsRequestAnswer text (Ok (asks.AddSnapshot client version (snapshot_text tasks)))
  pub back : snapshot_of (snapshot_text tasks) ≡ Some tasks

-- there is such a request, unless their text is too long
abbrev pub IsLetterOf : (client host version : List ℕ) → TasksValue → Option (List ℕ) → Type 0
IsLetterOf client host version tasks None = text_within tasks ≡ None
IsLetterOf client host version tasks (Some text) = StoresTasks client host version tasks text

-- if one is wanted, and the place is not at this base, there is one of this place, or its text is too long. Else there is none
abbrev pub IsWantedLetter : (client host : List ℕ) → (wanted : Bool) → (base : List ℕ) → Reached → Option (List ℕ) → Type 0
IsWantedLetter client host wanted base r letter =
    ((letter ≡ None) × ((wanted ≡ false) ⊎ (same_id r.at base ≡ true)))
    ⊎ ((wanted ≡ true) × (same_id r.at base ≡ false) × IsLetterOf client host r.at r.tasks letter)

-- there is one of this state, in which nothing is pending, or none
abbrev pub IsLetterFor : (client host : List ℕ) → State → Option (List ℕ) → Type 0
IsLetterFor client host state None = Unit {0}
IsLetterFor client host state (Some text) = (state.pending ≡ []) × StoresTasks client host state.base state.tasks text

-- the tasks after a sync may be sent: no false reply kept the base where it was, and their text is within its limit
pub record MayBeSent (honest : Type 0) (old new : State) : Type 0 where
  pub moved : honest ⊎ ¬ (new.base ≡ old.base)
  pub within : text_within new.tasks ≡ Some (snapshot_text new.tasks)

-- if a reply asked for a snapshot, and the tasks may be sent, it is so
abbrev pub IfWanted : {L : Type 0} → LinkModel L → (client host : List ℕ) → (old new : State) (first now : L) → Type 0 → Type 0
IfWanted m client host old new first now P = HearsThat m client host first now (λ hs. wanted_in hs ≡ true → MayBeSent (IsHonest m first client) old new → P)

-- if no reply asked for a snapshot, it is so
abbrev pub IfUnwanted : {L : Type 0} → LinkModel L → (client host : List ℕ) → (first now : L) → Type 0 → Type 0
IfUnwanted m client host first now P = HearsThat m client host first now (λ hs. wanted_in hs ≡ false → P)

-- the request with the snapshot that is to be sent after a sync
pub record HasLetter {L : Type 0} (m : LinkModel L) (client host : List ℕ) (old new : State) (first now : L) (letter : Option (List ℕ)) : Type 0 where
  pub letter_is : IsLetterFor client host new letter
  pub wanted : IfWanted m client host old new first now (¬ (letter ≡ None))
  pub unwanted : IfUnwanted m client host first now (letter ≡ None)

-- what a sync reports that is done
abbrev pub reported : Result Done SyncError → Result SyncReport SyncError
reported (Ok done) = Ok done.report
reported (Err e) = Err e

-- one exchange was begun to store a snapshot. Nothing is said of its reply
pub record OffersOne {L : Type 0} (m : LinkModel L) (client : List ℕ) (now last : L) (text : List ℕ) : Type 0 where
  pub kept : IsLinkKept m now last
  pub count : m.exchanges last ≡ min (m.exchanges now + 1) (2 ^ 64 - 1)
  pub on : IsHonest m now client → GrowsOn m now last client
  pub mine : IsHonest m now client → m.own last ≡ m.own now
  pub listed : IsTrue (m.tells_list now)
      → (m.list last ≡ m.list now) ⊎ ((reply : List ℕ) × (m.list last ≡ m.list now ++ record { request = text; reply = reply } ∷ []))

-- the tasks of a state were sent
pub record OffersState {L : Type 0} (m : LinkModel L) (client host : List ℕ) (state : State) (now last : L) : Type 0 where
  pub nothing : state.pending ≡ []
  pub text : List ℕ
  pub stores : StoresTasks client host state.base state.tasks text
  pub offers : OffersOne m client now last text

-- once a sync is done its tasks were sent, or nothing was. After a refusal nothing was
abbrev pub OffersAfter : {L : Type 0} → LinkModel L → (client host : List ℕ) → State → (now last : L) → Result SyncReport SyncError → Type 0
OffersAfter m client host state now last (Ok report) = (last ≡ now) ⊎ OffersState m client host state now last
OffersAfter m client host state now last (Err e) = last ≡ now
