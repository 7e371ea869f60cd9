-- What the server's answers say of the chain, over an honest link (TaskChampion book, "Sync Protocol").
use Rattle.std.specs.Prelude.{◌≡◌, ◌⊎◌, ℕ, ◌≤◌, IsTrue, List, [], ◌∷◌, ◌++◌, length, Result, Ok}
use Rattle.uuid.specs.Parts.{zero_bytes}
use Rattle.tw_protocol.specs.Chain.{Version, IsChain, IsBetween, Grows, latest}
use Rattle.tw_protocol.specs.Answer.{version, IsKnown}
use Rattle.tw_world.specs.Disk.{Rose}
use Rattle.tw_http.specs.Link.{LinkModel, IsHonest, Serves, MayServe}
use Rattle.tw_http.specs.Messages.{max_body, request_body}
use Rattle.tw_http.specs.Responses.{IsResponseAnswer}
use Rattle.tw_http.specs.Serving.{client_of, kind_of}
use Rattle.tw_http.specs.declared.message.Request.{Request}
use Rattle.tw_http.specs.declared.message.Request.TheVariants as asks
use Rattle.tw_http.specs.declared.message.Response.{Response}
use Rattle.tw_http.specs.declared.message.Response.TheVariants as replies
use Rattle.tw_http.specs.declared.message.HttpError.{HttpError}
use Rattle.tw_sync.specs.Replies.Heard.{Heard, heard}
use Rattle.tw_sync.specs.Ends.Refused.{IsBadReply, IsBadOfChain}
use Rattle.tw_sync.specs.declared.ask.ChildAnswer.{ChildAnswer}
use Rattle.tw_sync.specs.declared.ask.ChildAnswer.TheVariants.{Found, UpToDate, Gone}
use Rattle.tw_sync.specs.declared.ask.AddAnswer.{AddAnswer}
use Rattle.tw_sync.specs.declared.ask.AddAnswer.TheVariants.{Added, Conflict}
use Rattle.tw_sync.specs.declared.error.ReplyKind.{ReplyKind}
use Rattle.tw_sync.specs.declared.error.ReplyKind.TheVariants.{Status}
use Rattle.tw_sync.specs.declared.error.AskError.{AskError}
use Rattle.tw_sync.specs.declared.error.AskError.TheVariants as asking

-- what a link is stays, and its faults only rise
pub record IsLinkKept {L : Type 0} (m : LinkModel L) (old new : L) : Type 0 where
  pub faults : m.faults old ≤ m.faults new
  pub tells_list : m.tells_list new ≡ m.tells_list old
  pub tells_chain : m.tells_chain new ≡ m.tells_chain old
  pub client : m.client new ≡ m.client old
  pub honest : m.honest new ≡ m.honest old

-- over an honest link the chain is a chain, and has only grown
pub record GrowsOn {L : Type 0} (m : LinkModel L) (old new : L) (client : List ℕ) : Type 0 where
  pub honest : IsHonest m new client
  pub whole : IsChain (m.chain new)
  pub grows : Grows (m.chain old) (m.chain new)

-- the chain as it was when the server answered
pub record AnsweredAt {L : Type 0} (m : LinkModel L) (old new : L) (at : List Version) : Type 0 where
  pub before : Grows (m.chain old) at
  pub after : Grows at (m.chain new)

-- ---- one exchange

-- if the link tells its exchanges, one was added: this request, and its reply
abbrev pub ListsOne : {L : Type 0} → LinkModel L → (old new : L) → (request reply : List ℕ) → Type 0
ListsOne m old new request reply = IsTrue (m.tells_list old) → m.list new ≡ m.list old ++ record { request = request; reply = reply } ∷ []

-- if the link tells its exchanges, one was added at most: this request, and its reply
abbrev pub ListsAtMostOne : {L : Type 0} → LinkModel L → (old new : L) → (request : List ℕ) → Type 0
ListsAtMostOne m old new request =
    IsTrue (m.tells_list old) → (m.list new ≡ m.list old) ⊎ ((reply : List ℕ) × (m.list new ≡ m.list old ++ record { request = request; reply = reply } ∷ []))

-- over an honest link the reply is the server's, if it reads the request
abbrev pub ServesOn : {L : Type 0} → LinkModel L → (old new : L) → Request → (reply : List ℕ) → Type 0
ServesOn m old new request reply =
    IsHonest m old (client_of request) → length (request_body request) ≤ max_body → Serves (m.chain old) (m.chain new) (m.own old) (m.own new) request reply

-- over an honest link the server may have acted on the request, if it reads it
abbrev pub MayServeOn : {L : Type 0} → LinkModel L → (old new : L) → Request → Type 0
MayServeOn m old new request =
    IsHonest m old (client_of request) → length (request_body request) ≤ max_body → MayServe (m.chain old) (m.chain new) (m.own old) (m.own new) request

-- ---- get-child-version

-- what the answer says of the chain that it was given at
abbrev pub ChildSays : (at : List Version) → (parent : List ℕ) → ChildAnswer → Type 0
ChildSays at parent (Found id segment) = IsBetween at parent id (version id parent segment ∷ [])
ChildSays at parent UpToDate = latest at ≡ parent
ChildSays at parent Gone = ¬ (IsKnown zero_bytes at parent)

-- an answer to get-child-version
pub record IsChildAnswer {L : Type 0} (m : LinkModel L) (old new : L) (parent : List ℕ) (answer : ChildAnswer) : Type 0 where
  pub at : List Version
  pub given : AnsweredAt m old new at
  pub says : ChildSays at parent answer

-- the response that an answer is made of
abbrev pub child_response : (parent : List ℕ) → ChildAnswer → Response
child_response parent (Found id segment) = replies.Child id parent segment
child_response parent UpToDate = replies.UpToDate
child_response parent Gone = replies.Gone

abbrev pub child_heard : (client parent : List ℕ) → ChildAnswer → Heard
child_heard client parent answer = heard (asks.Child client parent) (Ok (child_response parent answer))

-- ---- add-version

-- the version was added after the parent, which was the latest
pub record IsAddedOne {L : Type 0} (m : LinkModel L) (old new : L) (v : Version) : Type 0 where
  pub at : List Version
  pub before : Grows (m.chain old) at
  pub last : latest at ≡ v.parent
  pub after : Grows (at ++ v ∷ []) (m.chain new)
  pub mine : m.own new ≡ m.own old ++ v ∷ []

-- the parent was not the latest, which the answer names
pub record IsRefusedOne {L : Type 0} (m : LinkModel L) (old new : L) (parent last : List ℕ) : Type 0 where
  pub at : List Version
  pub given : AnsweredAt m old new at
  pub is_last : latest at ≡ last
  pub other : ¬ (last ≡ parent)
  pub mine : m.own new ≡ m.own old

-- an answer to add-version
abbrev pub IsAddAnswer : {L : Type 0} → LinkModel L → (old new : L) → (parent segment : List ℕ) → AddAnswer → Type 0
IsAddAnswer m old new parent segment (Added id wanted) = IsAddedOne m old new (version id parent segment)
IsAddAnswer m old new parent segment (Conflict last) = IsRefusedOne m old new parent last

-- the response that an answer is made of
abbrev pub add_response : AddAnswer → Response
add_response (Added id wanted) = replies.Added id wanted
add_response (Conflict last) = replies.Conflict last

abbrev pub add_heard : (client parent segment : List ℕ) → AddAnswer → Heard
add_heard client parent segment answer = heard (asks.Add client parent segment) (Ok (add_response answer))

-- ---- refusals

-- bytes are read as a reply to a request that no sync goes on from
abbrev pub ReadsBadly : Request → List ℕ → ReplyKind → Type 0
ReadsBadly asked bytes kind = (reply : Result Response HttpError) × IsResponseAnswer (kind_of asked) bytes reply × IsBadReply kind (heard asked reply)

-- they are, unless memory ran out
abbrev pub IsBadlyAnswered : Request → List ℕ → AskError → Type 0
IsBadlyAnswered asked bytes (asking.Reply kind) = ReadsBadly asked bytes kind
IsBadlyAnswered asked bytes asking.Memory = Unit {0}
IsBadlyAnswered asked bytes asking.Link = ⊥

-- what a refused question heard: a bad reply, or none that it read
abbrev pub HeardRefusedAsk : List Heard → AskError → Type 0
HeardRefusedAsk hs (asking.Reply kind) = (h : Heard) × (hs ≡ h ∷ []) × IsBadOfChain kind h
HeardRefusedAsk hs e = hs ≡ []

-- a response whose status answers a question
abbrev pub HasStatus : Response → Type 0
HasStatus replies.Bad = ⊥
HasStatus replies.TooLong = ⊥
HasStatus replies.Taken = ⊥
HasStatus (replies.Added id wanted) = Unit {0}
HasStatus (replies.Conflict last) = Unit {0}
HasStatus (replies.Child id parent segment) = Unit {0}
HasStatus replies.UpToDate = Unit {0}
HasStatus replies.Gone = Unit {0}
HasStatus replies.Stored = Unit {0}
HasStatus (replies.Snapshot version bytes) = Unit {0}

-- no reply came: the link failed, or memory ran out
abbrev pub NoReply : AskError → Type 0
NoReply e = (e ≡ asking.Link) ⊎ (e ≡ asking.Memory)

-- why a question is refused
abbrev pub AskRefused : {L : Type 0} → LinkModel L → (old new : L) → AskError → Type 0
AskRefused m old new asking.Link = Rose (m.faults old) (m.faults new)
AskRefused m old new (asking.Reply kind) = Unit {0}
AskRefused m old new asking.Memory = Unit {0}

-- a refused add-version has added nothing, or its version if the link failed or memory ran out;
-- over an honest link the one bad reply is that the drawn id is taken
abbrev pub AddRefused : {L : Type 0} → LinkModel L → (old new : L) → (parent segment : List ℕ) → AskError → Type 0
AddRefused m old new parent segment e =
    (NoReply e × ((m.own new ≡ m.own old) ⊎ ((id : List ℕ) × IsAddedOne m old new (version id parent segment))))
    ⊎ ((e ≡ asking.Reply (Status 500)) × (m.own new ≡ m.own old))
