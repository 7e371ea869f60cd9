-- What a link means, and what an exchange does to it.
use Rattle.std.specs.Prelude.{◌≡◌, ◌⊎◌, ℕ, ◌+◌, ◌-◌, ◌^◌, ◌≤◌, min, Bool, true, false, IsTrue, IfSome, Result, Ok, Err, OnOk}
use Rattle.std.specs.Prelude.{List, [], ◌∷◌, ◌++◌, length, drop, All, Contains}
use Rattle.uuid.specs.Parts.{zero_bytes}
use Rattle.tw_protocol.specs.Chain.{Version, IsUuid, IsChain, Grows, same_id, has_id}
use Rattle.tw_protocol.specs.Snapshots.{Account}
use Rattle.tw_http.specs.declared.link.LinkError.{LinkError}
use Rattle.tw_http.specs.declared.message.Request.{Request}
use Rattle.tw_http.specs.declared.message.HttpError.{HttpError}
use Rattle.tw_http.specs.Messages.{response_text, max_body}
use Rattle.tw_http.specs.Requests.{IsRequestAnswer}
use Rattle.tw_http.specs.Serving.{client_of, account_after, response_to, refusal_of, SegmentsFit}

-- a request and the reply to it
pub record Exchange : Type 0 where
  pub request : List ℕ
  pub reply : List ℕ

-- what each object that is a link means
pub record LinkModel (L : Type 0) : Type 1 where
  -- how often it has failed
  pub faults : L → ℕ
  -- how many exchanges it has begun
  pub exchanges : L → ℕ
  -- does it tell its list of exchanges?
  pub tells_list : L → Bool
  -- the exchanges that were answered
  pub list : L → List Exchange
  -- does it tell the chain of a client?
  pub tells_chain : L → Bool
  -- the client whose chain it tells
  pub client : L → List ℕ
  -- the chain
  pub chain : L → List Version
  -- the versions of it that exchanges of this link added, in their order
  pub own : L → List Version
  -- is every reply the server's?
  pub honest : L → Bool

-- The server answers a request at an account: others have added to its chain before, may add more after what it adds, and may have stored any sound snapshot.
pub record Serves (old new own own_now : List Version) (request : Request) (reply : List ℕ) : Type 0 where
  pub at : Account
  pub stored : IfSome at.stored (λ s. (has_id s.version at.chain ≡ true) × (length s.bytes ≤ max_body))
  pub id : List ℕ
  pub uuid : IsUuid id
  pub real : same_id id zero_bytes ≡ false
  pub before : Grows old at.chain
  pub after : Grows (account_after at request id).chain new
  pub mine : own_now ≡ own ++ drop (length at.chain) (account_after at request id).chain
  pub says : reply ≡ response_text (response_to at request id)

-- others may have added to the chain, and this link has not
pub record OthersAdd (old new own own_now : List Version) : Type 0 where
  pub grows : Grows old new
  pub mine : own_now ≡ own

-- others may have added to the chain that a link tells, and the link has not
abbrev pub OnlyOthersAdd : {L : Type 0} → LinkModel L → (old new : L) → Type 0
OnlyOthersAdd m old new = OthersAdd (m.chain old) (m.chain new) (m.own old) (m.own new)

-- the request acted, or it did not
abbrev pub MayServe : (old new own own_now : List Version) (request : Request) → Type 0
MayServe old new own own_now request = OthersAdd old new own own_now ⊎ ((reply : List ℕ) × Serves old new own own_now request reply)

-- what an exchange does to the chain that is told, if the request is of its client
abbrev pub IsHonestStep : {L : Type 0} → LinkModel L → (old new : L) (reply : List ℕ) → Result (Unit {0}) LinkError → Request → Type 0
IsHonestStep m old new reply (Ok u) asked = Serves (m.chain old) (m.chain new) (m.own old) (m.own new) asked reply
IsHonestStep m old new reply (Err e) asked = MayServe (m.chain old) (m.chain new) (m.own old) (m.own new) asked

-- the list after an exchange
abbrev pub listed : List Exchange → (request reply : List ℕ) → Result (Unit {0}) LinkError → List Exchange
listed list request reply (Ok u) = list ++ record { request = request; reply = reply } ∷ []
listed list request reply (Err e) = list

-- it is honest, and tells the chain of some client
pub record TellsTruly {L : Type 0} (m : LinkModel L) (link : L) : Type 0 where
  pub honest : IsTrue (m.honest link)
  pub tells : IsTrue (m.tells_chain link)

-- it is honest, and tells the chain of this client
pub record IsHonest {L : Type 0} (m : LinkModel L) (link : L) (client : List ℕ) : Type 0 where
  pub honest : IsTrue (m.honest link)
  pub tells : IsTrue (m.tells_chain link)
  pub of_client : m.client link ≡ client

-- what an exchange changes, and what it leaves
pub record IsExchange {L : Type 0} (m : LinkModel L) (old new : L) (request reply : List ℕ) (result : Result (Unit {0}) LinkError) : Type 0 where
  pub faults : m.faults old ≤ m.faults new
  pub count : m.exchanges new ≡ min (m.exchanges old + 1) (2 ^ 64 - 1)
  pub tells_list : m.tells_list new ≡ m.tells_list old
  pub tells_chain : m.tells_chain new ≡ m.tells_chain old
  pub client : m.client new ≡ m.client old
  pub honest : m.honest new ≡ m.honest old
  pub list : IsTrue (m.tells_list old) → m.list new ≡ listed (m.list old) request reply result

-- a reply that came is the one to bytes that are no request
abbrev pub RefusesBy : HttpError → (reply : List ℕ) → Result (Unit {0}) LinkError → Type 0
RefusesBy error reply result = OnOk result (reply ≡ response_text (refusal_of error))

-- what an exchange over an honest link that tells a chain does to it
pub record IsAnswered {L : Type 0} (m : LinkModel L) (old new : L) (request reply : List ℕ) (result : Result (Unit {0}) LinkError) : Type 0 where
  -- a request of the client whose chain is told
  pub served : (asked : Request) → IsHonest m old (client_of asked) → IsRequestAnswer request (Ok asked) → IsHonestStep m old new reply result asked
  -- a request of another client
  pub elsewhere : (asked : Request) → TellsTruly m old → ¬ (m.client old ≡ client_of asked) → IsRequestAnswer request (Ok asked) → OnlyOthersAdd m old new
  -- bytes that are no request
  pub refused : (error : HttpError) → TellsTruly m old → IsRequestAnswer request (Err error) → OnlyOthersAdd m old new × RefusesBy error reply result

-- what is told truly is a chain whose segments fit their messages
pub record IsServedChain (chain : List Version) : Type 0 where
  pub whole : IsChain chain
  pub fit : SegmentsFit chain

abbrev pub IsChainOf : {L : Type 0} → LinkModel L → L → Type 0
IsChainOf m link = TellsTruly m link → IsServedChain (m.chain link)

-- no own version is forgotten
abbrev pub OwnAreOfChain : {L : Type 0} → LinkModel L → L → Type 0
OwnAreOfChain m link = IsTrue (m.tells_chain link) → All (λ v. Contains (m.chain link) v) (m.own link)
