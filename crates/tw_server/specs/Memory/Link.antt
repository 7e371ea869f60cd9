-- What a link in memory means.
use Rattle.std.specs.Prelude.{◌≡◌, ◌⊎◌, ℕ, ◌≤◌, ◌&&◌, Bool, true, false, if◌then◌else◌, List, [], ◌∷◌, length, map, All, Contains, Result, Ok, Err}
use Rattle.std.proofs.lemmas.List.Elements.{All-nil, All-cons, All-head, All-tail, All-weaker, Contains-append_left, Contains-append_right, Contains-push}
use Rattle.tw_protocol.specs.Chain.{Version, same_id}
use Rattle.tw_http.specs.Link.{LinkModel, IsChainOf, OwnAreOfChain}
use Rattle.tw_http.specs.declared.link.LinkError.{LinkError}
use Rattle.tw_http.specs.declared.link.LinkError.TheVariants.{Failed, Memory}
use Rattle.tw_http.specs.Messages.{max_body}
use Rattle.tw_http.specs.Serving.{SegmentsFit}
use Rattle.tw_records.specs.Log.{chain_of}
use Rattle.tw_server.specs.Memory.Holding.{Holding, accepted_of, own_of, after_others, Acts, IsReply}
use Rattle.tw_server.specs.Memory.Exchange.{exchanges_of}
use Rattle.tw_server.specs.Memory.Server.{holding_of, nothing_held}
use Rattle.tw_server.specs.Memory.Script.{fate_at, others_at}
use Rattle.tw_server.specs.declared.memory.server.MemoryVersion.{MemoryVersion}
use Rattle.tw_server.specs.declared.memory.script.Fate.{Fate}
use Rattle.tw_server.specs.declared.memory.script.Fate.TheVariants.{Deliver, LoseRequest, LoseReply}
use Rattle.tw_server.specs.declared.memory.script.LinkStep.{LinkStep}
use Rattle.tw_server.specs.declared.memory.link.MemoryLink.{MemoryLink}
use Rattle.tw_world.specs.declared.ids.IdWords.{IdWords}

-- the chain of its client, and the versions of it that its exchanges added
abbrev pub link_chain : MemoryLink → List Version
link_chain l = chain_of l.client (map accepted_of l.server.versions.items)

abbrev pub link_own : MemoryLink → List Version
link_own l = own_of l.client l.server.versions.items

-- how many exchanges it has begun
abbrev pub link_exchanges : MemoryLink → ℕ
link_exchanges l = l.exchanges

-- what happens at its exchanges, by their numbers
abbrev pub link_script : MemoryLink → List LinkStep
link_script l = l.script.items

-- it is honest, and tells all that it knows
abbrev pub memory_link_model : LinkModel MemoryLink
memory_link_model = record {
  faults = λ l. l.faults;
  exchanges = link_exchanges;
  tells_list = λ l. true;
  list = λ l. exchanges_of l.list.items;
  tells_chain = λ l. true;
  client = λ l. l.client;
  chain = link_chain;
  own = link_own;
  honest = λ l. true;
}

-- a new link, whose server has no versions
pub record IsNewLink (client : List ℕ) (ids : IdWords) (script : List LinkStep) (link : MemoryLink) : Type 0 where
  pub of_client : link.client ≡ client
  pub by_script : link_script link ≡ script
  pub nothing : holding_of link.server ≡ nothing_held ids.start ids.step
  pub no_list : exchanges_of link.list.items ≡ []
  pub none_begun : link.exchanges ≡ 0
  pub no_faults : link.faults ≡ 0

-- nobody else adds to its client's chain, or has: no script says so, and its exchanges added each version
pub record IsAlone (link : MemoryLink) : Type 0 where
  pub script : length (link_script link) ≡ 0
  pub own : link_own link ≡ link_chain link

-- an exchange leaves the script, and nobody else adds if the script is empty
pub record KeepsScript (old new : MemoryLink) : Type 0 where
  pub same : link_script new ≡ link_script old
  pub alone : IsAlone old → IsAlone new

-- what the server holds when the request arrives
abbrev pub before_request : MemoryLink → Holding
before_request l = after_others l.client (holding_of l.server) (others_at (link_script l) l.exchanges)

-- the request acted, and this is the reply to it
abbrev pub ActsAndReplies : (old new : Holding) (request reply : List ℕ) → Type 0
ActsAndReplies old new request reply = Acts old new request × IsReply old request reply

-- what becomes of the next exchange
abbrev pub next_fate : MemoryLink → Fate
next_fate l = fate_at (link_script l) l.exchanges

-- The script says what became of the exchange: others added their segments first, and then the request acted or was lost.
abbrev pub IsScripted : (old new : MemoryLink) (request reply : List ℕ) → Result (Unit {0}) LinkError → Type 0
IsScripted old new request reply (Ok u) = (next_fate old ≡ Deliver) × ActsAndReplies (before_request old) (holding_of new.server) request reply
IsScripted old new request reply (Err Failed) =
    ((next_fate old ≡ LoseRequest) × (holding_of new.server ≡ before_request old))
    ⊎ ((next_fate old ≡ LoseReply) × Acts (before_request old) (holding_of new.server) request)
IsScripted old new request reply (Err Memory) = new.faults ≡ old.faults

-- ---- the laws of a link

abbrev pub Fits : Version → Type 0
Fits v = length v.segment ≤ max_body

chain_fits : (t : Bool) (v : Version) (vs : List Version) → Fits v → SegmentsFit vs → SegmentsFit (if t then v ∷ vs else vs)
chain_fits true v vs fit rest = All-cons Fits v vs fit rest
chain_fits false v vs fit rest = rest

abbrev pub StoredFits : MemoryVersion → Type 0
StoredFits v = length v.segment ≤ max_body

segments_fit : (client : List ℕ) (versions : List MemoryVersion) → All StoredFits versions → SegmentsFit (chain_of client (map accepted_of versions))
segments_fit client [] all = All-nil Fits
segments_fit client (v ∷ vs) all =
    chain_fits (same_id v.client client) (accepted_of v).version (chain_of client (map accepted_of vs)) (All-head StoredFits v vs all)
    (segments_fit client vs (All-tail StoredFits v vs all))

pub memory_tells_chain : (link : MemoryLink) → IsChainOf memory_link_model link
memory_tells_chain link truly = record {
  whole = link.server.sound.chains link.client;
  fit = segments_fit link.client link.server.versions.items link.server.fit;
}

-- these versions are of the chain
abbrev pub AreWithin : (chain own : List Version) → Type 0
AreWithin chain own = All (λ w. Contains chain w) own

longer : (v : Version) (chain own : List Version) → AreWithin chain own → AreWithin (v ∷ chain) own
longer v chain own all =
    All-weaker (λ w. Contains chain w) (λ w. Contains (v ∷ chain) w) (λ w there. Contains-append_right (v ∷ []) chain w there) own all

first_within : (v : Version) (chain : List Version) → Contains (v ∷ chain) v
first_within v chain = Contains-append_left (v ∷ []) chain v (Contains-push [] v)

own_within : (t u : Bool) (v : Version) (own chain : List Version) → AreWithin chain own
    → AreWithin (if t then v ∷ chain else chain) (if t && u then v ∷ own else own)
own_within true true v own chain all = All-cons (λ w. Contains (v ∷ chain) w) v own (first_within v chain) (longer v chain own all)
own_within true false v own chain all = longer v chain own all
own_within false u v own chain all = all

own_stand : (client : List ℕ) (versions : List MemoryVersion) → AreWithin (chain_of client (map accepted_of versions)) (own_of client versions)
own_stand client [] = All-nil (λ w. Contains [] w)
own_stand client (v ∷ vs) =
    own_within (same_id v.client client) v.own (accepted_of v).version (own_of client vs) (chain_of client (map accepted_of vs)) (own_stand client vs)

pub memory_own_stand : (link : MemoryLink) → OwnAreOfChain memory_link_model link
memory_own_stand link tells = own_stand link.client link.server.versions.items
