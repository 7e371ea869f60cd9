-- The versions and snapshots that the server of a link has, and what a request makes of them.
use Rattle.std.specs.Prelude.{◌≡◌, ◌⊎◌, ℕ, ◌+◌, ◌%◌, ◌^◌, ◌&&◌, Bool, true, false, if◌then◌else◌, List, [], ◌∷◌, ◌++◌, map, take}
use Rattle.std.specs.Prelude.{Result, Ok, Err}
use Rattle.tw_protocol.specs.Chain.{Version, same_id, latest}
use Rattle.tw_http.specs.declared.message.Request.{Request}
use Rattle.tw_http.specs.declared.message.Request.TheVariants.{Add, Child, AddSnapshot, Snapshot}
use Rattle.tw_http.specs.declared.message.Response.{Response}
use Rattle.tw_http.specs.declared.message.Response.TheVariants as responses
use Rattle.tw_http.specs.declared.message.HttpError.{HttpError}
use Rattle.tw_http.specs.Messages.{response_text}
use Rattle.tw_http.specs.Requests.{IsRequestAnswer}
use Rattle.tw_http.specs.Serving.{client_of, demand_of, refusal_of}
use Rattle.tw_records.specs.Log.{Accepted, ClientSnapshot, Log, chain_of}
use Rattle.tw_records.specs.Demands.{added, stored}
use Rattle.tw_server.specs.Log.{response_at}
use Rattle.tw_server.specs.Server.{drawn_id, is_accepted}
use Rattle.tw_server.specs.declared.memory.server.MemoryVersion.{MemoryVersion}
use Rattle.tw_server.specs.declared.memory.server.MemorySnapshot.{MemorySnapshot}

abbrev pub accepted_of : MemoryVersion → Accepted
accepted_of v = record { client = v.client; version = record { id = v.id; parent = v.parent; segment = v.segment } }

abbrev pub snapshot_of : MemorySnapshot → ClientSnapshot
snapshot_of s = record { client = s.client; snapshot = record { version = s.version; bytes = s.bytes } }

abbrev pub log_of : List MemoryVersion → List MemorySnapshot → Log
log_of versions snapshots = record { versions = map accepted_of versions; snapshots = map snapshot_of snapshots }

-- an accepted version as it is stored; `own` is that an exchange of the link added it
abbrev pub stored_as : Bool → Accepted → MemoryVersion
stored_as own a = record { client = a.client; id = a.version.id; parent = a.version.parent; segment = a.version.segment; own = own }

-- a snapshot as it is stored
abbrev pub snapshot_as : ClientSnapshot → MemorySnapshot
snapshot_as t = record { client = t.client; version = t.snapshot.version; bytes = t.snapshot.bytes }

-- the versions of a client that exchanges of the link added
abbrev pub own_of : List ℕ → List MemoryVersion → List Version
own_of client [] = []
own_of client (v ∷ vs) = if same_id v.client client && v.own then (accepted_of v).version ∷ own_of client vs else own_of client vs

-- what the server holds: its versions and snapshots, and what ids are drawn from
pub record Holding : Type 0 where
  pub versions : List MemoryVersion
  pub snapshots : List MemorySnapshot
  pub start : ℕ
  pub step : ℕ

abbrev pub log_in : Holding → Log
log_in h = log_of h.versions h.snapshots

-- the versions and the snapshots that a request adds
abbrev pub added_by : Holding → Request → List Accepted
added_by h request = added (log_in h) (client_of request) (demand_of request) (drawn_id h.start)

abbrev pub stored_for : Holding → Request → List ClientSnapshot
stored_for h request = stored (log_in h) (client_of request) (demand_of request)

-- the holding after a request
abbrev pub after_request : Holding → Request → Bool → Holding
after_request h request own = record {
  versions = h.versions ++ map (stored_as own) (added_by h request);
  snapshots = h.snapshots ++ map snapshot_as (stored_for h request);
  start = if is_accepted (log_in h) request then (h.start + h.step) % 2 ^ 128 else h.start;
  step = h.step;
}

-- others add this segment after the client's latest version
abbrev pub after_other : List ℕ → Holding → List ℕ → Holding
after_other client h segment = after_request h (Add client (latest (chain_of client (log_in h).versions)) segment) false

abbrev pub after_others : List ℕ → Holding → List (List ℕ) → Holding
after_others client h [] = h
after_others client h (s ∷ ss) = after_others client (after_other client h s) ss

-- others added the first of these segments
abbrev pub AfterSome : List ℕ → (old new : Holding) → List (List ℕ) → Type 0
AfterSome client old new segments = (k : ℕ) × (new ≡ after_others client old (take k segments))

-- the version that is stored of the answer to a request
abbrev pub stored_add : List ℕ → Request → Bool → List MemoryVersion
stored_add id (Add client parent segment) own = record { client = client; id = id; parent = parent; segment = segment; own = own } ∷ []
stored_add id (Child client parent) own = []
stored_add id (AddSnapshot client version bytes) own = []
stored_add id (Snapshot client) own = []

abbrev pub version_by : Response → Request → Bool → List MemoryVersion
version_by (responses.Added id wanted) request own = stored_add id request own
version_by (responses.Conflict latest) request own = []
version_by (responses.Child id parent segment) request own = []
version_by responses.UpToDate request own = []
version_by responses.Gone request own = []
version_by responses.Bad request own = []
version_by responses.TooLong request own = []
version_by responses.Taken request own = []
version_by responses.Stored request own = []
version_by (responses.Snapshot version bytes) request own = []

-- the snapshot
abbrev pub sent_by : Request → List MemorySnapshot
sent_by (Add client parent segment) = []
sent_by (Child client parent) = []
sent_by (AddSnapshot client version bytes) = record { client = client; version = version; bytes = bytes } ∷ []
sent_by (Snapshot client) = []

abbrev pub snapshot_by : Response → Request → List MemorySnapshot
snapshot_by (responses.Added id wanted) request = []
snapshot_by (responses.Conflict latest) request = []
snapshot_by (responses.Child id parent segment) request = []
snapshot_by responses.UpToDate request = []
snapshot_by responses.Gone request = []
snapshot_by responses.Bad request = []
snapshot_by responses.TooLong request = []
snapshot_by responses.Taken request = []
snapshot_by responses.Stored request = sent_by request
snapshot_by (responses.Snapshot version bytes) request = []

-- the bytes of a request acted: a request by the protocol, and bytes that are none not at all
pub record Acts (old new : Holding) (request : List ℕ) : Type 0 where
  pub asked : (asked : Request) → IsRequestAnswer request (Ok asked) → new ≡ after_request old asked true
  pub none : (error : HttpError) → IsRequestAnswer request (Err error) → new ≡ old
  pub read : (answer : Result Request HttpError) × IsRequestAnswer request answer

-- this is the text of the reply to them
pub record IsReply (old : Holding) (request reply : List ℕ) : Type 0 where
  pub asked : (asked : Request) → IsRequestAnswer request (Ok asked) → reply ≡ response_text (response_at (log_in old) asked (drawn_id old.start))
  pub none : (error : HttpError) → IsRequestAnswer request (Err error) → reply ≡ response_text (refusal_of error)

-- they acted, or nothing did
abbrev pub MayAct : (old new : Holding) (request : List ℕ) → Type 0
MayAct old new request = (new ≡ old) ⊎ Acts old new request
