-- What a server in memory holds, after a request and after those of others.
use Rattle.std.proofs.Common.{◌≡◌, ◌∙◌, inr, ℕ, ◌≤◌, Bool, true, false, cond, Result, Ok, Err, Option, Some, None, IfSome, List, [], ◌∷◌, ◌++◌, length, map, refl, sym, ap, subst}
use Rattle.std.specs.Prelude.{All}
use Rattle.std.proofs.lemmas.List.{map-append}
use Rattle.std.proofs.lemmas.List.Elements.{All-nil, All-cons, All-append, All-head, All-tail}
use Rattle.tw_world.specs.Memory.{memory_model}
use Rattle.tw_world.specs.declared.memory.MemoryDisk.{MemoryDisk}
use Rattle.tw_journal.specs.Record.{IsTail}
use Rattle.tw_journal.proofs.Unique.{one_records}
use Rattle.tw_protocol.specs.Chain.{Version, latest, has_id, same_id}
use Rattle.tw_protocol.specs.Answer.{Finding, version, accepts, child_behind}
use Rattle.tw_protocol.specs.Answer.Finding.{Added, Conflict, Found, UpToDate, Gone, Taken}
use Rattle.tw_protocol.specs.Snapshots.{Snapshot as Stored_snapshot, Account, Reply, Stored, Refused, is_welcome, is_wanted, offered}
use Rattle.uuid.specs.Parts.{zero_bytes}
use Rattle.tw_http.specs.declared.message.Request.{Request}
use Rattle.tw_http.specs.declared.message.Request.TheVariants.{Add, Child, AddSnapshot, Snapshot}
use Rattle.tw_http.specs.Messages.{max_body, request_body}
use Rattle.tw_http.specs.Serving.{client_of, demand_of, says, response_of, account_after}
use Rattle.tw_records.specs.Log.{Accepted, ClientSnapshot, Log, accepted_for, chain_of, stored_from, account_of}
use Rattle.tw_records.specs.Demands.{added, stored}
use Rattle.tw_records.specs.Reading.{nothing_read, read_from}
use Rattle.tw_server.specs.Log.{log_after, response_at}
use Rattle.tw_server.specs.Opening.{IsOpenedOn}
use Rattle.tw_server.specs.Server.{magic, drawn_id, IsServerOn}
use Rattle.tw_server.specs.declared.server.Server.{Server}
use Rattle.tw_server.specs.declared.memory.server.MemoryVersion.{MemoryVersion}
use Rattle.tw_server.specs.declared.memory.server.MemorySnapshot.{MemorySnapshot}
use Rattle.tw_server.specs.Memory.Holding.{Holding, accepted_of, snapshot_of, log_of, log_in, stored_as, snapshot_as, after_request, version_by, snapshot_by}
use Rattle.tw_server.proofs.LogLaws.{wanted_after}

-- ---- what is stored is what was added

accepted-stored : (own : Bool) (more : List Accepted) → map accepted_of (map (stored_as own) more) ≡ more
accepted-stored own [] = refl
accepted-stored own (a ∷ more) = ap (λ rest. a ∷ rest) (accepted-stored own more)

pub accepted-more : (own : Bool) (versions : List MemoryVersion) (more : List Accepted) → map accepted_of (versions ++ map (stored_as own) more) ≡ map accepted_of versions ++ more
accepted-more own versions more = map-append accepted_of versions (map (stored_as own) more) ∙ ap (λ rest. map accepted_of versions ++ rest) (accepted-stored own more)

snapshots-stored : (more : List ClientSnapshot) → map snapshot_of (map snapshot_as more) ≡ more
snapshots-stored [] = refl
snapshots-stored (t ∷ more) = ap (λ rest. t ∷ rest) (snapshots-stored more)

pub snapshots-more : (snapshots : List MemorySnapshot) (more : List ClientSnapshot) → map snapshot_of (snapshots ++ map snapshot_as more) ≡ map snapshot_of snapshots ++ more
snapshots-more snapshots more = map-append snapshot_of snapshots (map snapshot_as more) ∙ ap (λ rest. map snapshot_of snapshots ++ rest) (snapshots-stored more)

pub logs_same : {versions now : List MemoryVersion} {snapshots then : List MemorySnapshot} → now ≡ versions → then ≡ snapshots → log_of versions snapshots ≡ log_of now then
logs_same e f = λ i. log_of (sym e i) (sym f i)

-- the log of what is stored, with more
pub log_of-more : (own : Bool) (versions : List MemoryVersion) (snapshots : List MemorySnapshot) (log : Log) (request : Request) (id : List ℕ) → log ≡ log_of versions snapshots
    → log_of (versions ++ map (stored_as own) (added log (client_of request) (demand_of request) id)) (snapshots ++ map snapshot_as (stored log (client_of request) (demand_of request))) ≡ log_after log request id
log_of-more own versions snapshots log request id is =
    (λ i. record {
      versions = accepted-more own versions (added log (client_of request) (demand_of request) id) i;
      snapshots = snapshots-more snapshots (stored log (client_of request) (demand_of request)) i;
    })
    ∙ (λ i. record { versions = (sym is i).versions ++ added log (client_of request) (demand_of request) id; snapshots = (sym is i).snapshots ++ stored log (client_of request) (demand_of request) })

pub log_in-after : (h : Holding) (request : Request) (own : Bool) → log_in (after_request h request own) ≡ log_after (log_in h) request (drawn_id h.start)
log_in-after h request own = log_of-more own h.versions h.snapshots (log_in h) request (drawn_id h.start) refl

module _ (client parent segment id : List ℕ) (w own : Bool) (chain : List Version) where
  add_stored : (t u : Bool) → version_by (says (cond {A = List Version × Finding} t (cond u ([], Taken) (version id parent segment ∷ [], Added id)) ([], Conflict (latest chain))).1 w) (Add client parent segment) own
      ≡ map (stored_as own) (map (accepted_for client) (cond {A = List Version × Finding} t (cond u ([], Taken) (version id parent segment ∷ [], Added id)) ([], Conflict (latest chain))).0)
  add_stored true true = refl
  add_stored true false = refl
  add_stored false u = refl

  add_stores_none : (t u : Bool) → snapshot_by (says (cond {A = List Version × Finding} t (cond u ([], Taken) (version id parent segment ∷ [], Added id)) ([], Conflict (latest chain))).1 w) (Add client parent segment) ≡ []
  add_stores_none true true = refl
  add_stores_none true false = refl
  add_stores_none false u = refl

child_stored : (t : Finding) (w : Bool) (client parent : List ℕ) (own : Bool) → version_by (says t w) (Child client parent) own ≡ []
child_stored (Added id) w client parent own = refl
child_stored (Conflict id) w client parent own = refl
child_stored (Found v) w client parent own = refl
child_stored UpToDate w client parent own = refl
child_stored Gone w client parent own = refl
child_stored Taken w client parent own = refl

child_stores_none : (t : Finding) (w : Bool) (client parent : List ℕ) → snapshot_by (says t w) (Child client parent) ≡ []
child_stores_none (Added id) w client parent = refl
child_stores_none (Conflict id) w client parent = refl
child_stores_none (Found v) w client parent = refl
child_stores_none UpToDate w client parent = refl
child_stores_none Gone w client parent = refl
child_stores_none Taken w client parent = refl

module _ (log : Log) (client v bytes : List ℕ) where
  abbrev told : Bool → Reply
  told t = (cond {A = Account × Reply} t (record { chain = chain_of client log.versions; stored = Some (record { version = v; bytes = bytes }) }, Stored) (account_of client log, Refused)).1

  store_adds_none : (t own : Bool) → version_by (response_of (told t)) (AddSnapshot client v bytes) own ≡ []
  store_adds_none true own = refl
  store_adds_none false own = refl

  store_stored : (t : Bool) → snapshot_by (response_of (told t)) (AddSnapshot client v bytes)
      ≡ map snapshot_as (cond t (record { client = client; snapshot = record { version = v; bytes = bytes } } ∷ []) [])
  store_stored true = refl
  store_stored false = refl

fetch_adds_none : (o : Option Stored_snapshot) (client : List ℕ) (own : Bool) → version_by (response_of (offered o)) (Snapshot client) own ≡ []
fetch_adds_none None client own = refl
fetch_adds_none (Some s) client own = refl

fetch_stores_none : (o : Option Stored_snapshot) (client : List ℕ) → snapshot_by (response_of (offered o)) (Snapshot client) ≡ []
fetch_stores_none None client = refl
fetch_stores_none (Some s) client = refl

pub version_stored : (log : Log) (request : Request) (id : List ℕ) (own : Bool) → version_by (response_at log request id) request own ≡ map (stored_as own) (added log (client_of request) (demand_of request) id)
version_stored log (Add client parent segment) id own =
    add_stored client parent segment id (wanted_after log client parent segment id) own (chain_of client log.versions) (accepts (chain_of client log.versions) parent) (has_id id (chain_of client log.versions))
version_stored log (Child client parent) id own = child_stored (child_behind parent zero_bytes (chain_of client log.versions)) (is_wanted (account_after (account_of client log) (Child client parent) id)) client parent own
version_stored log (AddSnapshot client v bytes) id own = store_adds_none log client v bytes (is_welcome (account_of client log) v) own
version_stored log (Snapshot client) id own = fetch_adds_none (account_of client log).stored client own

pub snapshot_stored : (log : Log) (request : Request) (id : List ℕ) → snapshot_by (response_at log request id) request ≡ map snapshot_as (stored log (client_of request) (demand_of request))
snapshot_stored log (Add client parent segment) id =
    add_stores_none client parent segment id (wanted_after log client parent segment id) true (chain_of client log.versions) (accepts (chain_of client log.versions) parent) (has_id id (chain_of client log.versions))
snapshot_stored log (Child client parent) id = child_stores_none (child_behind parent zero_bytes (chain_of client log.versions)) (is_wanted (account_after (account_of client log) (Child client parent) id)) client parent
snapshot_stored log (AddSnapshot client v bytes) id = store_stored log client v bytes (is_welcome (account_of client log) v)
snapshot_stored log (Snapshot client) id = fetch_stores_none (account_of client log).stored client

-- ---- segments and snapshots

abbrev pub Fits : MemoryVersion → Type 0
Fits v = length v.segment ≤ max_body

abbrev pub StoredFits : MemorySnapshot → Type 0
StoredFits s = length s.bytes ≤ max_body

add_fits : (t u own : Bool) (chain : List Version) (client parent segment id : List ℕ) → length segment ≤ max_body
    → All Fits (map (stored_as own) (map (accepted_for client) (cond {A = List Version × Finding} t (cond u ([], Taken) (version id parent segment ∷ [], Added id)) ([], Conflict (latest chain))).0))
add_fits true true own chain client parent segment id fit = All-nil Fits
add_fits true false own chain client parent segment id fit = All-cons Fits (stored_as own (accepted_for client (version id parent segment))) [] fit (All-nil Fits)
add_fits false u own chain client parent segment id fit = All-nil Fits

added_fits : (log : Log) (request : Request) (id : List ℕ) (own : Bool) → length (request_body request) ≤ max_body → All Fits (map (stored_as own) (added log (client_of request) (demand_of request) id))
added_fits log (Add client parent segment) id own fit = add_fits (accepts (chain_of client log.versions) parent) (has_id id (chain_of client log.versions)) own (chain_of client log.versions) client parent segment id fit
added_fits log (Child client parent) id own fit = All-nil Fits
added_fits log (AddSnapshot client v bytes) id own fit = All-nil Fits
added_fits log (Snapshot client) id own fit = All-nil Fits

store_fits : (t : Bool) (client v bytes : List ℕ) → length bytes ≤ max_body → All StoredFits (map snapshot_as (cond t (record { client = client; snapshot = record { version = v; bytes = bytes } } ∷ []) []))
store_fits true client v bytes fit = All-cons StoredFits (record { client = client; version = v; bytes = bytes }) [] fit (All-nil StoredFits)
store_fits false client v bytes fit = All-nil StoredFits

stored_fits : (log : Log) (request : Request) → length (request_body request) ≤ max_body → All StoredFits (map snapshot_as (stored log (client_of request) (demand_of request)))
stored_fits log (Add client parent segment) fit = All-nil StoredFits
stored_fits log (Child client parent) fit = All-nil StoredFits
stored_fits log (AddSnapshot client v bytes) fit = store_fits (is_welcome (account_of client log) v) client v bytes fit
stored_fits log (Snapshot client) fit = All-nil StoredFits

pub more_fit : (versions now : List MemoryVersion) (log : Log) (request : Request) (id : List ℕ) (own : Bool) → now ≡ versions ++ map (stored_as own) (added log (client_of request) (demand_of request) id) → All Fits versions → length (request_body request) ≤ max_body → All Fits now
more_fit versions now log request id own is all fit = subst (All Fits) (sym is) (All-append Fits versions (map (stored_as own) (added log (client_of request) (demand_of request) id)) all (added_fits log request id own fit))

pub more_stored_fit : (snapshots now : List MemorySnapshot) (log : Log) (request : Request) → now ≡ snapshots ++ map snapshot_as (stored log (client_of request) (demand_of request)) → All StoredFits snapshots → length (request_body request) ≤ max_body → All StoredFits now
more_stored_fit snapshots now log request is all fit = subst (All StoredFits) (sym is) (All-append StoredFits snapshots (map snapshot_as (stored log (client_of request) (demand_of request))) all (stored_fits log request fit))

-- the snapshot that is stored for a client fits too
pub stored_one_fits : (client : List ℕ) (before : Option Stored_snapshot) (snapshots : List MemorySnapshot) → IfSome before (λ s. length s.bytes ≤ max_body) → All StoredFits snapshots
    → IfSome (stored_from client before (map snapshot_of snapshots)) (λ s. length s.bytes ≤ max_body)
stored_one_fits client before [] h all = h
stored_one_fits client before (t ∷ ts) h all = stored_one_fits client (cond (same_id t.client client) (Some (snapshot_of t).snapshot) before) ts (by (same_id t.client client)) (All-tail StoredFits t ts all)
  where
    by : (b : Bool) → IfSome (cond b (Some (snapshot_of t).snapshot) before) (λ s. length s.bytes ≤ max_body)
    by true = All-head StoredFits t ts all
    by false = h

-- ---- the server under it

-- a call that answers was not refused
pub was_open : {A E : Type 0} (b : Bool) (r : Result A E) (x : A) (e : E) → r ≡ Ok x → (b ≡ true → r ≡ Err e) → b ≡ false
was_open true r x e is refused = let no : Ok x ≡ Err e = sym is ∙ refused refl in absurd (let odd : ⊥ = cc in odd)
was_open false r x e is refused = refl

-- a server that was opened on a disk with no bytes has no versions and no snapshots
pub opened_empty : (before after : MemoryDisk) (server : Server) → memory_model.seen before ≡ [] → IsOpenedOn memory_model before after server → IsServerOn memory_model server after (record { versions = []; snapshots = [] })
opened_empty before after server none o =
    let nothing : o.bodies ≡ [] = one_records magic (memory_model.seen before) o.bodies [] o.records (inr (refl, subst IsTail (sym none) tt)) in
    o.now (record { versions = []; snapshots = [] }) (0, ap (read_from nothing_read) nothing)
