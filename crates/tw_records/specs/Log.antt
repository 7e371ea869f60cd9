-- What a server was told: the versions that it accepted, of all its clients, and the snapshots that it stored.
use Rattle.std.specs.Prelude.{◌≡◌, ℕ, cond, if◌then◌else◌, Option, Some, None, List, [], ◌∷◌, length, All}
use Rattle.tw_protocol.specs.Chain.{Version, IsUuid, IsChain, same_id}
use Rattle.tw_protocol.specs.Snapshots.{Snapshot, Account}

-- a version that was accepted for a client
pub record Accepted : Type 0 where
  pub client : List ℕ
  pub version : Version

abbrev pub accepted_for : List ℕ → Version → Accepted
accepted_for client version = record { client = client; version = version }

-- the chain of a client
abbrev pub chain_of : List ℕ → List Accepted → List Version
chain_of client [] = []
chain_of client (a ∷ log) = if same_id a.client client then a.version ∷ chain_of client log else chain_of client log

-- the ids of an accepted version
pub record HasUuids (a : Accepted) : Type 0 where
  pub client : length a.client ≡ 16
  pub id : IsUuid a.version.id
  pub parent : IsUuid a.version.parent

-- the versions of each client are a chain
pub record IsSound (log : List Accepted) : Type 0 where
  pub chains : (client : List ℕ) → IsChain (chain_of client log)
  pub uuids : All HasUuids log

-- a snapshot that was stored for a client
pub record ClientSnapshot : Type 0 where
  pub client : List ℕ
  pub snapshot : Snapshot

-- the accepted versions, and the stored snapshots, each in the order of their records
pub record Log : Type 0 where
  pub versions : List Accepted
  pub snapshots : List ClientSnapshot

-- the last snapshot of a client, or else this one
abbrev pub stored_from : List ℕ → Option Snapshot → List ClientSnapshot → Option Snapshot
stored_from client before [] = before
stored_from client before (t ∷ ts) = stored_from client (cond (same_id t.client client) (Some t.snapshot) before) ts

-- the account of a client
abbrev pub account_of : List ℕ → Log → Account
account_of client log = record { chain = chain_of client log.versions; stored = stored_from client None log.snapshots }
