-- What a client's demand makes of a server's log, and of its records.
use Rattle.std.specs.Prelude.{◌≡◌, ℕ, false, cond, List, [], ◌∷◌, ◌++◌, length, map}
use Rattle.uuid.specs.Parts.{zero_bytes}
use Rattle.tw_protocol.specs.Chain.{IsUuid, same_id}
use Rattle.tw_protocol.specs.Answer.{answer}
use Rattle.tw_protocol.specs.Answer.Ask.{Add, Child}
use Rattle.tw_protocol.specs.Snapshots.{Demand, Of, Store, Fetch, IsAccount, is_welcome, respond}
use Rattle.tw_records.specs.Log.{Accepted, accepted_for, ClientSnapshot, Log, chain_of, account_of}
use Rattle.tw_records.specs.Bodies.{body_of, snapshot_body}
use Rattle.tw_records.specs.Reading.{StandFor}

-- the versions that it adds, if an accepted one gets this id
abbrev pub added : Log → (client : List ℕ) → Demand → (id : List ℕ) → List Accepted
added log client (Of ask) id = map (accepted_for client) (answer (chain_of client log.versions) ask id).0
added log client (Store version bytes) id = []
added log client Fetch id = []

-- the snapshots that it stores
abbrev pub stored : Log → (client : List ℕ) → Demand → List ClientSnapshot
stored log client (Of ask) = []
stored log client (Store version bytes) =
    cond (is_welcome (account_of client log) version) (record { client = client; snapshot = record { version = version; bytes = bytes } } ∷ []) []
stored log client Fetch = []

abbrev pub log_after : Log → (client : List ℕ) → Demand → (id : List ℕ) → Log
log_after log client demand id = record { versions = log.versions ++ added log client demand id; snapshots = log.snapshots ++ stored log client demand }

-- the bodies of the records that it adds
abbrev pub bodies_added : Log → (client : List ℕ) → Demand → (id : List ℕ) → List (List ℕ)
bodies_added log client demand id = map body_of (added log client demand id) ++ map snapshot_body (stored log client demand)

-- its uuids have sixteen bytes
abbrev pub HasLongIds : Demand → Type 0
HasLongIds (Of (Add parent segment)) = length parent ≡ 16
HasLongIds (Of (Child parent)) = Unit {0}
HasLongIds (Store version bytes) = length version ≡ 16
HasLongIds Fetch = Unit {0}

-- ---- laws

-- the account of the client becomes that of the protocol
abbrev pub OwnAccountIsAnswered : Type 0
OwnAccountIsAnswered = (log : Log) (client : List ℕ) (demand : Demand) (id : List ℕ)
    → account_of client (log_after log client demand id) ≡ (respond (account_of client log) demand id).0

abbrev pub OtherAccountsStay : Type 0
OtherAccountsStay = (log : Log) (client : List ℕ) (demand : Demand) (id other : List ℕ) → ¬ (other ≡ client)
    → account_of other (log_after log client demand id) ≡ account_of other log

-- all accounts stay accounts
abbrev pub AccountsStay : Type 0
AccountsStay = (log : Log) (client : List ℕ) (demand : Demand) (id : List ℕ) → ((c : List ℕ) → IsAccount (account_of c log))
    → IsUuid id → same_id id zero_bytes ≡ false
    → (c : List ℕ) → IsAccount (account_of c (log_after log client demand id))

-- records that stand for a log stand for what it becomes, with those that the demand adds at their end
abbrev pub AnsweredStands : Type 0
AnsweredStands = (bodies : List (List ℕ)) (log : Log) (client : List ℕ) (demand : Demand) (id : List ℕ) → StandFor bodies log
    → length client ≡ 16 → length id ≡ 16 → same_id id zero_bytes ≡ false → HasLongIds demand
    → StandFor (bodies ++ bodies_added log client demand id) (log_after log client demand id)
