-- Snapshots: the account of a client, which is its chain and a stored snapshot, and the answer to each request (TaskChampion book, "Snapshots").
use Rattle.std.specs.Prelude.{◌≡◌, ℕ, ◌-◌, nat_le, Bool, true, cond, List, [], ◌∷◌, ◌++◌, length, Option, Some, None, IfSome}
use Rattle.tw_protocol.specs.Chain.{Version, IsUuid, IsChain, same_id, has_id}
use Rattle.tw_protocol.specs.Answer.{Ask, Finding, answer, answered}

-- the tasks at a version, as bytes
pub record Snapshot : Type 0 where
  pub version : List ℕ
  pub bytes : List ℕ

-- a client's account with the server: its chain, and the snapshot that was stored last
pub record Account : Type 0 where
  pub chain : List Version
  pub stored : Option Snapshot

-- the account of a client that never asked
abbrev pub no_account : Account
no_account = record { chain = []; stored = None }

-- the versions from the one with this id on
abbrev pub from : List ℕ → List Version → List Version
from id [] = []
from id (v ∷ vs) = cond (same_id v.id id) (v ∷ vs) (from id vs)

-- those that are not before the stored snapshot's version
abbrev pub not_before : Option Snapshot → List Version → List Version
not_before None chain = chain
not_before (Some s) chain = from s.version chain

-- how many versions follow the stored snapshot; without one, how many the chain has
abbrev pub since : Option Snapshot → List Version → ℕ
since None chain = length chain
since (Some s) chain = length (from s.version chain) - 1

-- a new snapshot is wanted if these are at least 100
abbrev pub is_wanted : Account → Bool
is_wanted account = nat_le 100 (since account.stored account.chain)

-- a snapshot is stored if its version is in the chain, and not before the version of the stored one
abbrev pub is_welcome : Account → List ℕ → Bool
is_welcome account version = has_id version (not_before account.stored account.chain)

-- what a client asks
pub data Demand : Type 0 where
  -- of its chain
  Of : Ask → Demand
  -- add-snapshot: a version, and the bytes
  Store : List ℕ → List ℕ → Demand
  -- the stored snapshot
  Fetch : Demand

-- what the server answers
pub data Reply : Type 0 where
  -- of its chain, and whether a snapshot is wanted then
  Says : Finding → Bool → Reply
  -- the snapshot is stored
  Stored : Reply
  -- it is not: its version is not in the chain, or before that of the stored one
  Refused : Reply
  -- the stored snapshot
  Found : Snapshot → Reply
  -- there is none
  Absent : Reply

abbrev pub offered : Option Snapshot → Reply
offered None = Absent
offered (Some s) = Found s

-- the account after a request, and the answer. The id is the one that an accepted version gets
abbrev pub respond : Account → Demand → List ℕ → Account × Reply
respond account (Of ask) id =
    let now : Account = record { chain = answered account.chain ask id; stored = account.stored } in
    (now, Says (answer account.chain ask id).1 (is_wanted now))
respond account (Store version bytes) id =
    cond (is_welcome account version)
    (record { chain = account.chain; stored = Some (record { version = version; bytes = bytes }) }, Stored)
    (account, Refused)
respond account Fetch id = (account, offered account.stored)

-- the chain is one, and the stored snapshot is of a version of it
pub record IsAccount (account : Account) : Type 0 where
  pub chain : IsChain account.chain
  pub stored : IfSome account.stored (λ s. has_id s.version account.chain ≡ true)
