-- The laws of a client's account.
use Rattle.std.specs.Prelude.{◌≡◌, ℕ, true, false, List, ◌++◌, IfSome}
use Rattle.uuid.specs.Parts.{zero_bytes}
use Rattle.tw_protocol.specs.Chain.{IsUuid, Grows, same_id, has_id}
use Rattle.tw_protocol.specs.Laws.{IsAccepted}
use Rattle.tw_protocol.specs.Snapshots.{Account, Demand, Of, Store, Fetch, respond, from, IsAccount}

-- a response leaves an account
abbrev pub ResponseKeepsAccount : Type 0
ResponseKeepsAccount = (account : Account) (demand : Demand) (id : List ℕ) → IsAccount account → IsUuid id → same_id id zero_bytes ≡ false
    → IsAccount (respond account demand id).0

-- the chain only grows
abbrev pub ResponseGrows : Type 0
ResponseGrows = (account : Account) (demand : Demand) (id : List ℕ) → Grows account.chain (respond account demand id).0.chain

-- if a snapshot is stored, then one is stored after each response, and its version is not before that of the first
abbrev pub StoredRises : Type 0
StoredRises = (account : Account) (demand : Demand) (id : List ℕ) → IsAccount account
    → let now = (respond account demand id).0 in IfSome account.stored (λ s. IfSome now.stored (λ t. has_id t.version (from s.version now.chain) ≡ true))

-- only an accepted add-version looks at the id that it gets
abbrev pub IsAcceptedDemand : Account → Demand → Type 0
IsAcceptedDemand account (Of ask) = IsAccepted account.chain ask
IsAcceptedDemand account (Store version bytes) = ⊥
IsAcceptedDemand account Fetch = ⊥

abbrev pub ResponseDrawsOnce : Type 0
ResponseDrawsOnce = (account : Account) (demand : Demand) (id other : List ℕ) → ¬ (IsAcceptedDemand account demand)
    → respond account demand id ≡ respond account demand other
