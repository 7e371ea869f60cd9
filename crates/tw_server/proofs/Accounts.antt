-- The accounts of the clients, once a version or a snapshot is added.
use Rattle.std.proofs.Common.{◌≡◌, ℕ, Bool, true, false, cond, ◌||◌, Option, Some, None, IfSome, List, [], ◌∷◌, ◌++◌, refl, sym, subst}
use Rattle.tw_protocol.specs.Chain.{Version, same_id, has_id}
use Rattle.tw_protocol.specs.Snapshots.{Snapshot, from, not_before, is_welcome, IsAccount}
use Rattle.tw_protocol.proofs.Chains.{same_id_exact}
use Rattle.tw_records.specs.Log.{Accepted, ClientSnapshot, Log, IsSound, chain_of, account_of}
use Rattle.tw_records.proofs.Demands.{chain_of-append, stored_from-push}
use Rattle.tw_server.proofs.Knowing.{with_accepted, with_stored}

or_true : (b c : Bool) → c ≡ true → b || c ≡ true
or_true true c e = refl
or_true false c e = e

pub has_more : (id : List ℕ) (xs ys : List Version) → has_id id xs ≡ true → has_id id (xs ++ ys) ≡ true
has_more id [] ys e = absurd (cc)
has_more id (x ∷ xs) ys e = either (same_id x.id id) (has_id id xs) (has_id id (xs ++ ys)) (has_more id xs ys) e
  where
    either : (a b c : Bool) → (b ≡ true → c ≡ true) → a || b ≡ true → a || c ≡ true
    either true b c f e = refl
    either false b c f e = f e

has_from : (v id : List ℕ) (xs : List Version) → has_id v (from id xs) ≡ true → has_id v xs ≡ true
has_from v id [] e = e
has_from v id (x ∷ xs) e = by (same_id x.id id) (has_from v id xs) e
  where
    by : (b : Bool) → (has_id v (from id xs) ≡ true → has_id v xs ≡ true) → has_id v (cond b (x ∷ xs) (from id xs)) ≡ true → has_id v (x ∷ xs) ≡ true
    by true f e = e
    by false f e = or_true (same_id x.id v) (has_id v xs) (f e)

-- a version that is welcome is in the chain
pub welcome_there : (stored : Option Snapshot) (v : List ℕ) (chain : List Version) → has_id v (not_before stored chain) ≡ true → has_id v chain ≡ true
welcome_there None v chain e = e
welcome_there (Some s) v chain e = has_from v s.version chain e

stored_more : (stored : Option Snapshot) (xs ys : List Version) → IfSome stored (λ s. has_id s.version xs ≡ true) → IfSome stored (λ s. has_id s.version (xs ++ ys) ≡ true)
stored_more None xs ys h = h
stored_more (Some s) xs ys h = has_more s.version xs ys h

pub accounts_version : (log : Log) (a : Accepted) → IsSound (log.versions ++ a ∷ []) → ((client : List ℕ) → IsAccount (account_of client log)) → (client : List ℕ) → IsAccount (account_of client (with_accepted log a))
accounts_version log a sound accounts client = record {
  chain = sound.chains client;
  stored = subst (λ vs. IfSome (account_of client log).stored (λ s. has_id s.version vs ≡ true)) (sym (chain_of-append client log.versions (a ∷ [])))
      (stored_more (account_of client log).stored (chain_of client log.versions) (chain_of client (a ∷ [])) (accounts client).stored);
}

pub accounts_image : (log : Log) (t : ClientSnapshot) → is_welcome (account_of t.client log) t.snapshot.version ≡ true → ((client : List ℕ) → IsAccount (account_of client log)) → (client : List ℕ) → IsAccount (account_of client (with_stored log t))
accounts_image log t welcome accounts client = record {
  chain = (accounts client).chain;
  stored = subst (λ o. IfSome o (λ s. has_id s.version (chain_of client log.versions) ≡ true)) (sym (stored_from-push client None log.snapshots t)) (by (same_id t.client client) refl);
}
  where
    by : (b : Bool) → same_id t.client client ≡ b → IfSome (cond b (Some t.snapshot) (account_of client log).stored) (λ s. has_id s.version (chain_of client log.versions) ≡ true)
    by true e = subst (λ c. has_id t.snapshot.version (chain_of c log.versions) ≡ true) (same_id_exact t.client client e) (welcome_there (account_of t.client log).stored t.snapshot.version (chain_of t.client log.versions) welcome)
    by false e = (accounts client).stored
