-- An account after a response.
use Rattle.std.proofs.Common.{◌≡◌, ℕ, Bool, true, false, cond, ◌||◌, List, [], ◌∷◌, ◌++◌, Option, Some, None, IfSome, refl, sym, ap, subst, ◌∙◌}
use Rattle.std.proofs.lemmas.List.{append-nil}
use Rattle.std.proofs.lemmas.Cmp.{nat_list_eq_equiv}
use Rattle.uuid.specs.Parts.{zero_bytes}
use Rattle.tw_protocol.specs.Chain.{Version, IsUuid, same_id, has_id, IsChain, Grows}
use Rattle.tw_protocol.specs.Answer.{Ask, answer, answered}
use Rattle.tw_protocol.specs.Snapshots.{Snapshot, Account, Demand, Of, Store, Fetch, Reply, Stored, Refused, respond, from, not_before, is_welcome, is_wanted, IsAccount}
use Rattle.tw_protocol.specs.SnapshotLaws.{ResponseKeepsAccount, ResponseGrows, StoredRises, ResponseDrawsOnce}
use Rattle.tw_protocol.proofs.Chains.{answer_keeps_chain, answer_grows}
use Rattle.tw_protocol.proofs.Telling.{answer_draws_once}

or_true : (b c : Bool) → c ≡ true → b || c ≡ true
or_true true c e = refl
or_true false c e = e

-- what has an id has it also with more versions after it
has_more : (id : List ℕ) (xs ys : List Version) → has_id id xs ≡ true → has_id id (xs ++ ys) ≡ true
has_more id [] ys e = absurd (cc)
has_more id (x ∷ xs) ys e = either (same_id x.id id) (has_id id xs) (has_id id (xs ++ ys)) (has_more id xs ys) e
  where
    either : (a b c : Bool) → (b ≡ true → c ≡ true) → a || b ≡ true → a || c ≡ true
    either true b c f e = refl
    either false b c f e = f e

-- what is in the chain from an id on is in the chain
has_from : (v id : List ℕ) (xs : List Version) → has_id v (from id xs) ≡ true → has_id v xs ≡ true
has_from v id [] e = e
has_from v id (x ∷ xs) e = by (same_id x.id id) (has_from v id xs) e
  where
    by : (b : Bool) → (has_id v (from id xs) ≡ true → has_id v xs ≡ true) → has_id v (cond b (x ∷ xs) (from id xs)) ≡ true → has_id v (x ∷ xs) ≡ true
    by true f e = e
    by false f e = or_true (same_id x.id v) (has_id v xs) (f e)

has_not_before : (stored : Option Snapshot) (v : List ℕ) (chain : List Version) → has_id v (not_before stored chain) ≡ true → has_id v chain ≡ true
has_not_before None v chain e = e
has_not_before (Some s) v chain e = has_from v s.version chain e

-- an id of a chain is among the versions from itself on, also with more versions after it
from_itself : (id : List ℕ) (xs ys : List Version) → has_id id xs ≡ true → has_id id (from id (xs ++ ys)) ≡ true
from_itself id [] ys e = absurd (cc)
from_itself id (x ∷ xs) ys e = by (same_id x.id id) refl (from_itself id xs ys) e
  where
    by : (b : Bool) → same_id x.id id ≡ b → (has_id id xs ≡ true → has_id id (from id (xs ++ ys)) ≡ true) → b || has_id id xs ≡ true → has_id id (cond b (x ∷ (xs ++ ys)) (from id (xs ++ ys))) ≡ true
    by true is f e = ap (λ t. t || has_id id (xs ++ ys)) is
    by false is f e = f e

stored_stays : (stored : Option Snapshot) (xs ys : List Version) → IfSome stored (λ s. has_id s.version xs ≡ true) → IfSome stored (λ s. has_id s.version (xs ++ ys) ≡ true)
stored_stays None xs ys h = h
stored_stays (Some s) xs ys h = has_more s.version xs ys h

store_keeps : (b : Bool) (account : Account) (version bytes : List ℕ) → (b ≡ true → has_id version account.chain ≡ true) → IsAccount account
    → IsAccount (cond {A = Account × Reply} b (record { chain = account.chain; stored = Some (record { version = version; bytes = bytes }) }, Stored) (account, Refused)).0
store_keeps true account version bytes there h = record { chain = h.chain; stored = there refl }
store_keeps false account version bytes there h = h

pub response_keeps_account : ResponseKeepsAccount
response_keeps_account account (Of ask) id h uuid real = record {
  chain = answer_keeps_chain account.chain ask id h.chain uuid real;
  stored = stored_stays account.stored account.chain (answer account.chain ask id).0 h.stored;
}
response_keeps_account account (Store version bytes) id h uuid real = store_keeps (is_welcome account version) account version bytes (has_not_before account.stored version account.chain) h
response_keeps_account account Fetch id h uuid real = h

same_chain : (chain : List Version) → Grows chain chain
same_chain chain = record { more = []; joined = sym (append-nil chain) }

store_grows : (b : Bool) (account : Account) (version bytes : List ℕ) → Grows account.chain (cond {A = Account × Reply} b (record { chain = account.chain; stored = Some (record { version = version; bytes = bytes }) }, Stored) (account, Refused)).0.chain
store_grows true account version bytes = same_chain account.chain
store_grows false account version bytes = same_chain account.chain

pub response_grows : ResponseGrows
response_grows account (Of ask) id = answer_grows account.chain ask id
response_grows account (Store version bytes) id = store_grows (is_welcome account version) account version bytes
response_grows account Fetch id = same_chain account.chain

-- the stored snapshot's own version is among the versions from itself on
stored_itself : (stored : Option Snapshot) (xs ys : List Version) → IfSome stored (λ s. has_id s.version xs ≡ true) → IfSome stored (λ s. IfSome stored (λ t. has_id t.version (from s.version (xs ++ ys)) ≡ true))
stored_itself None xs ys h = h
stored_itself (Some s) xs ys h = from_itself s.version xs ys h

stored_alone : (stored : Option Snapshot) (xs : List Version) → IfSome stored (λ s. has_id s.version xs ≡ true) → IfSome stored (λ s. IfSome stored (λ t. has_id t.version (from s.version xs) ≡ true))
stored_alone stored xs h = subst (λ ys. IfSome stored (λ s. IfSome stored (λ t. has_id t.version (from s.version ys) ≡ true))) (append-nil xs) (stored_itself stored xs [] h)

welcome_rises : (stored : Option Snapshot) (v : List ℕ) (xs : List Version) → has_id v (not_before stored xs) ≡ true → IfSome stored (λ s. has_id v (from s.version xs) ≡ true)
welcome_rises None v xs e = tt
welcome_rises (Some s) v xs e = e

store_rises : (b : Bool) (account : Account) (version bytes : List ℕ) → (b ≡ true → has_id version (not_before account.stored account.chain) ≡ true) → IfSome account.stored (λ s. has_id s.version account.chain ≡ true)
    → (let after = cond {A = Account × Reply} b (record { chain = account.chain; stored = Some (record { version = version; bytes = bytes }) }, Stored) (account, Refused) in
    IfSome account.stored (λ s. IfSome after.0.stored (λ t. has_id t.version (from s.version after.0.chain) ≡ true)))
store_rises true account version bytes there h = welcome_rises account.stored version account.chain (there refl)
store_rises false account version bytes there h = stored_alone account.stored account.chain h

pub stored_rises : StoredRises
stored_rises account (Of ask) id h = stored_itself account.stored account.chain (answer account.chain ask id).0 h.stored
stored_rises account (Store version bytes) id h = store_rises (is_welcome account version) account version bytes (λ e. e) h.stored
stored_rises account Fetch id h = stored_alone account.stored account.chain h.stored

pub response_draws_once : ResponseDrawsOnce
response_draws_once account (Of ask) id other not =
    let same = answer_draws_once account.chain ask id other not in
    λ i. (record { chain = account.chain ++ (same i).0; stored = account.stored }, Reply.Says (same i).1 (is_wanted (record { chain = account.chain ++ (same i).0; stored = account.stored })))
response_draws_once account (Store version bytes) id other not = refl
response_draws_once account Fetch id other not = refl
