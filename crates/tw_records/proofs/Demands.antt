-- What a demand makes of the accounts of the clients, and of the records.
use Rattle.std.proofs.Common.{◌≡◌, ◌∙◌, ℕ, ◌≤◌, Bool, true, false, not, cond, ◌&&◌, if◌then◌else◌, Option, Some, None, List, [], ◌∷◌, ◌++◌, length, take, drop, map, refl, sym, ap, subst, arith}
use Rattle.std.proofs.lemmas.Bool.{false≢true}
use Rattle.std.proofs.lemmas.Bool.Decides.{nat_tests}
use Rattle.std.proofs.lemmas.Cmp.{nat_list_eq_equiv}
use Rattle.std.proofs.lemmas.List.{append-nil, length-append, drop-drop, drop_at, take_at}
use Rattle.uuid.specs.Parts.{zero_bytes}
use Rattle.tw_protocol.specs.Chain.{Version, same_id, has_id, latest}
use Rattle.tw_protocol.specs.Answer.{Finding, version, accepts, answer}
use Rattle.tw_protocol.specs.Answer.Ask.{Add, Child}
use Rattle.tw_protocol.specs.Answer.Finding.{Added, Conflict, Taken}
use Rattle.tw_protocol.specs.Snapshots.{Snapshot, Account, Reply, Stored, Refused, Of, Store, Fetch, IsAccount, is_welcome}
use Rattle.tw_protocol.proofs.Chains.{same_id_exact}
use Rattle.tw_protocol.proofs.Responses.{response_keeps_account}
use Rattle.tw_records.specs.Log.{Accepted, accepted_for, ClientSnapshot, Log, chain_of, stored_from, account_of}
use Rattle.tw_records.specs.Bodies.{body_of, is_body, accepted_in, entry_of, is_next_entry, follows, snapshot_body, is_snapshot_body, snapshot_in, image_of, is_next_image, is_stored}
use Rattle.tw_records.specs.Reading.{StandFor}
use Rattle.tw_records.specs.Demands.{log_after, OwnAccountIsAnswered, OtherAccountsStay, AccountsStay, AnsweredStands}
use Rattle.tw_records.proofs.Named.{IsLong}
use Rattle.tw_records.proofs.More.{version_stands_after, snapshot_stands_after}

-- ---- the accounts

appended : (t : Bool) (v : Version) (xs ys : List Version) → (if t then v ∷ (xs ++ ys) else (xs ++ ys)) ≡ (if t then v ∷ xs else xs) ++ ys
appended true v xs ys = refl
appended false v xs ys = refl

pub chain_of-append : (client : List ℕ) (log more : List Accepted) → chain_of client (log ++ more) ≡ chain_of client log ++ chain_of client more
chain_of-append client [] more = refl
chain_of-append client (a ∷ log) more =
    ap (λ vs. if same_id a.client client then a.version ∷ vs else vs) (chain_of-append client log more)
    ∙ appended (same_id a.client client) a.version (chain_of client log) (chain_of client more)

-- versions of one client
pub none_of : (client other : List ℕ) (vs : List Version) → same_id client other ≡ false → chain_of other (map (accepted_for client) vs) ≡ []
none_of client other [] e = refl
none_of client other (v ∷ vs) e =
    ap (λ t. if t then v ∷ chain_of other (map (accepted_for client) vs) else chain_of other (map (accepted_for client) vs)) e ∙ none_of client other vs e

pub all_of : (client : List ℕ) (vs : List Version) → chain_of client (map (accepted_for client) vs) ≡ vs
all_of client [] = refl
all_of client (v ∷ vs) =
    ap (λ t. if t then v ∷ chain_of client (map (accepted_for client) vs) else chain_of client (map (accepted_for client) vs)) (nat_list_eq_equiv.refl client)
    ∙ ap (λ xs. v ∷ xs) (all_of client vs)

pub apart : (client other : List ℕ) (t : Bool) → same_id client other ≡ t → ¬ (other ≡ client) → same_id client other ≡ false
apart client other true e differs = absurd (differs (sym (same_id_exact client other e)))
apart client other false e differs = e

pub stored_from-push : (client : List ℕ) (before : Option Snapshot) (ts : List ClientSnapshot) (t : ClientSnapshot)
    → stored_from client before (ts ++ t ∷ []) ≡ cond (same_id t.client client) (Some t.snapshot) (stored_from client before ts)
stored_from-push client before [] t = refl
stored_from-push client before (u ∷ ts) t = stored_from-push client (cond (same_id u.client client) (Some u.snapshot) before) ts t

module _ (log : Log) (client : List ℕ) where
  abbrev snapshot_of : (version bytes : List ℕ) → ClientSnapshot
  snapshot_of version bytes = record { client = client; snapshot = record { version = version; bytes = bytes } }

  unchanged : (other : List ℕ) → account_of other (record { versions = log.versions ++ []; snapshots = log.snapshots ++ [] }) ≡ account_of other log
  unchanged other = λ i. account_of other (record { versions = append-nil log.versions i; snapshots = append-nil log.snapshots i })

  own_stored : (version bytes : List ℕ) (t : Bool)
      → account_of client (record { versions = log.versions ++ []; snapshots = log.snapshots ++ cond t (snapshot_of version bytes ∷ []) [] })
      ≡ (cond {A = Account × Reply} t (record { chain = chain_of client log.versions; stored = Some (record { version = version; bytes = bytes }) }, Stored) (account_of client log, Refused)).0
  own_stored version bytes false = unchanged client
  own_stored version bytes true =
      let last : stored_from client None (log.snapshots ++ snapshot_of version bytes ∷ []) ≡ Some (record { version = version; bytes = bytes }) =
      stored_from-push client None log.snapshots (snapshot_of version bytes)
      ∙ ap (λ t. cond t (Some (snapshot_of version bytes).snapshot) (stored_from client None log.snapshots)) (nat_list_eq_equiv.refl client) in
      λ i. record { chain = chain_of client (append-nil log.versions i); stored = last i }

  other_stored : (other version bytes : List ℕ) (t : Bool) → same_id client other ≡ false
      → account_of other (record { versions = log.versions ++ []; snapshots = log.snapshots ++ cond t (snapshot_of version bytes ∷ []) [] }) ≡ account_of other log
  other_stored other version bytes false e = unchanged other
  other_stored other version bytes true e =
      let last : stored_from other None (log.snapshots ++ snapshot_of version bytes ∷ []) ≡ stored_from other None log.snapshots =
      stored_from-push other None log.snapshots (snapshot_of version bytes)
      ∙ ap (λ t. cond t (Some (snapshot_of version bytes).snapshot) (stored_from other None log.snapshots)) e in
      λ i. record { chain = chain_of other (append-nil log.versions i); stored = last i }

pub own_account_is_answered : OwnAccountIsAnswered
own_account_is_answered log client (Of ask) id =
    let vs = (answer (chain_of client log.versions) ask id).0 in
    let chain = chain_of-append client log.versions (map (accepted_for client) vs) ∙ ap (λ x. chain_of client log.versions ++ x) (all_of client vs) in
    λ i. record { chain = chain i; stored = stored_from client None (append-nil log.snapshots i) }
own_account_is_answered log client (Store v bytes) id = own_stored log client v bytes (is_welcome (account_of client log) v)
own_account_is_answered log client Fetch id = unchanged log client client

pub other_accounts_stay : OtherAccountsStay
other_accounts_stay log client (Of ask) id other differs =
    let vs = (answer (chain_of client log.versions) ask id).0 in
    let chain = chain_of-append other log.versions (map (accepted_for client) vs)
    ∙ ap (λ x. chain_of other log.versions ++ x) (none_of client other vs (apart client other (same_id client other) refl differs)) ∙ append-nil (chain_of other log.versions) in
    λ i. record { chain = chain i; stored = stored_from other None (append-nil log.snapshots i) }
other_accounts_stay log client (Store v bytes) id other differs =
    other_stored log client other v bytes (is_welcome (account_of client log) v) (apart client other (same_id client other) refl differs)
other_accounts_stay log client Fetch id other differs = unchanged log client other

pub accounts_stay : AccountsStay
accounts_stay log client demand id all uuid real c = by (same_id client c) refl
  where
    by : (t : Bool) → same_id client c ≡ t → IsAccount (account_of c (log_after log client demand id))
    by true e =
        subst (λ k. IsAccount (account_of k (log_after log client demand id))) (same_id_exact client c e)
        (subst IsAccount (sym (own_account_is_answered log client demand id)) (response_keeps_account (account_of client log) demand id (all client) uuid real))
    by false e =
        subst IsAccount (sym (other_accounts_stay log client demand id c (λ same. false≢true (sym e ∙ ap (same_id client) same ∙ nat_list_eq_equiv.refl client)))) (all c)

-- ---- the records

-- a version's body spells it
module _ (a : Accepted) (l : IsLong a) where
  abbrev fields : List ℕ
  fields = a.client ++ (a.version.id ++ (a.version.parent ++ a.version.segment))

  one : drop 16 fields ≡ a.version.id ++ (a.version.parent ++ a.version.segment)
  one = drop_at a.client (a.version.id ++ (a.version.parent ++ a.version.segment)) 16 l.client

  two : drop 32 fields ≡ a.version.parent ++ a.version.segment
  two = sym (drop-drop 16 16 fields) ∙ ap (drop 16) one ∙ drop_at a.version.id (a.version.parent ++ a.version.segment) 16 l.id

  three : drop 48 fields ≡ a.version.segment
  three = sym (drop-drop 16 32 fields) ∙ ap (drop 16) two ∙ drop_at a.version.parent a.version.segment 16 l.parent

  pub accepted_back : accepted_in (body_of a) ≡ a
  accepted_back =
      let client : take 16 fields ≡ a.client = take_at a.client (a.version.id ++ (a.version.parent ++ a.version.segment)) 16 l.client in
      let id : take 16 (drop 16 fields) ≡ a.version.id = ap (take 16) one ∙ take_at a.version.id (a.version.parent ++ a.version.segment) 16 l.id in
      let parent : take 16 (drop 32 fields) ≡ a.version.parent = ap (take 16) two ∙ take_at a.version.parent a.version.segment 16 l.parent in
      λ i. record { client = client i; version = record { id = id i; parent = parent i; segment = three i } }

  body_is : is_body (body_of a) ≡ true
  body_is =
      let many : 49 ≤ length (body_of a) = omega (
        arith,
        length-append a.client (a.version.id ++ (a.version.parent ++ a.version.segment)),
        length-append a.version.id (a.version.parent ++ a.version.segment),
        length-append a.version.parent a.version.segment,
        l.client,
        l.id,
        l.parent,
      ) in
      grind (arith, nat_tests)

  pub body_follows : (log : List Accepted) → is_next_entry log (entry_of a) ≡ true → follows log (body_of a) ≡ true
  body_follows log next = λ i. body_is i && (ap (λ x. is_next_entry log (entry_of x)) accepted_back ∙ next) i

-- a snapshot's body spells it
module _ (t : ClientSnapshot) (client : length t.client ≡ 16) (version : length t.snapshot.version ≡ 16) where
  abbrev all : List ℕ
  all = t.client ++ (t.snapshot.version ++ t.snapshot.bytes)

  first : drop 16 all ≡ t.snapshot.version ++ t.snapshot.bytes
  first = drop_at t.client (t.snapshot.version ++ t.snapshot.bytes) 16 client

  second : drop 32 all ≡ t.snapshot.bytes
  second = sym (drop-drop 16 16 all) ∙ ap (drop 16) first ∙ drop_at t.snapshot.version t.snapshot.bytes 16 version

  pub snapshot_again : snapshot_in (snapshot_body t) ≡ t
  snapshot_again =
      let c : take 16 all ≡ t.client = take_at t.client (t.snapshot.version ++ t.snapshot.bytes) 16 client in
      let v : take 16 (drop 16 all) ≡ t.snapshot.version = ap (take 16) first ∙ take_at t.snapshot.version t.snapshot.bytes 16 version in
      λ i. record { client = c i; snapshot = record { version = v i; bytes = second i } }

  snapshot_is : is_snapshot_body (snapshot_body t) ≡ true
  snapshot_is =
      let many : 33 ≤ length (snapshot_body t) = omega (arith, length-append t.client (t.snapshot.version ++ t.snapshot.bytes), length-append t.snapshot.version t.snapshot.bytes, client, version) in
      grind (arith, nat_tests)

  pub snapshot_follows : (log : Log) → is_next_image log (image_of t) ≡ true → is_stored log (snapshot_body t) ≡ true
  snapshot_follows log next = λ i. snapshot_is i && (ap (λ x. is_next_image log (image_of x)) snapshot_again ∙ next) i

module _ (bodies : List (List ℕ)) (log : Log) (client id : List ℕ) (stands : StandFor bodies log) (long : length client ≡ 16) (long_id : length id ≡ 16) where
  nothing_more : StandFor (bodies ++ []) (record { versions = log.versions ++ []; snapshots = log.snapshots ++ [] })
  nothing_more = subst (λ bs. StandFor bs (record { versions = log.versions ++ []; snapshots = log.snapshots ++ [] })) (sym (append-nil bodies))
      (subst (StandFor bodies) (λ i. record { versions = sym (append-nil log.versions) i; snapshots = sym (append-nil log.snapshots) i }) stands)

  abbrev chain : List Version
  chain = chain_of client log.versions

  added_stands : (parent segment : List ℕ) → same_id id zero_bytes ≡ false → length parent ≡ 16 → (t u : Bool) → accepts chain parent ≡ t → has_id id chain ≡ u
      → StandFor
      (bodies ++ (map body_of (map (accepted_for client) (cond {A = List Version × Finding} t (cond u ([], Taken) (version id parent segment ∷ [], Added id)) ([], Conflict (latest chain))).0) ++ []))
      (record { versions = log.versions ++ map (accepted_for client) (cond {A = List Version × Finding} t (cond u ([], Taken) (version id parent segment ∷ [], Added id)) ([], Conflict (latest chain))).0; snapshots = log.snapshots ++ [] })
  added_stands parent segment real long_parent true true at there = nothing_more
  added_stands parent segment real long_parent false u at there = nothing_more
  added_stands parent segment real long_parent true false at there =
      let a = accepted_for client (version id parent segment) in
      let l : IsLong a = record { client = long; id = long_id; parent = long_parent } in
      let next : is_next_entry log.versions (entry_of a) ≡ true = λ i. not (real i) && not (there i) && at i in
      subst (StandFor (bodies ++ body_of a ∷ [])) (λ i. record { versions = log.versions ++ accepted_back a l i ∷ []; snapshots = sym (append-nil log.snapshots) i })
      (version_stands_after bodies log (body_of a) stands (body_follows a l log.versions next))

  stored_stands : (v bytes : List ℕ) → length v ≡ 16 → (t : Bool) → is_welcome (account_of client log) v ≡ t
      → StandFor (bodies ++ map snapshot_body (cond t (record { client = client; snapshot = record { version = v; bytes = bytes } } ∷ []) []))
      (record { versions = log.versions ++ []; snapshots = log.snapshots ++ cond t (record { client = client; snapshot = record { version = v; bytes = bytes } } ∷ []) [] })
  stored_stands v bytes long_version false is_so = nothing_more
  stored_stands v bytes long_version true welcome =
      let s : ClientSnapshot = record { client = client; snapshot = record { version = v; bytes = bytes } } in
      subst (StandFor (bodies ++ snapshot_body s ∷ [])) (λ i. record { versions = sym (append-nil log.versions) i; snapshots = log.snapshots ++ snapshot_again s long long_version i ∷ [] })
      (snapshot_stands_after bodies log (snapshot_body s) stands (snapshot_follows s long long_version log welcome))

pub answered_stands : AnsweredStands
answered_stands bodies log client (Of (Add parent segment)) id stands long long_id real fits =
    added_stands bodies log client id stands long long_id parent segment real fits (accepts (chain_of client log.versions) parent) (has_id id (chain_of client log.versions)) refl refl
answered_stands bodies log client (Of (Child parent)) id stands long long_id real fits = nothing_more bodies log client id stands long long_id
answered_stands bodies log client (Store v bytes) id stands long long_id real fits =
    stored_stands bodies log client id stands long long_id v bytes fits (is_welcome (account_of client log) v) refl
answered_stands bodies log client Fetch id stands long long_id real fits = nothing_more bodies log client id stands long long_id
