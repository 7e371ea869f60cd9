-- What is asked of a log does not look at segments and bytes.
use Rattle.std.proofs.Common.{◌≡◌, ℕ, Bool, true, false, cond, not, ◌&&◌, ◌||◌, List, [], ◌∷◌, map, Option, Some, None, option_map, IfSome, refl, sym, ap, subst, ◌∙◌}
use Rattle.std.specs.Prelude.{All}
use Rattle.std.proofs.lemmas.List.Elements.{All-nil, All-cons, All-head, All-tail}
use Rattle.uuid.specs.Parts.{zero_bytes}
use Rattle.tw_protocol.specs.Chain.{Version, IsUuid, IsChain, IsRow, Differ, same_id, has_id, last_from}
use Rattle.tw_protocol.specs.Snapshots.{Snapshot, IsAccount, from, not_before, is_welcome}
use Rattle.tw_records.specs.declared.entry.Entry.{Entry}
use Rattle.tw_records.specs.Log.{Accepted, ClientSnapshot, HasUuids, IsSound, Log, chain_of, stored_from, account_of}
use Rattle.tw_records.specs.Bodies.{is_next_entry}
use Rattle.tw_records.specs.Laws.{bare_version, bare_snapshot, bare}

-- without its bytes
abbrev bare_stored : Snapshot → Snapshot
bare_stored s = record { version = s.version; bytes = [] }

module _ (c : List ℕ) where
  has_bare : (id : List ℕ) (log : List Accepted) → has_id id (chain_of c (map bare_version log)) ≡ has_id id (chain_of c log)
  has_bare id [] = refl
  has_bare id (a ∷ log) = by (same_id a.client c) (has_bare id log)
    where
      by : (t : Bool) → has_id id (chain_of c (map bare_version log)) ≡ has_id id (chain_of c log)
          → has_id id (cond t ((bare_version a).version ∷ chain_of c (map bare_version log)) (chain_of c (map bare_version log))) ≡ has_id id (cond t (a.version ∷ chain_of c log) (chain_of c log))
      by true e = ap (λ t. same_id a.version.id id || t) e
      by false e = e

  last_bare : (h : List ℕ) (log : List Accepted) → last_from h (chain_of c (map bare_version log)) ≡ last_from h (chain_of c log)
  last_bare h [] = refl
  last_bare h (a ∷ log) = by (same_id a.client c) (λ k. last_bare k log)
    where
      by : (t : Bool) → ((k : List ℕ) → last_from k (chain_of c (map bare_version log)) ≡ last_from k (chain_of c log))
          → last_from h (cond t ((bare_version a).version ∷ chain_of c (map bare_version log)) (chain_of c (map bare_version log))) ≡ last_from h (cond t (a.version ∷ chain_of c log) (chain_of c log))
      by true e = e a.version.id
      by false e = e h

  from_bare : (v s : List ℕ) (log : List Accepted) → has_id v (from s (chain_of c (map bare_version log))) ≡ has_id v (from s (chain_of c log))
  from_bare v s [] = refl
  from_bare v s (a ∷ log) = by (same_id a.client c) (same_id a.version.id s) refl (has_bare v log) (from_bare v s log)
    where
      by : (t u : Bool) → same_id a.version.id s ≡ u → has_id v (chain_of c (map bare_version log)) ≡ has_id v (chain_of c log) → has_id v (from s (chain_of c (map bare_version log))) ≡ has_id v (from s (chain_of c log))
          → has_id v (from s (cond t ((bare_version a).version ∷ chain_of c (map bare_version log)) (chain_of c (map bare_version log)))) ≡ has_id v (from s (cond t (a.version ∷ chain_of c log) (chain_of c log)))
      by true true is e f =
          ap (λ t. has_id v (cond t ((bare_version a).version ∷ chain_of c (map bare_version log)) (from s (chain_of c (map bare_version log))))) is
          ∙ ap (λ t. same_id a.version.id v || t) e
          ∙ sym (ap (λ t. has_id v (cond t (a.version ∷ chain_of c log) (from s (chain_of c log)))) is)
      by true false is e f =
          ap (λ t. has_id v (cond t ((bare_version a).version ∷ chain_of c (map bare_version log)) (from s (chain_of c (map bare_version log))))) is
          ∙ f
          ∙ sym (ap (λ t. has_id v (cond t (a.version ∷ chain_of c log) (from s (chain_of c log)))) is)
      by false u is e f = f

  stored_bare : (before : Option Snapshot) (ts : List ClientSnapshot) → stored_from c (option_map bare_stored before) (map bare_snapshot ts) ≡ option_map bare_stored (stored_from c before ts)
  stored_bare before [] = refl
  stored_bare before (t ∷ ts) = by (same_id t.client c) (λ o. stored_bare o ts)
    where
      by : (b : Bool) → ((o : Option Snapshot) → stored_from c (option_map bare_stored o) (map bare_snapshot ts) ≡ option_map bare_stored (stored_from c o ts))
          → stored_from c (cond b (Some (bare_stored t.snapshot)) (option_map bare_stored before)) (map bare_snapshot ts) ≡ option_map bare_stored (stored_from c (cond b (Some t.snapshot) before) ts)
      by true e = e (Some t.snapshot)
      by false e = e before

pub next_bare : (log : List Accepted) (e : Entry) → is_next_entry (map bare_version log) e ≡ is_next_entry log e
next_bare log e = λ i. not (same_id e.id zero_bytes) && not (has_bare e.client e.id log i) && same_id (last_bare e.client zero_bytes log i) e.parent

welcome_by : (v : List ℕ) (o : Option Snapshot) (xs ys : List Version) → has_id v xs ≡ has_id v ys → ((s : List ℕ) → has_id v (from s xs) ≡ has_id v (from s ys)) → has_id v (not_before (option_map bare_stored o) xs) ≡ has_id v (not_before o ys)
welcome_by v None xs ys e f = e
welcome_by v (Some s) xs ys e f = f s.version

pub welcome_bare : (c v : List ℕ) (log : Log) → is_welcome (account_of c (bare log)) v ≡ is_welcome (account_of c log) v
welcome_bare c v log =
    ap (λ o. has_id v (not_before o (chain_of c (map bare_version log.versions)))) (stored_bare c None log.snapshots)
    ∙ welcome_by v (stored_from c None log.snapshots) (chain_of c (map bare_version log.versions)) (chain_of c log.versions) (has_bare c v log.versions) (λ s. from_bare c v s log.versions)

-- ---- chains and accounts without segments and bytes

abbrev bare_one : Version → Version
bare_one v = record { id = v.id; parent = v.parent; segment = [] }

chain_bare : (c : List ℕ) (log : List Accepted) → chain_of c (map bare_version log) ≡ map bare_one (chain_of c log)
chain_bare c [] = refl
chain_bare c (a ∷ log) = by (same_id a.client c) (chain_bare c log)
  where
    by : (t : Bool) → chain_of c (map bare_version log) ≡ map bare_one (chain_of c log)
        → cond t ((bare_version a).version ∷ chain_of c (map bare_version log)) (chain_of c (map bare_version log)) ≡ map bare_one (cond t (a.version ∷ chain_of c log) (chain_of c log))
    by true e = ap (λ vs. bare_one a.version ∷ vs) e
    by false e = e

has_one : (id : List ℕ) (vs : List Version) → has_id id (map bare_one vs) ≡ has_id id vs
has_one id [] = refl
has_one id (v ∷ vs) = ap (λ t. same_id v.id id || t) (has_one id vs)

row_of : (h : List ℕ) (vs : List Version) → IsRow h (map bare_one vs) → IsRow h vs
row_of h [] row = tt
row_of h (v ∷ vs) row = (row.0, row_of v.id vs row.1)

differ_of : (h : List ℕ) (vs : List Version) → Differ h (map bare_one vs) → Differ h vs
differ_of h [] differ = tt
differ_of h (v ∷ vs) differ = (sym (has_one h (v ∷ vs)) ∙ differ.0, differ_of v.id vs differ.1)

abbrev HasUuid : Version → Type 0
HasUuid v = IsUuid v.id

uuids_of : (vs : List Version) → All HasUuid (map bare_one vs) → All HasUuid vs
uuids_of [] all = All-nil HasUuid
uuids_of (v ∷ vs) all = All-cons HasUuid v vs (All-head HasUuid (bare_one v) (map bare_one vs) all) (uuids_of vs (All-tail HasUuid (bare_one v) (map bare_one vs) all))

is_chain_of : (vs : List Version) → IsChain (map bare_one vs) → IsChain vs
is_chain_of vs chain = record { row = row_of zero_bytes vs chain.row; differ = differ_of zero_bytes vs chain.differ; uuids = uuids_of vs chain.uuids }

have_uuids_of : (log : List Accepted) → All HasUuids (map bare_version log) → All HasUuids log
have_uuids_of [] all = All-nil HasUuids
have_uuids_of (a ∷ log) all =
    let first = All-head HasUuids (bare_version a) (map bare_version log) all in
    All-cons HasUuids a log (record { client = first.client; id = first.id; parent = first.parent }) (have_uuids_of log (All-tail HasUuids (bare_version a) (map bare_version log) all))

pub sound_of : (log : List Accepted) → IsSound (map bare_version log) → IsSound log
sound_of log sound = record { chains = λ c. is_chain_of (chain_of c log) (subst IsChain (chain_bare c log) (sound.chains c)); uuids = have_uuids_of log sound.uuids }

pub account_of_bare : (c : List ℕ) (log : Log) → IsAccount (account_of c (bare log)) → IsAccount (account_of c log)
account_of_bare c log account = record {
  chain = is_chain_of (chain_of c log.versions) (subst IsChain (chain_bare c log.versions) account.chain);
  stored = by (stored_from c None log.snapshots)
      (subst (λ o. IfSome o (λ s. has_id s.version (chain_of c (map bare_version log.versions)) ≡ true)) (stored_bare c None log.snapshots) account.stored);
}
  where
    by : (o : Option Snapshot) → IfSome (option_map bare_stored o) (λ s. has_id s.version (chain_of c (map bare_version log.versions)) ≡ true) → IfSome o (λ s. has_id s.version (chain_of c log.versions) ≡ true)
    by None h = h
    by (Some s) h = sym (has_bare c s.version log.versions) ∙ h

pub stored_of_bare : (c : List ℕ) (log : Log) → option_map (λ (s : Snapshot). s.version) (account_of c (bare log)).stored ≡ option_map (λ (s : Snapshot). s.version) (account_of c log).stored
stored_of_bare c log = ap (option_map (λ (s : Snapshot). s.version)) (stored_bare c None log.snapshots) ∙ by (stored_from c None log.snapshots)
  where
    by : (o : Option Snapshot) → option_map (λ (s : Snapshot). s.version) (option_map bare_stored o) ≡ option_map (λ (s : Snapshot). s.version) o
    by None = refl
    by (Some s) = refl
