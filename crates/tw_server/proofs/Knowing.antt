-- What a server knows, once a version or a snapshot is added.
use Rattle.std.proofs.Common.{◌≡◌, ◌∙◌, ◌<◌, ℕ, zero, suc, Bool, true, false, cond, ◌||◌, Option, Some, None, option_map, List, [], ◌∷◌, ◌++◌, length, get_or, map, refl, sym, ap, subst, arith}
use Rattle.std.specs.Prelude.{All}
use Rattle.std.specs.Ordering.{is_eq}
use Rattle.std.specs.Cmp.Lexicographic.{texts_ties}
use Rattle.std.proofs.lemmas.List.{map-append, get_or_append_left}
use Rattle.std.proofs.lemmas.List.Elements.{All-head, All-tail}
use Rattle.tw_protocol.specs.Chain.{Version, IsUuid, same_id, has_id}
use Rattle.tw_protocol.specs.Snapshots.{Snapshot, IsAccount}
use Rattle.tw_protocol.proofs.Chains.{same_id_exact}
use Rattle.tw_records.specs.Log.{Accepted, ClientSnapshot, Log, HasUuids, IsSound, chain_of, account_of}
use Rattle.tw_records.specs.Bodies.{body_of, entry_of, snapshot_body}
use Rattle.tw_records.specs.Table.{body_at}
use Rattle.tw_records.proofs.Demands.{stored_from-push}
use Rattle.tw_server.specs.declared.images.Placed.{Placed}
use Rattle.tw_server.specs.declared.server.Server.{Server}
use Rattle.tw_server.specs.Server.{Knows, HasPlaces, snapshot_of, image_body}
use Rattle.tw_server.specs.Versions.{image_at, uuid_cmp}

-- ---- the log with one version or one snapshot more

abbrev pub with_accepted : Log → Accepted → Log
with_accepted log a = record { versions = log.versions ++ a ∷ []; snapshots = log.snapshots }

abbrev pub with_stored : Log → ClientSnapshot → Log
with_stored log t = record { versions = log.versions; snapshots = log.snapshots ++ t ∷ [] }

pub version_known : (before server : Server) (log : Log) (a : Accepted) → Knows before log → server.versions.entries.items ≡ before.versions.entries.items ++ entry_of a ∷ []
    → ((client : List ℕ) → image_at server.images client ≡ image_at before.images client) → Knows server (with_accepted log a)
version_known before server log a known entries images = record {
  entries = entries ∙ ap (λ es. es ++ entry_of a ∷ []) known.entries ∙ sym (map-append entry_of log.versions (a ∷ []));
  images = λ client. ap (option_map (λ (p : Placed). p.version)) (images client) ∙ known.images client;
}

-- what the images say, once a client has a new one
module _ (t : ClientSnapshot) (n : ℕ) (client : List ℕ) (stored : Option Snapshot) (before now : Option Placed)
    (is : now ≡ cond (is_eq (uuid_cmp t.client client)) (Some (record { version = t.snapshot.version; number = n })) before) where
  abbrev at : Bool → Option Placed
  at b = cond b (Some (record { version = t.snapshot.version; number = n })) before

  now_is : now ≡ at (same_id t.client client)
  now_is = is ∙ ap at (sym (texts_ties t.client client))

  pub image_version : option_map (λ (p : Placed). p.version) before ≡ option_map (λ (s : Snapshot). s.version) stored
      → option_map (λ (p : Placed). p.version) now ≡ option_map (λ (s : Snapshot). s.version) (cond (same_id t.client client) (Some t.snapshot) stored)
  image_version known = ap (option_map (λ (p : Placed). p.version)) now_is ∙ by (same_id t.client client)
    where
      by : (b : Bool) → option_map (λ (p : Placed). p.version) (at b) ≡ option_map (λ (s : Snapshot). s.version) (cond b (Some t.snapshot) stored)
      by true = refl
      by false = known

  pub image_there : (more : List (List ℕ)) → body_at more n ≡ snapshot_body t
      → option_map (λ (p : Placed). body_at more p.number) before ≡ option_map (λ s. snapshot_body (snapshot_of client s)) stored
      → option_map (λ (p : Placed). body_at more p.number) now ≡ option_map (λ s. snapshot_body (snapshot_of client s)) (cond (same_id t.client client) (Some t.snapshot) stored)
  image_there more body known = ap (option_map (λ (p : Placed). body_at more p.number)) now_is ∙ by (same_id t.client client) refl
    where
      by : (b : Bool) → same_id t.client client ≡ b
          → option_map (λ (p : Placed). body_at more p.number) (at b) ≡ option_map (λ s. snapshot_body (snapshot_of client s)) (cond b (Some t.snapshot) stored)
      by true e = ap (λ x. Some x) (body ∙ ap (λ c. snapshot_body (snapshot_of c t.snapshot)) (same_id_exact t.client client e))
      by false e = known

pub image_known : (before server : Server) (log : Log) (t : ClientSnapshot) (n : ℕ) → Knows before log → server.versions.entries.items ≡ before.versions.entries.items
    → ((client : List ℕ) → image_at server.images client ≡ cond (is_eq (uuid_cmp t.client client)) (Some (record { version = t.snapshot.version; number = n })) (image_at before.images client))
    → Knows server (with_stored log t)
image_known before server log t n known entries images = record {
  entries = entries ∙ known.entries;
  images = λ client.
      image_version t n client (account_of client log).stored (image_at before.images client) (image_at server.images client) (images client) (known.images client)
      ∙ ap (option_map (λ (s : Snapshot). s.version)) (sym (stored_from-push client None log.snapshots t));
}

-- ---- the places

-- the records that it knows are where they were
pub record AreKept (before : Server) (bodies more : List (List ℕ)) : Type 0 where
  pub numbers : map (body_at more) before.versions.numbers.items ≡ map (body_at bodies) before.versions.numbers.items
  pub images : (client : List ℕ) → image_body more before client ≡ image_body bodies before client

pub kept_there : (before : Server) (bodies : List (List ℕ)) → AreKept before bodies bodies
kept_there before bodies = record { numbers = refl; images = λ client. refl }

map_same : {X : Type 0} (f g : ℕ → X) (xs : List ℕ) → All (λ x. f x ≡ g x) xs → map f xs ≡ map g xs
map_same f g [] all = refl
map_same f g (x ∷ xs) all = λ i. All-head (λ x. f x ≡ g x) x xs all i ∷ map_same f g xs (All-tail (λ x. f x ≡ g x) x xs all) i

-- with one record more
pub kept_before : (before : Server) (bodies : List (List ℕ)) (body : List ℕ) → All (λ n. n < length bodies) before.versions.numbers.items
    → ((client : List ℕ) (p : Placed) → image_at before.images client ≡ Some p → p.number < length bodies) → AreKept before bodies (bodies ++ body ∷ [])
kept_before before bodies body numbers images = record {
  numbers = map_same (body_at (bodies ++ body ∷ [])) (body_at bodies) before.versions.numbers.items (λ k d lt. get_or_append_left bodies (body ∷ []) [] (get_or before.versions.numbers.items k d) (numbers k d lt));
  images = λ client. by (image_at before.images client) (images client);
}
  where
    by : (o : Option Placed) → ((p : Placed) → o ≡ Some p → p.number < length bodies)
        → option_map (λ (p : Placed). body_at (bodies ++ body ∷ []) p.number) o ≡ option_map (λ (p : Placed). body_at bodies p.number) o
    by None few = refl
    by (Some p) few = ap (λ x. Some x) (get_or_append_left bodies (body ∷ []) [] p.number (few p refl))

pub last_body : (bodies : List (List ℕ)) (body : List ℕ) (n : ℕ) → n ≡ length bodies → body_at (bodies ++ body ∷ []) n ≡ body
last_body [] body zero e = refl
last_body [] body (suc n) e = absurd (omega (arith, e))
last_body (x ∷ bodies) body zero e = absurd (omega (arith, e))
last_body (x ∷ bodies) body (suc n) e = last_body bodies body n (omega (arith, e))

module _ (before server : Server) (bodies more : List (List ℕ)) (log : Log) (places : HasPlaces before bodies log) (kept : AreKept before bodies more) (n : ℕ) where
  pub version_places : (a : Accepted) → server.versions.entries.items ≡ before.versions.entries.items ++ entry_of a ∷ [] → server.versions.numbers.items ≡ before.versions.numbers.items ++ n ∷ []
      → ((client : List ℕ) → image_at server.images client ≡ image_at before.images client) → body_at more n ≡ body_of a
      → IsSound (log.versions ++ a ∷ []) → ((client : List ℕ) → IsAccount (account_of client (with_accepted log a))) → HasPlaces server more (with_accepted log a)
  version_places a entries numbers images body sound accounts = record {
    knows = version_known before server log a places.knows entries images;
    numbers =
        ap (map (body_at more)) numbers ∙ map-append (body_at more) before.versions.numbers.items (n ∷ [])
        ∙ (λ i. (kept.numbers ∙ places.numbers) i ++ body i ∷ [])
        ∙ sym (map-append body_of log.versions (a ∷ []));
    images = λ client. ap (option_map (λ (p : Placed). body_at more p.number)) (images client) ∙ kept.images client ∙ places.images client;
    sound = sound;
    accounts = accounts;
  }

  pub image_places : (t : ClientSnapshot) → server.versions.entries.items ≡ before.versions.entries.items → server.versions.numbers.items ≡ before.versions.numbers.items
      → ((client : List ℕ) → image_at server.images client ≡ cond (is_eq (uuid_cmp t.client client)) (Some (record { version = t.snapshot.version; number = n })) (image_at before.images client))
      → body_at more n ≡ snapshot_body t → ((client : List ℕ) → IsAccount (account_of client (with_stored log t))) → HasPlaces server more (with_stored log t)
  image_places t entries numbers images body accounts = record {
    knows = image_known before server log t n places.knows entries images;
    numbers = ap (map (body_at more)) numbers ∙ kept.numbers ∙ places.numbers;
    images = λ client.
        image_there t n client (account_of client log).stored (image_at before.images client) (image_at server.images client) (images client) more body (kept.images client ∙ places.images client)
        ∙ ap (option_map (λ s. snapshot_body (snapshot_of client s))) (sym (stored_from-push client None log.snapshots t));
    sound = places.sound;
    accounts = accounts;
  }

-- ---- how long its uuids are

pub known_long : (id : List ℕ) (vs : List Version) → All (λ v. IsUuid v.id) vs → has_id id vs ≡ true → length id ≡ 16
known_long id [] all e = absurd (let no : ⊥ = cc in no)
known_long id (v ∷ vs) all e = by (same_id v.id id) refl e (known_long id vs (All-tail (λ (v : Version). IsUuid v.id) v vs all))
  where
    by : (t : Bool) → same_id v.id id ≡ t → (t || has_id id vs) ≡ true → (has_id id vs ≡ true → length id ≡ 16) → length id ≡ 16
    by true same e rest = subst (λ x. length x ≡ 16) (same_id_exact v.id id same) (All-head (λ (v : Version). IsUuid v.id) v vs all).long
    by false other e rest = rest e

pub client_long : (client id : List ℕ) (vs : List Accepted) → All HasUuids vs → has_id id (chain_of client vs) ≡ true → length client ≡ 16
client_long client id [] all e = absurd (let no : ⊥ = cc in no)
client_long client id (a ∷ vs) all e = by (same_id a.client client) refl e (client_long client id vs (All-tail HasUuids a vs all))
  where
    by : (t : Bool) → same_id a.client client ≡ t → has_id id (cond t (a.version ∷ chain_of client vs) (chain_of client vs)) ≡ true
        → (has_id id (chain_of client vs) ≡ true → length client ≡ 16) → length client ≡ 16
    by true same e rest = subst (λ x. length x ≡ 16) (same_id_exact a.client client same) (All-head HasUuids a vs all).client
    by false other e rest = rest e
