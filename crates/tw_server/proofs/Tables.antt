-- What a server knows of the table of an opening.
use Rattle.std.proofs.Common.{◌≡◌, ◌∙◌, ℕ, Bool, true, false, not, cond, ◌&&◌, Option, Some, None, option_map, Result, Ok, Err, List, [], ◌∷◌, ◌++◌, get_or, drop, map, reverse, refl, sym, ap, subst}
use Rattle.std.specs.Cmp.Lexicographic.{texts_ties}
use Rattle.std.proofs.lemmas.Bool.{and_parts}
use Rattle.std.proofs.lemmas.List.{map-append}
use Rattle.uuid.specs.Parts.{zero_bytes}
use Rattle.tw_protocol.specs.Chain.{same_id, latest, has_id}
use Rattle.tw_protocol.specs.Snapshots.{Snapshot, IsAccount}
use Rattle.tw_protocol.proofs.Chains.{same_id_exact}
use Rattle.tw_records.specs.declared.entry.Entry.{Entry}
use Rattle.tw_records.specs.declared.image.Image.{Image}
use Rattle.tw_records.specs.Log.{ClientSnapshot, HasUuids, IsSound, Log, chain_of, stored_from, account_of}
use Rattle.tw_records.specs.Bodies.{block_size, entry_of, is_next_entry, snapshot_body, is_next_image}
use Rattle.tw_records.specs.Reading.{StandFor}
use Rattle.tw_records.specs.Table.{Row, Placed as Told, Table, version_in, stored_in, log_in, with_row, with_image, body_at, table_in}
use Rattle.tw_records.specs.Laws.{bare_snapshot, tabled}
use Rattle.tw_records.proofs.Bare.{sound_of, account_of_bare, stored_of_bare}
use Rattle.tw_records.proofs.More.{row_entries, bare_entries}
use Rattle.tw_records.proofs.Standing.{standing_is_read, numbers_tell}
use Rattle.tw_server.specs.declared.images.Placed.{Placed}
use Rattle.tw_server.specs.declared.server.Server.{Server}
use Rattle.tw_server.specs.Opening.{IsImageMore, IsTabled, no_rows, placed_from}
use Rattle.tw_server.specs.Server.{Knows, HasPlaces, snapshot_of}
use Rattle.tw_server.specs.Versions.{image_at}
use Rattle.tw_server.proofs.Logs.{nothing_sound, sound-push}
use Rattle.tw_server.proofs.Accounts.{accounts_version, accounts_image}
use Rattle.tw_server.proofs.Knowing.{with_accepted, with_stored}

-- ---- one row or one image more

row_more : (table : Table) (e : Entry) (n : ℕ) → log_in (with_row table e n) ≡ with_accepted (log_in table) (version_in (record { entry = e; number = n }))
row_more table e n = λ i. record { versions = map-append version_in table.rows (record { entry = e; number = n } ∷ []) i; snapshots = map stored_in table.images }

image_more : (table : Table) (image : Image) (n : ℕ) → log_in (with_image table image n) ≡ with_stored (log_in table) (stored_in (record { image = image; number = n }))
image_more table image n = λ i. record { versions = map version_in table.rows; snapshots = map-append stored_in table.images (record { image = image; number = n } ∷ []) i }

placed_push : (client : List ℕ) (before : Option Placed) (ts : List Told) (t : Told)
    → placed_from client before (ts ++ t ∷ []) ≡ cond (same_id t.image.client client) (Some (record { version = t.image.version; number = t.number })) (placed_from client before ts)
placed_push client before [] t = refl
placed_push client before (x ∷ ts) t = placed_push client (cond (same_id x.image.client client) (Some (record { version = x.image.version; number = x.number })) before) ts t

not_true : (b : Bool) → not b ≡ true → b ≡ false
not_true true e = let no : ⊥ = cc in absurd no
not_true false e = refl

module _ (before server : Server) (table : Table) (known : IsTabled before table) (n : ℕ) where
  pub version_tabled : (e : Entry) → is_next_entry (log_in table).versions e ≡ true → HasUuids (version_in (record { entry = e; number = n })) → server.versions.entries.items ≡ before.versions.entries.items ++ e ∷ []
      → server.versions.numbers.items ≡ before.versions.numbers.items ++ n ∷ [] → ((client : List ℕ) → image_at server.images client ≡ image_at before.images client) → IsTabled server (with_row table e n)
  version_tabled e next uuids entries numbers images =
      let row : Row = record { entry = e; number = n } in
      let log = log_in table in
      let chain = chain_of e.client log.versions in
      let first = and_parts (not (same_id e.id zero_bytes) && not (has_id e.id chain)) (same_id (latest chain) e.parent) next in
      let second = and_parts (not (same_id e.id zero_bytes)) (not (has_id e.id chain)) first.0 in
      let sound = sound-push log.versions e.client (version_in row).version known.sound uuids (sym (same_id_exact (latest chain) e.parent first.1)) (not_true (has_id e.id chain) second.1) (not_true (same_id e.id zero_bytes) second.0) in
      record {
        entries = entries ∙ ap (λ es. es ++ e ∷ []) known.entries ∙ sym (map-append (λ (r : Row). r.entry) table.rows (row ∷ []));
        numbers = numbers ∙ ap (λ ns. ns ++ n ∷ []) known.numbers ∙ sym (map-append (λ (r : Row). r.number) table.rows (row ∷ []));
        images = λ client. images client ∙ known.images client;
        sound = subst (λ (l : Log). IsSound l.versions) (sym (row_more table e n)) sound;
        accounts = λ client. subst (λ l. IsAccount (account_of client l)) (sym (row_more table e n)) (accounts_version log (version_in row) sound known.accounts client);
      }

  pub image_tabled : (image : Image) → is_next_image (log_in table) image ≡ true → server.versions.entries.items ≡ before.versions.entries.items → server.versions.numbers.items ≡ before.versions.numbers.items
      → IsImageMore before server image n → IsTabled server (with_image table image n)
  image_tabled image next entries numbers images =
      let told : Told = record { image = image; number = n } in
      let placed : Placed = record { version = image.version; number = n } in
      record {
        entries = entries ∙ known.entries;
        numbers = numbers ∙ known.numbers;
        images = λ client.
            images client ∙ ap (λ b. cond b (Some placed) (image_at before.images client)) (sym (texts_ties image.client client))
            ∙ ap (λ o. cond (same_id image.client client) (Some placed) o) (known.images client) ∙ sym (placed_push client None table.images told);
        sound = known.sound;
        accounts = λ client. subst (λ l. IsAccount (account_of client l)) (sym (image_more table image n)) (accounts_image (log_in table) (stored_in told) next known.accounts client);
      }

-- nothing is known yet
pub nothing_tabled : (server : Server) → server.versions.entries.items ≡ [] → server.versions.numbers.items ≡ [] → ((client : List ℕ) → image_at server.images client ≡ None) → IsTabled server no_rows
nothing_tabled server entries numbers images = record {
  entries = entries;
  numbers = numbers;
  images = images;
  sound = nothing_sound;
  accounts = λ client. record { chain = nothing_sound.chains client; stored = tt };
}

-- ---- the log of a table is known

placed_versions : (client : List ℕ) (ts : List Told) (p : Option Placed) (s : Option Snapshot) → option_map (λ (p : Placed). p.version) p ≡ option_map (λ (s : Snapshot). s.version) s
    → option_map (λ (p : Placed). p.version) (placed_from client p ts) ≡ option_map (λ (s : Snapshot). s.version) (stored_from client s (map stored_in ts))
placed_versions client [] p s e = e
placed_versions client (t ∷ ts) p s e = by (same_id t.image.client client) (placed_versions client ts)
  where
    by : (b : Bool) → ((p : Option Placed) (s : Option Snapshot) → option_map (λ (p : Placed). p.version) p ≡ option_map (λ (s : Snapshot). s.version) s
        → option_map (λ (p : Placed). p.version) (placed_from client p ts) ≡ option_map (λ (s : Snapshot). s.version) (stored_from client s (map stored_in ts)))
        → option_map (λ (p : Placed). p.version) (placed_from client (cond b (Some (record { version = t.image.version; number = t.number })) p) ts)
        ≡ option_map (λ (s : Snapshot). s.version) (stored_from client (cond b (Some (stored_in t).snapshot) s) (map stored_in ts))
    by true rest = rest (Some (record { version = t.image.version; number = t.number })) (Some (stored_in t).snapshot) refl
    by false rest = rest p s e

pub tabled_knows : (server : Server) (table : Table) → IsTabled server table → Knows server (log_in table)
tabled_knows server table known = record {
  entries = known.entries ∙ row_entries table.rows;
  images = λ client. ap (option_map (λ (p : Placed). p.version)) (known.images client) ∙ placed_versions client table.images None None refl;
}

-- ---- the places of a table are those of the log that the records stand for

numbers_at : (bodies : List (List ℕ)) (rows : List Row) → map (body_at bodies) (map (λ (row : Row). row.number) rows) ≡ map (λ (row : Row). body_at bodies row.number) rows
numbers_at bodies [] = refl
numbers_at bodies (row ∷ rows) = λ i. body_at bodies row.number ∷ numbers_at bodies rows i

module _ (bodies : List (List ℕ)) (client : List ℕ) where
  abbrev body_of_placed : Option Placed → Option (List ℕ)
  body_of_placed = option_map (λ (p : Placed). body_at bodies p.number)

  abbrev body_of_stored : Option Snapshot → Option (List ℕ)
  body_of_stored = option_map (λ s. snapshot_body (snapshot_of client s))

  placed_bodies : (told : List Told) (ts : List ClientSnapshot) → map stored_in told ≡ map bare_snapshot ts → map (λ (p : Told). body_at bodies p.number) told ≡ map snapshot_body ts
      → (p : Option Placed) (s : Option Snapshot) → body_of_placed p ≡ body_of_stored s → body_of_placed (placed_from client p told) ≡ body_of_stored (stored_from client s ts)
  placed_bodies [] [] clients records p s e = e
  placed_bodies [] (t ∷ ts) clients records p s e = absurd (let no : ⊥ = cc in no)
  placed_bodies (q ∷ told) [] clients records p s e = absurd (let no : ⊥ = cc in no)
  placed_bodies (q ∷ told) (t ∷ ts) clients records p s e =
      let client_is : q.image.client ≡ t.client = ap (λ (l : List ClientSnapshot). (get_or l 0 t).client) clients in
      let body_is : body_at bodies q.number ≡ snapshot_body t = ap (λ (l : List (List ℕ)). get_or l 0 []) records in
      ap (λ c. body_of_placed (placed_from client (cond (same_id c client) (Some (record { version = q.image.version; number = q.number })) p) told)) client_is
      ∙ by (same_id t.client client) refl body_is (placed_bodies told ts (ap (drop 1) clients) (ap (drop 1) records))
    where
      by : (b : Bool) → same_id t.client client ≡ b → body_at bodies q.number ≡ snapshot_body t
          → ((p : Option Placed) (s : Option Snapshot) → body_of_placed p ≡ body_of_stored s → body_of_placed (placed_from client p told) ≡ body_of_stored (stored_from client s ts))
          → body_of_placed (placed_from client (cond b (Some (record { version = q.image.version; number = q.number })) p) told) ≡ body_of_stored (stored_from client (cond b (Some t.snapshot) s) ts)
      by true same body rest =
          rest (Some (record { version = q.image.version; number = q.number })) (Some t.snapshot)
          (ap (λ x. Some x) (body ∙ ap (λ c. snapshot_body (snapshot_of c t.snapshot)) (same_id_exact t.client client same)))
      by false other body rest = rest p s e

pub same_table : (x y : Table) (r : Result Table ℕ) → r ≡ Ok x → r ≡ Ok y → x ≡ y
same_table x y r a b = ap got (sym a ∙ b)
  where
    got : Result Table ℕ → Table
    got (Ok z) = z
    got (Err n) = x

pub standing_places : (server : Server) (bodies : List (List ℕ)) (table : Table) (log : Log) → table_in block_size bodies ≡ Ok table → IsTabled server table → StandFor bodies log → HasPlaces server bodies log
standing_places server bodies table log read known stands =
    let law = standing_is_read bodies log stands in
    let numbers = numbers_tell bodies log stands in
    let t : Table = tabled (reverse bodies) in
    let same : table ≡ t = same_table table t (table_in block_size bodies) read law.0 in
    let k = subst (IsTabled server) same known in
    let knows = tabled_knows server t k in
    record {
      knows = record {
        entries = knows.entries ∙ ap (λ (l : Log). map entry_of l.versions) law.1 ∙ bare_entries log.versions;
        images = λ client. knows.images client ∙ ap (λ l. option_map (λ (s : Snapshot). s.version) (account_of client l).stored) law.1 ∙ stored_of_bare client log;
      };
      numbers = ap (map (body_at bodies)) k.numbers ∙ numbers_at bodies t.rows ∙ numbers.0;
      images = λ client. ap (body_of_placed bodies client) (k.images client) ∙ placed_bodies bodies client t.images log.snapshots (ap (λ (l : Log). l.snapshots) law.1) numbers.1 None None refl;
      sound = sound_of log.versions (subst (λ (l : Log). IsSound l.versions) law.1 k.sound);
      accounts = λ client. account_of_bare client log (subst (λ l. IsAccount (account_of client l)) law.1 (k.accounts client));
    }
