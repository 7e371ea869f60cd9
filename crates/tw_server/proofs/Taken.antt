-- What each source adds to what an opening has read.
use Rattle.std.proofs.Common.{◌≡◌, ◌∙◌, ◌<◌, ◌≤◌, ◌+◌, ◌*◌, ℕ, Bool, true, false, cond, ◌&&◌, ◌==◌, Result, Ok, Err, List, [], ◌∷◌, ◌++◌, length, get_or, take, drop, reverse, sym, ap, subst, arith}
use Rattle.std.specs.Result.{IfErr}
use Rattle.std.proofs.lemmas.Bool.{true≢false, and_parts}
use Rattle.std.proofs.lemmas.Bool.Decides.{nat_tests}
use Rattle.std.specs.Prelude.{All}
use Rattle.std.proofs.Math.Seq.{get_or-append_seam}
use Rattle.std.proofs.lemmas.List.{append-nil, append_assoc, reverse-append, length-append, get_or_append_left, length-take, length-drop}
use Rattle.std.proofs.lemmas.List.Elements.{All-take, All-drop}
use Rattle.tw_world.specs.Bytes.{IsBytes}
use Rattle.tw_world.specs.Disk.{DiskModel}
use Rattle.tw_journal.specs.Form.{offset_in}
use Rattle.tw_journal.specs.Journal.{IsOpenOn, ReadRefused}
use Rattle.tw_journal.specs.declared.journal.Journal.{Journal}
use Rattle.tw_journal.specs.declared.error.ReadError.{ReadError}
use Rattle.tw_journal.specs.declared.error.ReadError.TheVariants as reads
use Rattle.tw_protocol.specs.Chain.{IsUuid}
use Rattle.tw_records.specs.declared.entry.Entry.{Entry}
use Rattle.tw_records.specs.declared.image.Image.{Image}
use Rattle.tw_records.specs.Log.{HasUuids}
use Rattle.tw_records.specs.Bodies.{block_size, is_kind, is_body, entry_of, accepted_in, is_next_entry, follows}
use Rattle.tw_records.specs.Bodies.{image_of, snapshot_in, is_snapshot_body, is_next_image, is_stored}
use Rattle.tw_records.specs.declared.walk.Source.{Source}
use Rattle.tw_records.specs.declared.walk.Source.TheVariants.{Own, Named, Block, Stored}
use Rattle.tw_records.specs.Table.{is_block_body, Table, version_in, log_in, with_row, with_image, entry_at, body_at, row_or, taken, and_then, table_by}
use Rattle.tw_records.proofs.Spelled.{long_body, body_uuids}
use Rattle.tw_records.proofs.Fronts.{front_follows, front_entry, front_uuids, front_stored, front_image}
use Rattle.tw_records.proofs.Standing.{table_push}
use Rattle.tw_server.specs.declared.error.ServerOpenError.{ServerOpenError}
use Rattle.tw_server.specs.declared.error.ServerOpenError.TheVariants as errors
use Rattle.tw_server.specs.declared.server.Server.{Server}
use Rattle.tw_server.specs.Opening.{IfDamaged, IsDamageBy, IsImageMore, IsReadBy, IsTabled, TakeRefused, no_rows}
use Rattle.tw_server.specs.Faults.{read_in_opening}
use Rattle.tw_server.specs.Server.{magic}
use Rattle.tw_server.specs.Versions.{image_at}
use Rattle.tw_server.proofs.Tables.{version_tabled, image_tabled}

-- ---- the uuids of a version that was read

uuid_at : (n : ℕ) (xs : List ℕ) → n + 16 ≤ length xs → IsBytes xs → IsUuid (take 16 (drop n xs))
uuid_at n xs long small = record {
  long = let a = length-take 16 (drop n xs) in let b = length-drop n xs in omega (arith, a, b, long);
  bytes = All-take (λ b. b < 256) 16 (drop n xs) (All-drop (λ b. b < 256) n xs small);
}

named_uuids : (place : ℕ) (block : List ℕ) (n : ℕ) → place < 256 → is_block_body block_size block ≡ true → IsBytes block → HasUuids (version_in (record { entry = entry_at place block; number = n }))
named_uuids place block n inside whole small =
    let long : length block ≡ 12289 = let t = (and_parts (is_kind 2 block) (length block == 12289) whole).1 in grind (arith, nat_tests) in
    record {
      client = (uuid_at (1 + 48 * place) block (omega (arith, long, inside)) small).long;
      id = uuid_at (17 + 48 * place) block (omega (arith, long, inside)) small;
      parent = uuid_at (33 + 48 * place) block (omega (arith, long, inside)) small;
    }

-- ---- a version

module _ (before server : Server) (table : Table) (known : IsTabled before table) (n : ℕ) where
  module _ (told : Entry) (entries : server.versions.entries.items ≡ before.versions.entries.items ++ told ∷ []) (numbers : server.versions.numbers.items ≡ before.versions.numbers.items ++ n ∷ [])
      (images : (client : List ℕ) → image_at server.images client ≡ image_at before.images client) where
    row_read : (e : Entry) (damaged : ℕ) (whole : Bool) → told ≡ e → whole && is_next_entry (log_in table).versions e ≡ true → HasUuids (version_in (record { entry = e; number = n })) → IsReadBy server (row_or table whole e n damaged)
    row_read e damaged whole is ok uuids = (
      with_row table e n,
      ap (λ t. cond {A = Result Table ℕ} t (Ok (with_row table e n)) (Err damaged)) ok,
      version_tabled before server table known n e (and_parts whole (is_next_entry (log_in table).versions e) ok).1 uuids (entries ∙ ap (λ x. before.versions.entries.items ++ x ∷ []) is) numbers images,
    )

    pub own_read : (bodies : List (List ℕ)) (front : List ℕ) → front ≡ take 49 (body_at bodies n) → IsBytes front → follows (log_in table).versions front ≡ true → told ≡ entry_of (accepted_in front) → IsReadBy server (taken block_size bodies table (Own n))
    own_read bodies front is small ok named =
        let body = body_at bodies n in
        let vs = (log_in table).versions in
        let follows_body : follows vs body ≡ true = sym (front_follows body vs) ∙ ap (follows vs) (sym is) ∙ ok in
        let whole = (and_parts (is_body front) (is_next_entry vs (entry_of (accepted_in front))) ok).0 in
        let uuids = front_uuids body (subst (λ f. HasUuids (accepted_in f)) is (body_uuids front (long_body front whole) small)) in
        row_read (entry_of (accepted_in body)) n (is_body body) (named ∙ ap (λ f. entry_of (accepted_in f)) is ∙ front_entry body) follows_body (record { client = uuids.client; id = uuids.id; parent = uuids.parent })

    pub named_read : (bodies : List (List ℕ)) (block place : ℕ) (shown : List ℕ) → shown ≡ body_at bodies block → place < 256 → IsBytes shown → is_block_body block_size shown && is_next_entry (log_in table).versions (entry_at place shown) ≡ true
        → told ≡ entry_at place shown → IsReadBy server (taken block_size bodies table (Named block place n))
    named_read bodies block place shown is inside small ok named =
        subst (λ body. IsReadBy server (row_or table (is_block_body block_size body) (entry_at place body) n block)) is
        (row_read (entry_at place shown) block (is_block_body block_size shown) named ok
        (named_uuids place shown n inside (and_parts (is_block_body block_size shown) (is_next_entry (log_in table).versions (entry_at place shown)) ok).0 small))

  pub stored_read : (bodies : List (List ℕ)) (front : List ℕ) (told : Image) → front ≡ take 49 (body_at bodies n) → is_stored (log_in table) front ≡ true → told ≡ image_of (snapshot_in front)
      → server.versions.entries.items ≡ before.versions.entries.items → server.versions.numbers.items ≡ before.versions.numbers.items → IsImageMore before server told n → IsReadBy server (taken block_size bodies table (Stored n))
  stored_read bodies front told is ok named entries numbers images =
      let body = body_at bodies n in
      let image = image_of (snapshot_in body) in
      let stored : is_stored (log_in table) body ≡ true = sym (front_stored body (log_in table)) ∙ ap (is_stored (log_in table)) (sym is) ∙ ok in
      let same : told ≡ image = named ∙ ap (λ f. image_of (snapshot_in f)) is ∙ front_image body in (
        with_image table image n,
        ap (λ t. cond {A = Result Table ℕ} t (Ok (with_image table image n)) (Err n)) stored,
        image_tabled before server table known n image (and_parts (is_snapshot_body body) (is_next_image (log_in table) image) stored).1 entries numbers (subst (λ x. IsImageMore before server x n) same images),
      )

-- ---- damage

row_bad : (table : Table) (whole : Bool) (e : Entry) (n damaged : ℕ) → whole && is_next_entry (log_in table).versions e ≡ false → row_or table whole e n damaged ≡ Err damaged
row_bad table whole e n damaged none = ap (λ t. cond {A = Result Table ℕ} t (Ok (with_row table e n)) (Err damaged)) none

module _ (table : Table) (bodies : List (List ℕ)) (n : ℕ) where
  pub own_bad : (front : List ℕ) → front ≡ take 49 (body_at bodies n) → follows (log_in table).versions front ≡ false → taken block_size bodies table (Own n) ≡ Err n
  own_bad front is none =
      let body = body_at bodies n in
      row_bad table (is_body body) (entry_of (accepted_in body)) n n (sym (front_follows body (log_in table).versions) ∙ ap (follows (log_in table).versions) (sym is) ∙ none)

  pub named_bad : (block place : ℕ) (shown : List ℕ) → shown ≡ body_at bodies block → is_block_body block_size shown && is_next_entry (log_in table).versions (entry_at place shown) ≡ false → taken block_size bodies table (Named block place n) ≡ Err block
  named_bad block place shown is none =
      subst (λ body. row_or table (is_block_body block_size body) (entry_at place body) n block ≡ Err block) is (row_bad table (is_block_body block_size shown) (entry_at place shown) n block none)

  pub block_is : (shown : List ℕ) (t : Bool) → shown ≡ body_at bodies n → is_block_body block_size shown ≡ t → taken block_size bodies table (Block n) ≡ cond t (Ok table) (Err n)
  block_is shown t is whole = ap (λ b. cond {A = Result Table ℕ} b (Ok table) (Err n)) (ap (is_block_body block_size) (sym is) ∙ whole)

  pub stored_bad : (front : List ℕ) → front ≡ take 49 (body_at bodies n) → is_stored (log_in table) front ≡ false → taken block_size bodies table (Stored n) ≡ Err n
  stored_bad front is none =
      let body = body_at bodies n in
      ap (λ t. cond {A = Result Table ℕ} t (Ok (with_image table (image_of (snapshot_in body)) n)) (Err n)) (sym (front_stored body (log_in table)) ∙ ap (is_stored (log_in table)) (sym is) ∙ none)

-- damage is at the record that a reading names
pub damage_by : (file : List ℕ) (bodies : List (List ℕ)) (read : Result Table ℕ) (n : ℕ) (e : ServerOpenError) → read ≡ Err n → n < length bodies → IfDamaged e (λ offset. offset ≡ offset_in magic file bodies n) → IfDamaged e (IsDamageBy file bodies read)
damage_by file bodies read n errors.Disk bad inside at = tt
damage_by file bodies read n (errors.Damaged offset) bad inside at = record { number = n; damaged = bad; inside = inside; at = at }
damage_by file bodies read n errors.Memory bad inside at = tt

-- a read is never refused as damaged if the journal is open
module _ {D : Type 0} (m : DiskModel D) (journal : Journal) (before after : D) (form : List ℕ) (bodies : List (List ℕ)) where
  pub read_no_damage : (e : ReadError) (P : ℕ → Type 0) → ReadRefused m before after journal e → IsOpenOn m form journal before bodies → IfDamaged (read_in_opening e) P
  read_no_damage reads.Disk P refused on = tt
  read_no_damage reads.Closed P refused on = tt
  read_no_damage (reads.Damaged offset) P refused on = absurd (refused on.rest.tells form bodies on)
  read_no_damage reads.Memory P refused on = tt

pub read_take_refused : {D : Type 0} (m : DiskModel D) (journal : Journal) (before after : D) (e : ReadError) → journal.closed ≡ false → ReadRefused m before after journal e → TakeRefused m before after (read_in_opening e)
read_take_refused m journal before after reads.Disk open_now refused = refused
read_take_refused m journal before after reads.Closed open_now refused = absurd (true≢false (sym refused ∙ open_now))
read_take_refused m journal before after (reads.Damaged offset) open_now refused = tt
read_take_refused m journal before after reads.Memory open_now refused = tt

-- a want of memory is no damage
pub memory_no_damage : {X : Type 0} (r : Result X ServerOpenError) (P : ServerOpenError → Type 0) → IfErr r (λ e. e ≡ errors.Memory) → P errors.Memory → IfErr r P
memory_no_damage (Ok x) P is p = tt
memory_no_damage (Err e) P is p = subst P (sym is) p

-- ---- one source after another

pub all_last : {X : Type 0} (P : X → Type 0) (xs ys : List X) (x : X) → xs ≡ ys ++ x ∷ [] → All P xs → P x
all_last P xs ys x is all = subst P (get_or-append_seam ys x [] x) (subst (All P) is all (length ys) x (let long = length-append ys (x ∷ []) in omega (arith, long)))

pub all_before : {X : Type 0} (P : X → Type 0) (xs ys : List X) (x : X) → xs ≡ ys ++ x ∷ [] → All P xs → All P ys
all_before P xs ys x is all k d lt = subst P (get_or_append_left ys (x ∷ []) d k lt) (subst (All P) is all k d (let long = length-append ys (x ∷ []) in omega (arith, lt, long)))

-- those that are left, the last one first, and the one that is taken
pub one_fewer : (sources done before left : List Source) (source : Source) → sources ≡ done ++ reverse before → before ≡ left ++ source ∷ [] → sources ≡ (done ++ source ∷ []) ++ reverse left
one_fewer sources done before left source all is =
    all ∙ ap (λ l. done ++ reverse l) is ∙ ap (λ l. done ++ l) (reverse-append left (source ∷ [])) ∙ sym (append_assoc done (source ∷ []) (reverse left))

pub none_left : (sources done left : List Source) → sources ≡ done ++ reverse left → left ≡ [] → done ≡ sources
none_left sources done left all none = sym (all ∙ ap (λ l. done ++ reverse l) none ∙ append-nil done)

module _ (bodies : List (List ℕ)) where
  abbrev by_all : Table → List Source → Result Table ℕ
  by_all = table_by block_size bodies

  -- damage of a front part of the sources is damage of all
  by_more : (t : Table) (ss more : List Source) (n : ℕ) → by_all t ss ≡ Err n → by_all t (ss ++ more) ≡ Err n
  by_more t [] more n e = absurd (let no : ⊥ = cc in no)
  by_more t (x ∷ ss) more n e = by (taken block_size bodies t x) e (λ u f. by_more u ss more n f)
    where
      by : (r : Result Table ℕ) → and_then block_size bodies r (λ next. by_all next ss) ≡ Err n → ((u : Table) → by_all u ss ≡ Err n → by_all u (ss ++ more) ≡ Err n) → and_then block_size bodies r (λ next. by_all next (ss ++ more)) ≡ Err n
      by (Ok u) e f = f u e
      by (Err k) e f = e

  -- all sources are those that were taken, one more, and those that are left
  module _ (sources done left : List Source) (source : Source) (table : Table) (all : sources ≡ (done ++ source ∷ []) ++ left) (so_far : by_all no_rows done ≡ Ok table) where
    pub one_more : by_all no_rows (done ++ source ∷ []) ≡ taken block_size bodies table source
    one_more = table_push bodies no_rows done source table so_far

    bad_there : (n : ℕ) → taken block_size bodies table source ≡ Err n → by_all no_rows sources ≡ Err n
    bad_there n bad = ap (by_all no_rows) all ∙ by_more no_rows (done ++ source ∷ []) left n (one_more ∙ bad)

    -- damage of one source is damage of all
    pub damage_there : (file : List ℕ) (e : ServerOpenError) → IfDamaged e (IsDamageBy file bodies (taken block_size bodies table source)) → IfDamaged e (IsDamageBy file bodies (by_all no_rows sources))
    damage_there file errors.Disk bad = tt
    damage_there file (errors.Damaged offset) bad = record { number = bad.number; damaged = bad_there bad.number bad.damaged; inside = bad.inside; at = bad.at }
    damage_there file errors.Memory bad = tt
