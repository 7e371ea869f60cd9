-- An opening reads what records stand for.
use Rattle.std.proofs.Common.{◌≡◌, ℕ, zero, suc, ◌+◌, ◌-◌, ◌*◌, ◌<◌, ◌≤◌, Bool, true, false, cond, ◌&&◌, ◌==◌, nat_le, List, [], ◌∷◌, ◌++◌, length, get_or, map, reverse, Some, refl, sym, ap, subst, ◌∙◌, append_assoc, arith}
use Rattle.std.specs.Prelude.{Result, Ok, Err}
use Rattle.std.proofs.lemmas.Bool.{and_parts}
use Rattle.std.proofs.lemmas.Bool.Decides.{nat_tests}
use Rattle.std.proofs.lemmas.List.{append-nil, length-append, length-map, length-drop, reverse-append, reverse-reverse, length-reverse, map-append, get_or_append_left, get_or-drop, drop-map}
use Rattle.std.proofs.Math.Seq.{get_or-append_seam}
use Rattle.tw_protocol.specs.Chain.{same_id}
use Rattle.tw_protocol.specs.Snapshots.{is_welcome}
use Rattle.tw_protocol.proofs.Chains.{same_id_exact}
use Rattle.tw_records.specs.declared.entry.Entry.{Entry}
use Rattle.tw_records.specs.Log.{Accepted, ClientSnapshot, account_of}
use Rattle.tw_records.specs.Bodies.{block_size, block_of, last_of, is_kind, is_body, is_next_entry, follows, body_of, snapshot_body, entry_of, accepted_in}
use Rattle.tw_records.specs.Bodies.{snapshot_in, image_of, is_snapshot_body, is_next_image, is_stored}
use Rattle.tw_records.specs.Reading.{Reading, nothing_read, with_version, with_block, with_snapshot, read_body, read_from, is_block}
use Rattle.tw_records.specs.Table.{Source, Own, Named, Block, Stored, Odd, sources_of, other, is_block_body, Row, Placed, Table, version_in, stored_in, log_in}
use Rattle.tw_records.specs.Table.{with_row, with_image, entry_at, body_at, taken, and_then, table_by}
use Rattle.tw_records.specs.Laws.{bare_version, bare_snapshot, tabled, StandingIsRead, NumbersTell}
use Rattle.tw_records.proofs.Back.{read_back, back_is, some_from, same_reading, by_kind, snapshot_tests, both, third_kind}
use Rattle.tw_records.proofs.Bare.{next_bare, welcome_bare}
use Rattle.tw_records.proofs.Spelled.{body_back, snapshot_back}
use Rattle.tw_records.proofs.Named.{AreLong, long_more, long_last, fields_long, named_at, block_length}

abbrev start : Table
start = record { rows = []; images = [] }

module _ (all : List (List ℕ)) where
  abbrev by_all : Table → List Source → Result Table ℕ
  by_all = table_by block_size all

  abbrev take_one : Table → Source → Result Table ℕ
  take_one = taken block_size all

  and_ok : (r : Result Table ℕ) → and_then block_size all r (λ t. Ok t) ≡ r
  and_ok (Ok t) = refl
  and_ok (Err n) = refl

  pub table_push : (t : Table) (ss : List Source) (s : Source) (mid : Table) → by_all t ss ≡ Ok mid → by_all t (ss ++ s ∷ []) ≡ take_one mid s
  table_push t [] s mid e = and_ok (take_one t s) ∙ ap (λ (r : Result Table ℕ). take_one (got t r) s) e
    where
      got : Table → Result Table ℕ → Table
      got t (Ok x) = x
      got t (Err n) = t
  table_push t (x ∷ ss) s mid e = by (take_one t x) e (λ u f. table_push u ss s mid f)
    where
      by : (r : Result Table ℕ) → and_then block_size all r (λ next. by_all next ss) ≡ Ok mid → ((u : Table) → by_all u ss ≡ Ok mid → by_all u (ss ++ s ∷ []) ≡ take_one mid s) → and_then block_size all r (λ next. by_all next (ss ++ s ∷ [])) ≡ take_one mid s
      by (Ok u) e f = f u e
      by (Err n) e f = absurd (cc)

  -- the body with this number names the last so many of these versions, in its first places
  pub record Names (k b : ℕ) (log : List Accepted) : Type 0 where
    pub whole : 0 < k → is_block_body block_size (body_at all b) ≡ true
    pub says : (j : ℕ) (d : Entry) → j < k → entry_at j (body_at all b) ≡ get_or (map entry_of log) (length log - k + j) d

  -- the bodies, of which the last comes first, were read, and lead to their table also where the last so many versions are told by a block
  pub record Stands (back : List (List ℕ)) (r : Reading) : Type 0 where
    pub few : r.fresh ≤ length r.log.versions
    pub long : AreLong r.log.versions
    pub versions : map version_in (tabled back).rows ≡ map bare_version r.log.versions
    pub images : map stored_in (tabled back).images ≡ map bare_snapshot r.log.snapshots
    pub records : map (λ (x : Row). body_at all x.number) (tabled back).rows ≡ map body_of r.log.versions
    pub pictures : map (λ (x : Placed). body_at all x.number) (tabled back).images ≡ map snapshot_body r.log.snapshots
    pub walk : (k b : ℕ) → k ≤ r.fresh → Names k b r.log.versions → by_all start (sources_of block_size k b back) ≡ Ok (tabled back)

  nothing_stands : Stands [] nothing_read
  nothing_stands = record { few = omega arith; long = tt; versions = refl; images = refl; records = refl; pictures = refl; walk = λ k b le names. ends k b le }
    where
      ends : (k b : ℕ) → k ≤ 0 → by_all start (sources_of block_size k b []) ≡ Ok start
      ends zero b le = refl
      ends (suc k) b le = absurd (omega (arith, le))

  module _ (earlier : List (List ℕ)) (body : List ℕ) (q : Reading) (there : body_at all (length earlier) ≡ body) (h : Stands earlier q) where
    abbrev n : ℕ
    n = length earlier

    abbrev t0 : Table
    t0 = tabled earlier

    may_follow : (e : Entry) → is_next_entry (log_in t0).versions e ≡ is_next_entry q.log.versions e
    may_follow e = ap (λ vs. is_next_entry vs e) h.versions ∙ next_bare q.log.versions e

    may_store : (c v : List ℕ) → is_welcome (account_of c (log_in t0)) v ≡ is_welcome (account_of c q.log) v
    may_store c v = (λ i. is_welcome (account_of c (record { versions = h.versions i; snapshots = h.images i })) v) ∙ welcome_bare c v q.log

    -- a version
    module _ (f : follows q.log.versions body ≡ true) where
      abbrev a : Accepted
      a = accepted_in body

      tests : (is_body body ≡ true) × (is_next_entry q.log.versions (entry_of a) ≡ true)
      tests = and_parts (is_body body) (is_next_entry q.log.versions (entry_of a)) f

      kind : is_kind 1 body ≡ true
      kind = (and_parts (is_kind 1 body) (nat_le 49 (length body)) tests.0).0

      tabled_is : tabled (body ∷ earlier) ≡ with_row t0 (entry_of a) n
      tabled_is = ap (λ t. cond t (with_row t0 (entry_of a) n) (cond (is_kind 3 body) (with_image t0 (image_of (snapshot_in body)) n) t0)) kind

      row_taken : (e : Entry) (x : Bool) (wrong : ℕ) → e ≡ entry_of a → x ≡ true → cond {A = Result Table ℕ} (x && is_next_entry (log_in t0).versions e) (Ok (with_row t0 e n)) (Err wrong) ≡ Ok (with_row t0 (entry_of a) n)
      row_taken e x wrong same holds =
          ap (λ y. cond {A = Result Table ℕ} (x && is_next_entry (log_in t0).versions y) (Ok (with_row t0 y n)) (Err wrong)) same
          ∙ ap (λ t. cond {A = Result Table ℕ} t (Ok (with_row t0 (entry_of a) n)) (Err wrong)) (both x (is_next_entry (log_in t0).versions (entry_of a)) holds (may_follow (entry_of a) ∙ tests.1))

      own_taken : take_one t0 (Own n) ≡ Ok (with_row t0 (entry_of a) n)
      own_taken = ap (λ x. cond {A = Result Table ℕ} (is_body x && is_next_entry (log_in t0).versions (entry_of (accepted_in x))) (Ok (with_row t0 (entry_of (accepted_in x)) n)) (Err n)) there ∙ row_taken (entry_of a) (is_body body) n refl tests.0

      longer : length (q.log.versions ++ a ∷ []) ≡ length q.log.versions + 1
      longer = length-append q.log.versions (a ∷ [])

      fewer : (p b : ℕ) → p ≤ q.fresh → Names (suc p) b (q.log.versions ++ a ∷ []) → Names p b q.log.versions
      fewer p b le names = record {
        whole = λ some. names.whole (omega arith);
        says = λ j d lt.
            let at : length (q.log.versions ++ a ∷ []) - suc p + j ≡ length q.log.versions - p + j = omega (arith, longer, le, h.few) in
            let inside : length q.log.versions - p + j < length (map entry_of q.log.versions) = omega (arith, length-map q.log.versions entry_of, le, h.few, lt) in
            names.says j d (omega (arith, lt))
            ∙ (λ i. get_or (map-append entry_of q.log.versions (a ∷ []) i) (at i) d)
            ∙ get_or_append_left (map entry_of q.log.versions) (entry_of a ∷ []) d (length q.log.versions - p + j) inside;
      }

      last_named : (p b : ℕ) → p ≤ q.fresh → Names (suc p) b (q.log.versions ++ a ∷ []) → entry_at p (body_at all b) ≡ entry_of a
      last_named p b le names =
          let at : length (q.log.versions ++ a ∷ []) - suc p + p ≡ length (map entry_of q.log.versions) = omega (arith, longer, length-map q.log.versions entry_of, le, h.few) in
          names.says p (entry_of a) (omega arith)
          ∙ (λ i. get_or (map-append entry_of q.log.versions (a ∷ []) i) (at i) (entry_of a))
          ∙ get_or-append_seam (map entry_of q.log.versions) (entry_of a) [] (entry_of a)

      version_walk : (k b : ℕ) → k ≤ q.fresh + 1 → Names k b (q.log.versions ++ a ∷ []) → by_all start (sources_of block_size k b (body ∷ earlier)) ≡ Ok (tabled (body ∷ earlier))
      version_walk zero b le names =
          ap (λ t. by_all start (cond t (sources_of block_size zero b earlier ++ Own n ∷ []) (cond (is_kind 2 body) (sources_of block_size block_size n earlier ++ Block n ∷ []) (sources_of block_size zero b earlier ++ other body n ∷ [])))) kind
          ∙ table_push start (sources_of block_size zero b earlier) (Own n) t0 (h.walk zero b (omega arith) (record { whole = λ none. absurd (omega (arith, none)); says = λ j d lt. absurd (omega (arith, lt)) }))
          ∙ own_taken ∙ ap (λ t. Ok t) (sym tabled_is)
      version_walk (suc p) b le names =
          ap (λ t. by_all start (cond t (sources_of block_size p b earlier ++ Named b p n ∷ []) (cond (is_kind 2 body) (sources_of block_size block_size n earlier ++ (Block n ∷ Odd b ∷ [])) (sources_of block_size (suc p) b earlier ++ other body n ∷ [])))) kind
          ∙ table_push start (sources_of block_size p b earlier) (Named b p n) t0 (h.walk p b (omega (arith, le)) (fewer p b (omega (arith, le)) names))
          ∙ row_taken (entry_at p (body_at all b)) (is_block_body block_size (body_at all b)) b (last_named p b (omega (arith, le)) names) (names.whole (omega arith))
          ∙ ap (λ t. Ok t) (sym tabled_is)

      version_stands : Stands (body ∷ earlier) (with_version q body)
      version_stands = record {
        few = omega (arith, longer, h.few);
        long = long_more q.log.versions a h.long (fields_long body tests.0);
        versions =
            ap (λ t. map version_in t.rows) tabled_is ∙ map-append version_in t0.rows (record { entry = entry_of a; number = n } ∷ [])
            ∙ ap (λ vs. vs ++ bare_version a ∷ []) h.versions ∙ sym (map-append bare_version q.log.versions (a ∷ []));
        images = ap (λ t. map stored_in t.images) tabled_is ∙ h.images;
        records =
            ap (λ t. map (λ (x : Row). body_at all x.number) t.rows) tabled_is
            ∙ map-append (λ (x : Row). body_at all x.number) t0.rows (record { entry = entry_of a; number = n } ∷ [])
            ∙ (λ i. h.records i ++ (there ∙ sym (body_back body tests.0)) i ∷ [])
            ∙ sym (map-append body_of q.log.versions (a ∷ []));
        pictures = ap (λ t. map (λ (x : Placed). body_at all x.number) t.images) tabled_is ∙ h.pictures;
        walk = version_walk;
      }

    -- a block
    module _ (f : is_block q body ≡ true) where
      parts : (nat_le block_size q.fresh ≡ true) × (same_id body (block_of (map entry_of (last_of block_size q.log.versions))) ≡ true)
      parts = and_parts (nat_le block_size q.fresh) (same_id body (block_of (map entry_of (last_of block_size q.log.versions)))) f

      many : 256 ≤ q.fresh
      many = let t = parts.0 in grind (arith, nat_tests)

      abbrev last : List Accepted
      last = last_of block_size q.log.versions

      is : body ≡ block_of (map entry_of last)
      is = same_id_exact body (block_of (map entry_of last)) parts.1

      last_long : length last ≡ 256
      last_long = omega (arith, length-drop (length q.log.versions - 256) q.log.versions, many, h.few)

      all_long : AreLong last
      all_long = long_last (length q.log.versions - 256) q.log.versions h.long

      here : body_at all n ≡ block_of (map entry_of last)
      here = there ∙ is

      size : length (block_of (map entry_of last)) ≡ 12289
      size = block_length last all_long ∙ ap (λ k. 1 + 48 * k) last_long

      whole : is_block_body block_size (body_at all n) ≡ true
      whole = ap (is_block_body block_size) here ∙ ap (λ k. k == 12289) size

      named : Names 256 n q.log.versions
      named = record {
        whole = λ some. whole;
        says = λ j d lt.
            ap (entry_at j) here ∙ named_at last all_long j d (omega (arith, last_long, lt))
            ∙ ap (λ es. get_or es j d) (sym (drop-map entry_of (length q.log.versions - 256) q.log.versions))
            ∙ get_or-drop (length q.log.versions - 256) (map entry_of q.log.versions) j d;
      }

      block_table : tabled (body ∷ earlier) ≡ t0
      block_table = ap (λ l. cond (is_kind 1 l) (with_row t0 (entry_of (accepted_in l)) n) (cond (is_kind 3 l) (with_image t0 (image_of (snapshot_in l)) n) t0)) is

      block_walk : (k b : ℕ) → k ≤ 0 → by_all start (sources_of block_size k b (body ∷ earlier)) ≡ Ok (tabled (body ∷ earlier))
      block_walk (suc k) b le = absurd (omega (arith, le))
      block_walk zero b le =
          ap (λ l. by_all start (cond (is_kind 1 l) (sources_of block_size zero b earlier ++ Own n ∷ []) (cond (is_kind 2 l) (sources_of block_size block_size n earlier ++ Block n ∷ []) (sources_of block_size zero b earlier ++ other l n ∷ [])))) is
          ∙ table_push start (sources_of block_size block_size n earlier) (Block n) t0 (h.walk 256 n many named)
          ∙ ap (λ t. cond {A = Result Table ℕ} t (Ok t0) (Err n)) whole
          ∙ ap (λ t. Ok t) (sym block_table)

      block_stands : Stands (body ∷ earlier) (with_block q)
      block_stands = record {
        few = omega arith;
        long = h.long;
        versions = ap (λ t. map version_in t.rows) block_table ∙ h.versions;
        images = ap (λ t. map stored_in t.images) block_table ∙ h.images;
        records = ap (λ t. map (λ (x : Row). body_at all x.number) t.rows) block_table ∙ h.records;
        pictures = ap (λ t. map (λ (x : Placed). body_at all x.number) t.images) block_table ∙ h.pictures;
        walk = λ k b le names. block_walk k b le;
      }

    -- a snapshot
    module _ (f : is_stored q.log body ≡ true) where
      abbrev s : ClientSnapshot
      s = snapshot_in body

      checks : (is_kind 3 body ≡ true) × (nat_le 33 (length body) ≡ true) × (is_next_image q.log (image_of s) ≡ true)
      checks = snapshot_tests body (is_next_image q.log (image_of s)) f

      others : (is_kind 1 body ≡ false) × (is_kind 2 body ≡ false)
      others = third_kind body checks.0

      many_bytes : 33 ≤ length body
      many_bytes = let t = checks.1 in grind (arith, nat_tests)

      image_table : tabled (body ∷ earlier) ≡ with_image t0 (image_of s) n
      image_table = λ i. cond (others.0 i) (with_row t0 (entry_of (accepted_in body)) n) (cond (checks.0 i) (with_image t0 (image_of s) n) t0)

      image_taken : take_one t0 (Stored n) ≡ Ok (with_image t0 (image_of s) n)
      image_taken =
          ap (λ x. cond {A = Result Table ℕ} (is_snapshot_body x && is_next_image (log_in t0) (image_of (snapshot_in x))) (Ok (with_image t0 (image_of (snapshot_in x)) n)) (Err n)) there
          ∙ ap (λ t. cond {A = Result Table ℕ} t (Ok (with_image t0 (image_of s) n)) (Err n))
          (both (is_snapshot_body body) (is_next_image (log_in t0) (image_of s)) (both (is_kind 3 body) (nat_le 33 (length body)) checks.0 checks.1) (may_store s.client s.snapshot.version ∙ checks.2))

      image_walk : (k b : ℕ) → k ≤ q.fresh → Names k b q.log.versions → by_all start (sources_of block_size k b (body ∷ earlier)) ≡ Ok (tabled (body ∷ earlier))
      image_walk zero b le names =
          (λ i. by_all start (cond (others.0 i) (sources_of block_size zero b earlier ++ Own n ∷ []) (cond (others.1 i) (sources_of block_size block_size n earlier ++ Block n ∷ []) (sources_of block_size zero b earlier ++ cond (checks.0 i) (Stored n) (Odd n) ∷ []))))
          ∙ table_push start (sources_of block_size zero b earlier) (Stored n) t0 (h.walk zero b le names)
          ∙ image_taken ∙ ap (λ t. Ok t) (sym image_table)
      image_walk (suc p) b le names =
          (λ i. by_all start (cond (others.0 i) (sources_of block_size p b earlier ++ Named b p n ∷ []) (cond (others.1 i) (sources_of block_size block_size n earlier ++ (Block n ∷ Odd b ∷ [])) (sources_of block_size (suc p) b earlier ++ cond (checks.0 i) (Stored n) (Odd n) ∷ []))))
          ∙ table_push start (sources_of block_size (suc p) b earlier) (Stored n) t0 (h.walk (suc p) b le names)
          ∙ image_taken ∙ ap (λ t. Ok t) (sym image_table)

      image_stands : Stands (body ∷ earlier) (with_snapshot q body)
      image_stands = record {
        few = h.few;
        long = h.long;
        versions = ap (λ t. map version_in t.rows) image_table ∙ h.versions;
        images =
            ap (λ t. map stored_in t.images) image_table ∙ map-append stored_in t0.images (record { image = image_of s; number = n } ∷ [])
            ∙ ap (λ ts. ts ++ bare_snapshot s ∷ []) h.images ∙ sym (map-append bare_snapshot q.log.snapshots (s ∷ []));
        records = ap (λ t. map (λ (x : Row). body_at all x.number) t.rows) image_table ∙ h.records;
        pictures =
            ap (λ t. map (λ (x : Placed). body_at all x.number) t.images) image_table
            ∙ map-append (λ (x : Placed). body_at all x.number) t0.images (record { image = image_of s; number = n } ∷ [])
            ∙ (λ i. h.pictures i ++ (there ∙ sym (snapshot_back body checks.0 many_bytes)) i ∷ [])
            ∙ sym (map-append snapshot_body q.log.snapshots (s ∷ []));
        walk = image_walk;
      }

  -- the body after the earlier ones
  seam : (earlier later : List (List ℕ)) (body : List ℕ) → all ≡ reverse (body ∷ earlier) ++ later → all ≡ reverse earlier ++ body ∷ later
  seam earlier later body e = e ∙ ap (λ l. l ++ later) (reverse-append (body ∷ []) earlier) ∙ append_assoc (reverse earlier) (body ∷ []) later

  body_there : (earlier later : List (List ℕ)) (body : List ℕ) → all ≡ reverse earlier ++ body ∷ later → body_at all (length earlier) ≡ body
  body_there earlier later body e = (λ i. get_or (e i) (sym (length-reverse earlier) i) []) ∙ get_or-append_seam (reverse earlier) body later []

  stand : (back later : List (List ℕ)) → all ≡ reverse back ++ later → (r : Reading) → read_back back ≡ Some r → Stands back r
  stand [] later e r f = subst (Stands []) (same_reading nothing_read r f) nothing_stands
  stand (body ∷ earlier) later e r f =
      let got = some_from (λ q. read_body q body) (read_back earlier) r f in
      let at = seam earlier later body e in
      let h = stand earlier (body ∷ later) at got.0 got.1 in
      let there = body_there earlier later body at in
      by_kind (Stands (body ∷ earlier)) got.0 r body got.2 (version_stands earlier body got.0 there h) (block_stands earlier body got.0 there h) (image_stands earlier body got.0 there h)

pub stood : (bodies : List (List ℕ)) (r : Reading) → read_from nothing_read bodies ≡ Some r → Stands bodies (reverse bodies) r
stood bodies r e =
    stand bodies (reverse bodies) [] (sym (append-nil (reverse (reverse bodies)) ∙ reverse-reverse bodies)) r
    (sym (back_is (reverse bodies)) ∙ ap (read_from nothing_read) (reverse-reverse bodies) ∙ e)

pub standing_is_read : StandingIsRead
standing_is_read bodies log stands =
    let h = stood bodies (record { log = log; fresh = stands.0 }) stands.1 in
    (h.walk zero zero (omega arith) (record { whole = λ none. absurd (omega (arith, none)); says = λ j d lt. absurd (omega (arith, lt)) }), λ i. record { versions = h.versions i; snapshots = h.images i })

pub numbers_tell : NumbersTell
numbers_tell bodies log stands = let h = stood bodies (record { log = log; fresh = stands.0 }) stands.1 in (h.records, h.pictures)
