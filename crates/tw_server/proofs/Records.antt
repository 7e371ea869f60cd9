-- The bodies of the log's records, the child of a parent, and the stored snapshot.
use Rattle.std.proofs.Common.{◌≡◌, ◌∙◌, ℕ, ◌<◌, true, cond, Option, Some, None, option_map, List, [], ◌++◌, length, get_or, drop, map, refl, sym, ap, arith}
use Rattle.std.specs.List.{position, slice_get}
use Rattle.std.proofs.lemmas.Option.{slice_get_read}
use Rattle.std.proofs.lemmas.Bool.{and_parts}
use Rattle.std.proofs.lemmas.List.{get_or-map, length-map, drop_at}
use Rattle.std.proofs.lemmas.List.Quantifiers.{position-Some}
use Rattle.uuid.specs.Parts.{zero_bytes}
use Rattle.tw_protocol.specs.Chain.{same_id, latest}
use Rattle.tw_protocol.specs.Answer.{Finding}
use Rattle.tw_protocol.specs.Answer.Finding.{UpToDate, Gone}
use Rattle.tw_protocol.specs.Snapshots.{Snapshot as Stored_snapshot, is_wanted, offered}
use Rattle.tw_protocol.proofs.Chains.{same_id_exact}
use Rattle.tw_http.specs.declared.message.Response.{Response}
use Rattle.tw_http.specs.declared.message.Response.TheVariants as answer
use Rattle.tw_http.specs.declared.message.Request.TheVariants.{Child, Snapshot}
use Rattle.tw_http.specs.Serving.{says, response_of, account_after}
use Rattle.tw_records.specs.declared.entry.Entry.{Entry}
use Rattle.tw_records.specs.declared.image.Image.{Image}
use Rattle.tw_records.specs.Log.{Accepted, Log, chain_of, account_of, IsSound}
use Rattle.tw_records.specs.Bodies.{body_of, entry_of, version_front, snapshot_body, snapshot_front}
use Rattle.tw_records.specs.Table.{body_at}
use Rattle.tw_server.specs.declared.images.Placed.{Placed}
use Rattle.tw_server.specs.declared.server.Server.{Server}
use Rattle.tw_server.specs.declared.versions.Versions.{Versions}
use Rattle.tw_server.specs.Log.{IsSegmentOf, response_at}
use Rattle.tw_server.specs.Server.{HasPlaces, snapshot_of}
use Rattle.tw_server.specs.Versions.{is_child, image_at}
use Rattle.tw_records.proofs.Spelled.{version_split, snapshot_split}
use Rattle.tw_server.proofs.Logs.{child_at, child_none, position_none}

-- what comes after one front is the same
same_rest : (front xs ys : List ℕ) → front ++ xs ≡ front ++ ys → xs ≡ ys
same_rest front xs ys e = sym (drop_at front xs (length front) refl) ∙ ap (drop (length front)) e ∙ drop_at front ys (length front) refl

-- ---- the record of a version

module _ (server : Server) (bodies : List (List ℕ)) (log : Log) (places : HasPlaces server bodies log) (place number : ℕ)
    (inside : place < length server.versions.numbers.items) (at : number ≡ get_or server.versions.numbers.items place number) where
  within : place < length log.versions
  within =
      let e = ap length places.numbers in
      let a = length-map server.versions.numbers.items (body_at bodies) in
      let b = length-map log.versions body_of in
      omega (arith, inside, e, a, b)

  -- its body is that of the version
  version_body : (d : Accepted) → body_at bodies number ≡ body_of (get_or log.versions place d)
  version_body d =
      ap (body_at bodies) at
      ∙ sym (get_or-map (body_at bodies) server.versions.numbers.items place number [] inside)
      ∙ ap (λ xs. get_or xs place []) places.numbers
      ∙ get_or-map body_of log.versions place d [] within

  -- it begins with what the server knows of it
  pub version_begins : (e : Entry) → get_or server.versions.entries.items place e ≡ e → (d : Accepted) → body_at bodies number ≡ version_front e ++ (get_or log.versions place d).version.segment
  version_begins e here d =
      let a = get_or log.versions place d in
      let is : e ≡ entry_of a = sym here ∙ ap (λ es. get_or es place e) places.knows.entries ∙ get_or-map entry_of log.versions place d e within in
      version_body d ∙ version_split a ∙ ap (λ x. version_front x ++ a.version.segment) (sym is)

  pub segment_at : (e : Entry) → get_or server.versions.entries.items place e ≡ e → (segment : List ℕ) → body_at bodies number ≡ version_front e ++ segment → IsSegmentOf log.versions place segment
  segment_at e here segment is d = same_rest (version_front e) segment (get_or log.versions place d).version.segment (sym is ∙ version_begins e here d)

  pub version_known : (e : Entry) → get_or server.versions.entries.items place e ≡ e → (front : List ℕ) → front ≡ version_front e → (rest : List ℕ) × (body_at bodies number ≡ front ++ rest)
  version_known e here front is =
      let d : Accepted = record { client = []; version = record { id = []; parent = []; segment = [] } } in
      let segment = (get_or log.versions place d).version.segment in
      (segment, version_begins e here d ∙ ap (λ f. f ++ segment) (sym is))

-- ---- the record of a stored snapshot

module _ (server : Server) (bodies : List (List ℕ)) (log : Log) (places : HasPlaces server bodies log) (client : List ℕ) (p : Placed) (stored : image_at server.images client ≡ Some p) where
  body_is : Some (body_at bodies p.number) ≡ option_map (λ s. snapshot_body (snapshot_of client s)) (account_of client log).stored
  body_is = ap (option_map (λ (q : Placed). body_at bodies q.number)) (sym stored) ∙ places.images client

  version_is : Some p.version ≡ option_map (λ (s : Stored_snapshot). s.version) (account_of client log).stored
  version_is = ap (option_map (λ (q : Placed). q.version)) (sym stored) ∙ places.knows.images client

  abbrev image : Image
  image = record { client = client; version = p.version }

  begins_by : (o : Option Stored_snapshot) (body : List ℕ) → Some p.version ≡ option_map (λ (s : Stored_snapshot). s.version) o → Some body ≡ option_map (λ s. snapshot_body (snapshot_of client s)) o
      → (rest : List ℕ) × (body ≡ snapshot_front image ++ rest)
  begins_by None body v b = absurd (let no : ⊥ = cc in no)
  begins_by (Some s) body v b =
      let same : p.version ≡ s.version = cc in
      let equal : body ≡ snapshot_body (snapshot_of client s) = cc in
      (s.bytes, equal ∙ snapshot_split (snapshot_of client s) ∙ ap (λ x. snapshot_front (record { client = client; version = x }) ++ s.bytes) (sym same))

  -- it begins with what the server knows of it
  pub image_known : (front : List ℕ) → front ≡ snapshot_front image → (rest : List ℕ) × (body_at bodies p.number ≡ front ++ rest)
  image_known front is =
      let begins = begins_by (account_of client log).stored (body_at bodies p.number) version_is body_is in
      (begins.0, begins.1 ∙ ap (λ f. f ++ begins.0) (sym is))

  fetched_by : (o : Option Stored_snapshot) (body bytes : List ℕ) → Some p.version ≡ option_map (λ (s : Stored_snapshot). s.version) o → Some body ≡ option_map (λ s. snapshot_body (snapshot_of client s)) o
      → body ≡ snapshot_front image ++ bytes → answer.Snapshot p.version bytes ≡ response_of (offered o)
  fetched_by None body bytes v b is = absurd (let no : ⊥ = cc in no)
  fetched_by (Some s) body bytes v b is =
      let same : p.version ≡ s.version = cc in
      let equal : body ≡ snapshot_body (snapshot_of client s) = cc in
      let rest : bytes ≡ s.bytes = same_rest (snapshot_front image) bytes s.bytes (sym is ∙ equal ∙ snapshot_split (snapshot_of client s) ∙ ap (λ x. snapshot_front (record { client = client; version = x }) ++ s.bytes) (sym same)) in
      λ i. answer.Snapshot (same i) (rest i)

  pub fetched_response : (bytes id : List ℕ) → body_at bodies p.number ≡ snapshot_front image ++ bytes → answer.Snapshot p.version bytes ≡ response_at log (Snapshot client) id
  fetched_response bytes id is = fetched_by (account_of client log).stored (body_at bodies p.number) bytes version_is body_is is

absent_by : (o : Option Stored_snapshot) → None ≡ option_map (λ (s : Stored_snapshot). s.version) o → answer.UpToDate ≡ response_of (offered o)
absent_by None e = refl
absent_by (Some s) e = absurd (let no : ⊥ = cc in no)

-- no snapshot is stored
pub absent_response : (log : Log) (client id : List ℕ) → None ≡ option_map (λ (s : Stored_snapshot). s.version) (account_of client log).stored → answer.UpToDate ≡ response_at log (Snapshot client) id
absent_response log client id none = absent_by (account_of client log).stored none

-- ---- the child

entry_at : (versions : List Accepted) (entries : List Entry) (n : ℕ) (d : Accepted) (e : Entry) → entries ≡ map entry_of versions → n < length versions → get_or entries n e ≡ entry_of (get_or versions n d)
entry_at versions entries n d e same lt = ap (λ es. get_or es n e) same ∙ get_or-map entry_of versions n d e lt

module _ (client parent id : List ℕ) (log : Log) where
  abbrev pub says_of : Finding → Response
  says_of finding = says finding (is_wanted (account_after (account_of client log) (Child client parent) id))

  -- the first version whose parent is asked for
  pub found_response : (entries : List Entry) (n : ℕ) (e : Entry) (segment : List ℕ) → IsSound log.versions → entries ≡ map entry_of log.versions → position (is_child client parent) entries ≡ Some n → get_or entries n e ≡ e
      → IsSegmentOf log.versions n segment → answer.Child e.id parent segment ≡ response_at log (Child client parent) id
  found_response entries n e segment sound same place here has =
      let versions = log.versions in
      let d : Accepted = record { client = client; version = record { id = parent; parent = parent; segment = segment } } in
      let at = position-Some (is_child client parent) entries n e place in
      let lt : n < length versions = let long = ap length same ∙ length-map versions entry_of in let k = at.0 in omega (arith, long, k) in
      let a = get_or versions n d in
      let is : e ≡ entry_of a = sym here ∙ entry_at versions entries n d e same lt in
      let yes : is_child client parent (entry_of a) ≡ true = ap (is_child client parent) (sym (entry_at versions entries n d e same lt)) ∙ at.1 in
      let first = child_at client parent versions n d zero_bytes (sound.chains client).row lt yes
      (λ j less. ap (is_child client parent) (sym (entry_at versions entries j d e same (let l = less in omega (arith, l, lt)))) ∙ at.2 j less) in
      let of_parent : a.version.parent ≡ parent = same_id_exact a.version.parent parent (and_parts (same_id a.client client) (same_id a.version.parent parent) yes).1 in
      ap (λ x. answer.Child x parent segment) (ap (λ x. x.id) is) ∙ ap (λ p. answer.Child a.version.id p segment) (sym of_parent) ∙ ap (λ s. answer.Child a.version.id a.version.parent s) (has d) ∙ sym (ap says_of first)

  -- no child: the parent is the latest version, or the chain does not know it
  pub none_response : (entries : List Entry) → IsSound log.versions → entries ≡ map entry_of log.versions → position (is_child client parent) entries ≡ None
      → response_at log (Child client parent) id ≡ says_of (cond (same_id (latest (chain_of client log.versions)) parent) UpToDate Gone)
  none_response entries sound same place =
      let d : Accepted = record { client = client; version = record { id = parent; parent = parent; segment = parent } } in
      let e = entry_of d in
      ap says_of (child_none client parent log.versions d zero_bytes (sound.chains client).row
      (λ j lt. ap (is_child client parent) (sym (entry_at log.versions entries j d e same lt)) ∙ position_none (is_child client parent) entries e place j (let long = ap length same ∙ length-map log.versions entry_of in let l = lt in omega (arith, long, l))))

-- ---- a number at a place

-- the place of a child has a number
pub child_inside : (versions : Versions) (client parent : List ℕ) (n : ℕ) → position (is_child client parent) versions.entries.items ≡ Some n → n < length versions.numbers.items
child_inside versions client parent n place =
    let d : Entry = record { client = []; id = []; parent = [] } in
    let at = (position-Some (is_child client parent) versions.entries.items n d place).0 in
    let same = versions.paired in
    omega (arith, at, same)

pub child_listed : (versions : Versions) (client parent : List ℕ) (n : ℕ) → position (is_child client parent) versions.entries.items ≡ Some n → n < length versions.entries.items
child_listed versions client parent n place =
    let d : Entry = record { client = []; id = []; parent = [] } in
    (position-Some (is_child client parent) versions.entries.items n d place).0

pub there : {X : Type 0} (items : List X) (place : ℕ) (item : X) → place < length items → item ≡ get_or items place item → slice_get items place ≡ Some item
there items place item inside at = slice_get_read items (length items) place item refl inside at
