-- What a server says is read as what it says.
use Rattle.std.proofs.Common.{◌≡◌, ℕ, ◌<◌, ◌≤◌, inl, Bool, true, false, ◌||◌, cond, List, [], ◌∷◌, ◌++◌, length, Option, Some, None, IfSome, Ok, refl, sym, subst, arith, All, IsTrue}
use Rattle.std.specs.Prelude.{nat_lt}
use Rattle.std.proofs.lemmas.Bool.{false≢true}
use Rattle.std.proofs.lemmas.Bool.Decides.{nat_tests}
use Rattle.tw_protocol.proofs.Chains.{same_id_exact}
use Rattle.std.proofs.lemmas.List.Elements.{All-head, All-tail}
use Rattle.std.proofs.lemmas.List.Sums.{AllPass-from_list_all}
use Rattle.uuid.specs.Parts.{zero_bytes}
use Rattle.uuid.specs.Text.{lower}
use Rattle.uuid.proofs.RoundTrips.{parses_hyphenated_text}
use Rattle.tw_protocol.specs.Chain.{Version, IsUuid, same_id, last_from, latest, IsRow, has_id}
use Rattle.tw_protocol.specs.Answer.{Ask, Finding, version, accepts, child_behind}
use Rattle.tw_protocol.specs.Snapshots.{Account, Reply, Says, Stored, Refused, Of, offered, respond, is_wanted, is_welcome}
use Rattle.tw_protocol.specs.Snapshots as snapshots
use Rattle.tw_protocol.specs.Answer.Finding.{Added, Conflict, Found, UpToDate, Gone, Taken}
use Rattle.tw_http.specs.declared.message.Asked.{Asked}
use Rattle.tw_http.specs.declared.message.Asked.TheVariants as asked
use Rattle.tw_http.specs.declared.message.Request.TheVariants.{Add, Child, AddSnapshot, Snapshot}
use Rattle.tw_http.specs.declared.message.Response.TheVariants as answer
use Rattle.tw_http.specs.Messages.{IsReadBack, max_body, response_text}
use Rattle.tw_http.specs.Responses.{IsResponseAnswer}
use Rattle.tw_http.specs.Serving.{response_of, SegmentsFit}
use Rattle.tw_http.specs.Laws.{ServedIsRead}
use Rattle.tw_http.proofs.Visible.{all_on}
use Rattle.tw_http.proofs.ResponseBack.{response_back}

-- ---- uuids

uuid_back : (id : List ℕ) → IsUuid id → IsReadBack (Some id)
uuid_back id uuid = sym (parses_hyphenated_text lower id (inl refl) uuid.long uuid.bytes)

below_256 : (b : ℕ) → IsTrue (nat_lt b 256) → b < 256
below_256 b t = grind (arith, nat_tests)

nil_uuid : IsUuid zero_bytes
nil_uuid = record { long = refl; bytes = all_on zero_bytes below_256 (AllPass-from_list_all (λ b. nat_lt b 256) zero_bytes refl) }

last_uuid : (h : List ℕ) (vs : List Version) → IsUuid h → All (λ v. IsUuid v.id) vs → IsUuid (last_from h vs)
last_uuid h [] uuid all = uuid
last_uuid h (v ∷ vs) uuid all = last_uuid v.id vs (All-head (λ v. IsUuid v.id) v vs all) (All-tail (λ v. IsUuid v.id) v vs all)

-- ---- of a chain

abbrev Reads : Asked → List ℕ → Reply → Type 0
Reads what more reply = IsResponseAnswer what (response_text (response_of reply) ++ more) (Ok (response_of reply))

added_reads : (t there w : Bool) (chain : List Version) (parent segment id more : List ℕ) → IsUuid id → IsUuid (latest chain)
    → Reads asked.Add more (Says (cond {A = List Version × Finding} t (cond there ([], Taken) (version id parent segment ∷ [], Added id)) ([], Conflict (latest chain))).1 w)
added_reads true true w chain parent segment id more uuid last = response_back asked.Add answer.Taken more tt tt refl (omega arith)
added_reads true false w chain parent segment id more uuid last = response_back asked.Add (answer.Added id w) more (uuid_back id uuid) tt refl (omega arith)
added_reads false there w chain parent segment id more uuid last = response_back asked.Add (answer.Conflict (latest chain)) more tt (uuid_back (latest chain) last) refl (omega arith)

at_end_reads : (t w : Bool) (more : List ℕ) → Reads asked.Child more (Says (cond t UpToDate Gone) w)
at_end_reads true w more = response_back asked.Child answer.UpToDate more tt tt refl (omega arith)
at_end_reads false w more = response_back asked.Child answer.Gone more tt tt refl (omega arith)

version_reads : (t w : Bool) (v : Version) (other : Finding) (more : List ℕ) → IsUuid v.id → IsUuid v.parent → length v.segment ≤ max_body → Reads asked.Child more (Says other w) → Reads asked.Child more (Says (cond t (Found v) other) w)
version_reads true w v other more id parent few rest = response_back asked.Child (answer.Child v.id v.parent v.segment) more (uuid_back v.id id) (uuid_back v.parent parent) refl few
version_reads false w v other more id parent few rest = rest

child_reads : (w : Bool) (h : List ℕ) (vs : List Version) (parent more : List ℕ) → IsUuid h → IsRow h vs → All (λ v. IsUuid v.id) vs → SegmentsFit vs → Reads asked.Child more (Says (child_behind parent h vs) w)
child_reads w h [] parent more uuid row all fit = at_end_reads (same_id h parent) w more
child_reads w h (v ∷ vs) parent more uuid row all fit =
    let id = All-head (λ v. IsUuid v.id) v vs all in
    version_reads (same_id h parent) w v (child_behind parent v.id vs) more id (subst IsUuid (sym row.0) uuid) (All-head (λ v. length v.segment ≤ max_body) v vs fit)
    (child_reads w v.id vs parent more id row.1 (All-tail (λ v. IsUuid v.id) v vs all) (All-tail (λ v. length v.segment ≤ max_body) v vs fit))

-- ---- of snapshots

store_reads : (t : Bool) (account : Account) (now : Account) (more : List ℕ) → Reads asked.AddSnapshot more (cond {A = Account × Reply} t (now, Stored) (account, Refused)).1
store_reads true account now more = response_back asked.AddSnapshot answer.Stored more tt tt refl (omega arith)
store_reads false account now more = response_back asked.AddSnapshot answer.Bad more tt tt refl (omega arith)

-- an id of a chain is a uuid
its_uuid : (id : List ℕ) (vs : List Version) → All (λ v. IsUuid v.id) vs → has_id id vs ≡ true → IsUuid id
its_uuid id [] all e = absurd (false≢true e)
its_uuid id (v ∷ vs) all e = by (same_id v.id id) refl (its_uuid id vs (All-tail (λ v. IsUuid v.id) v vs all)) e
  where
    by : (b : Bool) → same_id v.id id ≡ b → (has_id id vs ≡ true → IsUuid id) → b || has_id id vs ≡ true → IsUuid id
    by true is f e = subst IsUuid (same_id_exact v.id id is) (All-head (λ v. IsUuid v.id) v vs all)
    by false is f e = f e

fetched_reads : (stored : Option snapshots.Snapshot) (chain : List Version) (more : List ℕ) → All (λ v. IsUuid v.id) chain → IfSome stored (λ s. has_id s.version chain ≡ true) → IfSome stored (λ s. length s.bytes ≤ max_body)
    → Reads asked.Snapshot more (offered stored)
fetched_reads None chain more all there fit = response_back asked.Snapshot answer.UpToDate more tt tt refl (omega arith)
fetched_reads (Some s) chain more all there fit = response_back asked.Snapshot (answer.Snapshot s.version s.bytes) more (uuid_back s.version (its_uuid s.version chain all there)) tt refl fit

pub served_is_read : ServedIsRead
served_is_read account (Add client parent segment) id more h fit uuid =
    added_reads (accepts account.chain parent) (has_id id account.chain) (is_wanted (respond account (Of (Ask.Add parent segment)) id).0) account.chain parent segment id more uuid (last_uuid zero_bytes account.chain nil_uuid h.chain.uuids)
served_is_read account (Child client parent) id more h fit uuid =
    child_reads (is_wanted (respond account (Of (Ask.Child parent)) id).0) zero_bytes account.chain parent more nil_uuid h.chain.row h.chain.uuids fit.segments
served_is_read account (AddSnapshot client version snapshot) id more h fit uuid =
    store_reads (is_welcome account version) account (record { chain = account.chain; stored = Some (record { version = version; bytes = snapshot }) }) more
served_is_read account (Snapshot client) id more h fit uuid = fetched_reads account.stored account.chain more h.chain.uuids h.stored fit.stored
