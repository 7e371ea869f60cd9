-- What an add-version and an add-snapshot make of the log.
use Rattle.std.proofs.Common.{◌≡◌, ◌∙◌, inl, inr, ℕ, ◌+◌, ◌/◌, ◌%◌, ◌^◌, ◌<◌, Bool, true, false, not, cond, if◌then◌else◌, List, [], ◌∷◌, ◌++◌, length, map, refl, sym, ap, subst, arith}
use Rattle.std.specs.Prelude.{slice_index, All}
use Rattle.std.proofs.lemmas.List.{append-nil}
use Rattle.std.proofs.lemmas.List.Elements.{All-from_recursion, All-head, All-tail}
use Rattle.uuid.specs.Parts.{zero_bytes}
use Rattle.tw_world.specs.Disk.{DiskModel, LeavesOnly, Untouched}
use Rattle.tw_world.proofs.Moments.{weaker}
use Rattle.tw_server.proofs.Disks.{server_stays}
use Rattle.tw_http.specs.declared.message.Response.{Response}
use Rattle.tw_world.specs.Ids.{id_bytes}
use Rattle.tw_world.specs.declared.ids.IdWords.{IdWords}
use Rattle.tw_journal.specs.Journal.{IsOpenOn, RecordsOrMore}
use Rattle.tw_protocol.specs.Chain.{Version, IsUuid, same_id, last_from, latest, has_id}
use Rattle.tw_protocol.specs.Answer.{Finding, accepts, answer, version}
use Rattle.tw_protocol.specs.Answer.Ask.{Add as Ask_add}
use Rattle.tw_protocol.specs.Answer.Finding.{Added, Conflict, Taken}
use Rattle.tw_protocol.specs.Snapshots.{Of, is_wanted}
use Rattle.tw_protocol.proofs.Chains.{same_id_exact}
use Rattle.tw_http.specs.declared.message.Request.TheVariants.{Add, Child, Snapshot}
use Rattle.tw_http.specs.declared.message.Response.TheVariants as responses
use Rattle.tw_records.specs.Log.{Log, HasUuids, IsSound, chain_of, account_of, accepted_for}
use Rattle.tw_records.specs.Bodies.{body_of, entry_of}
use Rattle.tw_records.specs.Reading.{StandFor}
use Rattle.tw_records.proofs.Demands.{answered_stands}
use Rattle.tw_server.specs.Log.{log_after, response_at}
use Rattle.tw_server.specs.Server.{magic, drawn_id, IsServerOn, IsAnswer, LogOrAfter}
use Rattle.tw_server.specs.Versions.{image_at}
use Rattle.tw_server.specs.declared.server.Server.{Server}
use Rattle.tw_server.proofs.Logs.{sound-push}
use Rattle.tw_server.proofs.LogLaws.{told, own_account_is_answered}
use Rattle.tw_server.proofs.Accounts.{accounts_version}
use Rattle.tw_server.proofs.Knowing.{with_accepted, AreKept, last_body, version_places}

-- ---- a drawn id

pub drawn_is : (start : ℕ) → drawn_id start ≡ id_bytes start
unfolding drawn_id
drawn_is start = refl

pub drawn_uuid : (start : ℕ) → slice_index (id_bytes start) 6 / 16 ≡ 4 → slice_index (id_bytes start) 8 / 64 ≡ 2 → IsUuid (drawn_id start)
unfolding drawn_id
drawn_uuid start seventh ninth = record {
  long = refl;
  bytes = All-from_recursion (λ b. b < 256) (id_bytes start)
      (omega arith, (omega arith, (omega arith, (omega arith, (omega arith, (omega arith, (omega (arith, seventh), (omega arith, (omega (arith, ninth), (omega arith, (omega arith, (omega arith, (omega arith, (omega arith, (omega arith, (omega arith, tt))))))))))))))));
}

real_if : (t : Bool) (id : List ℕ) → same_id id zero_bytes ≡ t → slice_index id 6 / 16 ≡ 4 → same_id id zero_bytes ≡ false
real_if true id e seventh =
    let nil : id ≡ zero_bytes = same_id_exact id zero_bytes e in
    let none : 0 ≡ 4 = ap (λ (l : List ℕ). slice_index l 6 / 16) (sym nil) ∙ seventh in
    absurd (omega (arith, none))
real_if false id e seventh = e

pub drawn_real : (start : ℕ) → slice_index (id_bytes start) 6 / 16 ≡ 4 → same_id (drawn_id start) zero_bytes ≡ false
drawn_real start seventh = real_if (same_id (drawn_id start) zero_bytes) (drawn_id start) refl (ap (λ (l : List ℕ). slice_index l 6 / 16) (drawn_is start) ∙ seventh)

nil_uuid : IsUuid zero_bytes
nil_uuid = record {
  long = refl;
  bytes = All-from_recursion (λ b. b < 256) zero_bytes
      (omega arith, (omega arith, (omega arith, (omega arith, (omega arith, (omega arith, (omega arith, (omega arith, (omega arith, (omega arith, (omega arith, (omega arith, (omega arith, (omega arith, (omega arith, (omega arith, tt))))))))))))))));
}

last_uuid : (h : List ℕ) (vs : List Version) → IsUuid h → All (λ v. IsUuid v.id) vs → IsUuid (last_from h vs)
last_uuid h [] uuid all = uuid
last_uuid h (v ∷ vs) uuid all = last_uuid v.id vs (All-head (λ v. IsUuid v.id) v vs all) (All-tail (λ v. IsUuid v.id) v vs all)

-- ---- the answer

abbrev pub answer_by : Bool → Bool → List Version → (parent segment id : List ℕ) → List Version × Finding
answer_by t u chain parent segment id = cond t (cond u ([], Taken) (version id parent segment ∷ [], Added id)) ([], Conflict (latest chain))

pub answer_is : (t u : Bool) (chain : List Version) (parent segment id : List ℕ) → accepts chain parent ≡ t → has_id id chain ≡ u → answer chain (Ask_add parent segment) id ≡ answer_by t u chain parent segment id
answer_is t u chain parent segment id at there = ap (λ x. answer_by x (has_id id chain) chain parent segment id) at ∙ ap (λ x. answer_by t x chain parent segment id) there

pub conflicts : (chain : List Version) (parent segment id : List ℕ) → accepts chain parent ≡ false → answer chain (Ask_add parent segment) id ≡ ([], Conflict (latest chain))
conflicts chain parent segment id at = answer_is false (has_id id chain) chain parent segment id at refl

pub not_other : (b : Bool) → false ≡ not b → b ≡ true
not_other true e = refl
not_other false e = let no : ⊥ = cc in absurd no

-- whether the client has a version of the drawn id
pub id_is_there : (client id : List ℕ) (start : ℕ) (log : Log) (b : Bool) → id ≡ drawn_id start → b ≡ has_id id (chain_of client log.versions) → has_id (drawn_id start) (chain_of client log.versions) ≡ b
id_is_there client id start log b is e = ap (λ x. has_id x (chain_of client log.versions)) (sym is) ∙ sym e

module _ (client parent segment : List ℕ) (log : Log) where
  -- the log after an add-version that is answered so
  abbrev after : List Version × Finding → Log
  after x = record { versions = log.versions ++ map (accepted_for client) x.0; snapshots = log.snapshots ++ [] }

  same_after : (x : List Version × Finding) (t : Finding) → x ≡ ([], t) → after x ≡ log
  same_after x t is = ap after is ∙ (λ i. record { versions = append-nil log.versions i; snapshots = append-nil log.snapshots i })

  -- nothing is added
  pub nothing_added : (id : List ℕ) (t : Finding) → answer (chain_of client log.versions) (Ask_add parent segment) id ≡ ([], t) → log_after log (Add client parent segment) id ≡ log
  nothing_added id t is = same_after (answer (chain_of client log.versions) (Ask_add parent segment) id) t is

  -- what an accepted version adds
  pub adds_one : (id last : List ℕ) → last ≡ latest (chain_of client log.versions) → same_id last parent ≡ true → has_id id (chain_of client log.versions) ≡ false
      → answer (chain_of client log.versions) (Ask_add parent segment) id ≡ (version id parent segment ∷ [], Added id)
  adds_one id last is same fresh = answer_is true false (chain_of client log.versions) parent segment id (ap (λ x. same_id x parent) (sym is) ∙ same) fresh

  pub one_added : (id last : List ℕ) → last ≡ latest (chain_of client log.versions) → same_id last parent ≡ true → has_id id (chain_of client log.versions) ≡ false
      → log_after log (Add client parent segment) id ≡ with_accepted log (accepted_for client (version id parent segment))
  one_added id last is same fresh =
      ap after (adds_one id last is same fresh)
      ∙ (λ i. record { versions = log.versions ++ accepted_for client (version id parent segment) ∷ []; snapshots = append-nil log.snapshots i })

  pub drawn_after : (t : Bool) (start step : ℕ) → accepts (chain_of client log.versions) parent ≡ t
      → (if t then (start + step) % 2 ^ 128 else start) ≡ (if accepts (chain_of client log.versions) parent then (start + step) % 2 ^ 128 else start)
  drawn_after t start step at = ap (λ b. if b then (start + step) % 2 ^ 128 else start) (sym at)

  accepted_if : (last : List ℕ) (t : Bool) → last ≡ latest (chain_of client log.versions) → same_id last parent ≡ t → accepts (chain_of client log.versions) parent ≡ t
  accepted_if last t is same = ap (λ x. same_id x parent) (sym is) ∙ same

  pub added_says : (drawn id last : List ℕ) (wanted : Bool) → id ≡ drawn → last ≡ latest (chain_of client log.versions) → same_id last parent ≡ true → has_id drawn (chain_of client log.versions) ≡ false
      → wanted ≡ is_wanted (account_of client (log_after log (Add client parent segment) drawn)) → responses.Added id wanted ≡ response_at log (Add client parent segment) drawn
  added_says drawn id last wanted named is same fresh wants =
      let one = adds_one drawn last is same fresh in
      let wants_now = wants ∙ ap is_wanted (own_account_is_answered log (Add client parent segment) drawn)
      ∙ ap (λ (x : List Version × Finding). is_wanted (record { chain = chain_of client log.versions ++ x.0; stored = (account_of client log).stored })) one in
      (λ i. responses.Added (named i) (wants_now i)) ∙ sym (ap (told log client) one)

  -- the records with the new one stand for the new log
  pub version_stands : (bodies : List (List ℕ)) (id last : List ℕ) → StandFor bodies log → IsSound log.versions → length client ≡ 16 → IsUuid id → same_id id zero_bytes ≡ false
      → last ≡ latest (chain_of client log.versions) → same_id last parent ≡ true → has_id id (chain_of client log.versions) ≡ false
      → StandFor (bodies ++ body_of (accepted_for client (version id parent segment)) ∷ []) (log_after log (Add client parent segment) id)
  version_stands bodies id last stands sound long uuid real is same fresh =
      let chain = chain_of client log.versions in
      let behind : parent ≡ latest chain = sym (same_id_exact (latest chain) parent (accepted_if last true is same)) in
      let fits = (subst IsUuid (sym behind) (last_uuid zero_bytes chain nil_uuid (sound.chains client).uuids)).long in
      let more = ap (λ (x : List Version × Finding). map body_of (map (accepted_for client) x.0) ++ []) (adds_one id last is same fresh) in
      subst (λ bs. StandFor (bodies ++ bs) (log_after log (Add client parent segment) id)) more
      (answered_stands bodies log client (Of (Ask_add parent segment)) id stands long uuid.long real fits)

module _ {D : Type 0} (m : DiskModel D) (client parent segment : List ℕ) where
  unchanged : (server : Server) (disk : D) (log : Log) (id : List ℕ) (t : Finding) → answer (chain_of client log.versions) (Ask_add parent segment) id ≡ ([], t) → IsServerOn m server disk log
      → IsServerOn m server disk (log_after log (Add client parent segment) id)
  unchanged server disk log id t is on = subst (IsServerOn m server disk) (sym (nothing_added client parent segment log id t is)) on

  pub conflict_answer : (server : Server) (disk : D) (log : Log) (old : IdWords) (last : List ℕ) → IsServerOn m server disk log → last ≡ latest (chain_of client log.versions) → same_id last parent ≡ false
      → IsAnswer m server disk log (Add client parent segment) old old (responses.Conflict last)
  conflict_answer server disk log old last on is other =
      let chain = chain_of client log.versions in
      let at : accepts chain parent ≡ false = ap (λ x. same_id x parent) (sym is) ∙ other in
      let answered = conflicts chain parent segment (drawn_id old.start) at in
      record {
        says = ap (λ x. responses.Conflict x) is ∙ sym (ap (told log client) answered);
        holds = unchanged server disk log (drawn_id old.start) (Conflict (latest chain)) answered on;
        drawn = record { start = drawn_after client parent segment log false old.start old.step at; step = refl };
      }

  pub taken_answer : (server : Server) (disk : D) (log : Log) (old new : IdWords) (last : List ℕ) → IsServerOn m server disk log → last ≡ latest (chain_of client log.versions) → same_id last parent ≡ true
      → has_id (drawn_id old.start) (chain_of client log.versions) ≡ true → new.start ≡ (old.start + old.step) % 2 ^ 128 → new.step ≡ old.step → IsAnswer m server disk log (Add client parent segment) old new responses.Taken
  taken_answer server disk log old new last on is same there start step =
      let chain = chain_of client log.versions in
      let at : accepts chain parent ≡ true = ap (λ x. same_id x parent) (sym is) ∙ same in
      let answered = answer_is true true chain parent segment (drawn_id old.start) at there in
      record {
        says = sym (ap (told log client) answered);
        holds = unchanged server disk log (drawn_id old.start) Taken answered on;
        drawn = record { start = start ∙ drawn_after client parent segment log true old.start old.step at; step = step };
      }

  -- the server after the record of a version
  pub version_on : (before server : Server) (first disk : D) (log : Log) (id last : List ℕ) (n : ℕ) (on : IsServerOn m before first log) → length client ≡ 16 → IsUuid id → same_id id zero_bytes ≡ false
      → last ≡ latest (chain_of client log.versions) → same_id last parent ≡ true → has_id id (chain_of client log.versions) ≡ false
      → IsOpenOn m magic server.journal disk (on.bodies ++ body_of (accepted_for client (version id parent segment)) ∷ [])
      → n ≡ length on.bodies → AreKept before on.bodies (on.bodies ++ body_of (accepted_for client (version id parent segment)) ∷ [])
      → server.versions.entries.items ≡ before.versions.entries.items ++ entry_of (accepted_for client (version id parent segment)) ∷ []
      → server.versions.numbers.items ≡ before.versions.numbers.items ++ n ∷ [] → ((c : List ℕ) → image_at server.images c ≡ image_at before.images c)
      → IsServerOn m server disk (log_after log (Add client parent segment) id)
  version_on before server first disk log id last n on long uuid real is same fresh open_on at kept entries numbers images =
      let chain = chain_of client log.versions in
      let a = accepted_for client (version id parent segment) in
      let behind : parent ≡ latest chain = sym (same_id_exact (latest chain) parent (ap (λ x. same_id x parent) (sym is) ∙ same)) in
      let whole = on.places.sound.chains client in
      let known : HasUuids a = record { client = long; id = uuid; parent = subst IsUuid (sym behind) (last_uuid zero_bytes chain nil_uuid whole.uuids) } in
      let sound = sound-push log.versions client (version id parent segment) on.places.sound known behind fresh real in
      let becomes = one_added client parent segment log id last is same fresh in
      let more = on.bodies ++ body_of a ∷ [] in
      let accounts = accounts_version log a sound on.places.accounts in
      let stands = subst (StandFor more) becomes (version_stands client parent segment log on.bodies id last on.stands on.places.sound long uuid real is same fresh) in
      let there : IsServerOn m server disk (with_accepted log a) = record {
        bodies = more;
        journal = open_on;
        stands = stands;
        places = version_places before server on.bodies more log on.places kept n a entries numbers images (last_body on.bodies (body_of a) n at) sound accounts;
      } in
      subst (IsServerOn m server disk) (sym becomes) there

  pub added_answer : (server : Server) (disk : D) (log : Log) (old new : IdWords) (id last : List ℕ) (wanted : Bool) → id ≡ drawn_id old.start → last ≡ latest (chain_of client log.versions) → same_id last parent ≡ true
      → has_id (drawn_id old.start) (chain_of client log.versions) ≡ false → new.start ≡ (old.start + old.step) % 2 ^ 128 → new.step ≡ old.step
      → wanted ≡ is_wanted (account_of client (log_after log (Add client parent segment) (drawn_id old.start)))
      → IsServerOn m server disk (log_after log (Add client parent segment) (drawn_id old.start)) → IsAnswer m server disk log (Add client parent segment) old new (responses.Added id wanted)
  added_answer server disk log old new id last wanted drawn is same fresh start step wants on =
      let chain = chain_of client log.versions in
      let at : accepts chain parent ≡ true = ap (λ x. same_id x parent) (sym is) ∙ same in
      record {
        says = added_says client parent segment log (drawn_id old.start) id last wanted drawn is same fresh wants;
        holds = on;
        drawn = record { start = start ∙ drawn_after client parent segment log true old.start old.step at; step = step };
      }

  -- a crash leaves the log, or it and the new version
  pub added_moments : (first disk : D) (server : Server) (log : Log) (id last : List ℕ) (on : IsServerOn m server first log) → length client ≡ 16 → IsUuid id → same_id id zero_bytes ≡ false
      → last ≡ latest (chain_of client log.versions) → same_id last parent ≡ true → has_id id (chain_of client log.versions) ≡ false
      → LeavesOnly m first disk (RecordsOrMore magic on.bodies (body_of (accepted_for client (version id parent segment)))) → LeavesOnly m first disk (LogOrAfter log (log_after log (Add client parent segment) id))
  added_moments first disk server log id last on long uuid real is same fresh run =
      let a = accepted_for client (version id parent segment) in
      let stands = version_stands client parent segment log on.bodies id last on.stands on.places.sound long uuid real is same fresh in
      weaker m first disk (RecordsOrMore magic on.bodies (body_of a)) (LogOrAfter log (log_after log (Add client parent segment) id)) run (λ c left. elim left [
        | inl old ↦ inl (on.bodies, old, on.stands)
        | inr new ↦ inr (on.bodies ++ body_of a ∷ [], new, stands)
      ])

-- ---- a request that only reads

-- it leaves the log
pub reads_only : (log : Log) → record { versions = log.versions ++ []; snapshots = log.snapshots ++ [] } ≡ log
reads_only log = λ i. record { versions = append-nil log.versions i; snapshots = append-nil log.snapshots i }

pub child_answer : {D : Type 0} (m : DiskModel D) (client parent : List ℕ) (server : Server) (old new : D) (log : Log) (ids : IdWords) (response : Response) → IsServerOn m server old log → Untouched m old new
    → response ≡ response_at log (Child client parent) (drawn_id ids.start) → IsAnswer m server new log (Child client parent) ids ids response
child_answer m client parent server old new log ids response on same says = record {
  says = says;
  holds = subst (IsServerOn m server new) (sym (reads_only log)) (server_stays m server old new log same on);
  drawn = record { start = refl; step = refl };
}

pub fetch_answer : {D : Type 0} (m : DiskModel D) (client : List ℕ) (server : Server) (old new : D) (log : Log) (ids : IdWords) (response : Response) → IsServerOn m server old log → Untouched m old new
    → response ≡ response_at log (Snapshot client) (drawn_id ids.start) → IsAnswer m server new log (Snapshot client) ids ids response
fetch_answer m client server old new log ids response on same says = record {
  says = says;
  holds = subst (IsServerOn m server new) (sym (reads_only log)) (server_stays m server old new log same on);
  drawn = record { start = refl; step = refl };
}
