-- An answer by what a server knows.
use Rattle.std.proofs.Common.{◌≡◌, ◌∙◌, ℕ, zero, suc, ◌+◌, ◌%◌, ◌^◌, ◌<◌, Bool, true, false, not, cond, Option, Some, None, option_map, List, [], ◌∷◌, ◌++◌, length, get_or, refl, sym, ap, subst, arith}
use Rattle.std.specs.List.{position}
use Rattle.std.specs.Ordering.{is_eq}
use Rattle.std.proofs.lemmas.List.{length-map}
use Rattle.std.proofs.lemmas.List.Quantifiers.{position-Some}
use Rattle.tw_world.specs.declared.ids.IdWords.{IdWords}
use Rattle.tw_protocol.specs.Chain.{same_id, latest, has_id}
use Rattle.tw_protocol.specs.Answer.{accepts, version}
use Rattle.tw_protocol.specs.Answer.Finding.{Conflict, Taken, UpToDate, Gone}
use Rattle.tw_protocol.specs.Snapshots.{Snapshot as Stored_snapshot, is_welcome, is_wanted, offered}
use Rattle.tw_http.specs.declared.message.Request.TheVariants.{Add, Child, AddSnapshot, Snapshot}
use Rattle.tw_http.specs.declared.message.Response.{Response}
use Rattle.tw_http.specs.declared.message.Response.TheVariants as responses
use Rattle.tw_http.specs.Serving.{response_of}
use Rattle.tw_records.specs.declared.entry.Entry.{Entry}
use Rattle.tw_records.specs.Log.{Accepted, Log, IsSound, chain_of, account_of, accepted_for}
use Rattle.tw_records.specs.Bodies.{entry_of}
use Rattle.tw_server.specs.declared.images.Placed.{Placed}
use Rattle.tw_server.specs.declared.server.Server.{Server}
use Rattle.tw_server.specs.Log.{IsSegmentOf, log_after, response_at}
use Rattle.tw_server.specs.Server.{Knows, drawn_id}
use Rattle.tw_server.specs.Versions.{is_child, image_at, uuid_cmp}
use Rattle.tw_server.specs.Remembered.{IsAnswerByMemory, without_bytes}
use Rattle.tw_server.proofs.Adds.{conflicts, answer_is, nothing_added, one_added, drawn_after, added_says, reads_only}
use Rattle.tw_server.proofs.AddSnapshots.{told_store, not_stored, one_stored, snapshot}
use Rattle.tw_server.proofs.LogLaws.{told}
use Rattle.tw_server.proofs.Knowing.{version_known, image_known}
use Rattle.tw_server.proofs.Records.{found_response, none_response, says_of}

module _ (client parent segment : List ℕ) where
  pub conflict_known : (server : Server) (log : Log) (old : IdWords) (last : List ℕ) → Knows server log → last ≡ latest (chain_of client log.versions) → same_id last parent ≡ false
      → IsAnswerByMemory server log (Add client parent segment) old old (responses.Conflict last)
  conflict_known server log old last known is other =
      let chain = chain_of client log.versions in
      let at : accepts chain parent ≡ false = ap (λ x. same_id x parent) (sym is) ∙ other in
      let answered = conflicts chain parent segment (drawn_id old.start) at in
      record {
        says = ap without_bytes (ap (λ x. responses.Conflict x) is ∙ sym (ap (told log client) answered));
        drawn = record { start = drawn_after client parent segment log false old.start old.step at; step = refl };
        knows = subst (Knows server) (sym (nothing_added client parent segment log (drawn_id old.start) (Conflict (latest chain)) answered)) known;
      }

  pub taken_known : (server : Server) (log : Log) (old new : IdWords) (last : List ℕ) → Knows server log → last ≡ latest (chain_of client log.versions) → same_id last parent ≡ true → has_id (drawn_id old.start) (chain_of client log.versions) ≡ true
      → new.start ≡ (old.start + old.step) % 2 ^ 128 → new.step ≡ old.step → IsAnswerByMemory server log (Add client parent segment) old new responses.Taken
  taken_known server log old new last known is same there start step =
      let chain = chain_of client log.versions in
      let at : accepts chain parent ≡ true = ap (λ x. same_id x parent) (sym is) ∙ same in
      let answered = answer_is true true chain parent segment (drawn_id old.start) at there in
      record {
        says = ap without_bytes (sym (ap (told log client) answered));
        drawn = record { start = start ∙ drawn_after client parent segment log true old.start old.step at; step = step };
        knows = subst (Knows server) (sym (nothing_added client parent segment log (drawn_id old.start) Taken answered)) known;
      }

  -- what the server knows once a version was added
  pub knows_added : (before server : Server) (log : Log) (id last : List ℕ) → Knows before log → last ≡ latest (chain_of client log.versions) → same_id last parent ≡ true → has_id id (chain_of client log.versions) ≡ false
      → server.versions.entries.items ≡ before.versions.entries.items ++ entry_of (accepted_for client (version id parent segment)) ∷ [] → ((c : List ℕ) → image_at server.images c ≡ image_at before.images c)
      → Knows server (log_after log (Add client parent segment) id)
  knows_added before server log id last known is same fresh entries images =
      subst (Knows server) (sym (one_added client parent segment log id last is same fresh)) (version_known before server log (accepted_for client (version id parent segment)) known entries images)

  pub added_known : (server : Server) (log : Log) (old new : IdWords) (id last : List ℕ) (wanted : Bool) → id ≡ drawn_id old.start → last ≡ latest (chain_of client log.versions) → same_id last parent ≡ true → has_id (drawn_id old.start) (chain_of client log.versions) ≡ false
      → new.start ≡ (old.start + old.step) % 2 ^ 128 → new.step ≡ old.step → Knows server (log_after log (Add client parent segment) (drawn_id old.start))
      → wanted ≡ is_wanted (account_of client (log_after log (Add client parent segment) (drawn_id old.start))) → IsAnswerByMemory server log (Add client parent segment) old new (responses.Added id wanted)
  added_known server log old new id last wanted drawn is same fresh start step knows wants = record {
    says = ap without_bytes (added_says client parent segment log (drawn_id old.start) id last wanted drawn is same fresh wants);
    drawn = record { start = start ∙ drawn_after client parent segment log true old.start old.step (ap (λ x. same_id x parent) (sym is) ∙ same); step = step };
    knows = knows;
  }

pub is_other : (b : Bool) → true ≡ not b → b ≡ false
is_other true e = let no : ⊥ = cc in absurd no
is_other false e = refl

-- ---- an add-snapshot

module _ (client v bytes : List ℕ) (log : Log) (ids : IdWords) where
  pub bad_known : (server : Server) → Knows server log → is_welcome (account_of client log) v ≡ false → IsAnswerByMemory server log (AddSnapshot client v bytes) ids ids responses.Bad
  bad_known server known not = record {
    says = ap without_bytes (sym (ap (told_store client v bytes log) not));
    drawn = record { start = refl; step = refl };
    knows = subst (Knows server) (sym (not_stored client v bytes log not (drawn_id ids.start))) known;
  }

  pub stored_known : (before server : Server) (n : ℕ) → Knows before log → is_welcome (account_of client log) v ≡ true → server.versions.entries.items ≡ before.versions.entries.items
      → ((c : List ℕ) → image_at server.images c ≡ cond (is_eq (uuid_cmp client c)) (Some (record { version = v; number = n })) (image_at before.images c))
      → IsAnswerByMemory server log (AddSnapshot client v bytes) ids ids responses.Stored
  stored_known before server n known welcome entries images = record {
    says = ap without_bytes (sym (ap (told_store client v bytes log) welcome));
    drawn = record { start = refl; step = refl };
    knows = subst (Knows server) (sym (one_stored client v bytes log welcome (drawn_id ids.start))) (image_known before server log (snapshot client v bytes log) n known entries images);
  }

-- ---- a get-child-version

module _ (client parent : List ℕ) (server : Server) (log : Log) (ids : IdWords) where
  pub child_known : (response : Response) → Knows server log → without_bytes response ≡ without_bytes (response_at log (Child client parent) (drawn_id ids.start)) → IsAnswerByMemory server log (Child client parent) ids ids response
  child_known response known says = record {
    says = says;
    drawn = record { start = refl; step = refl };
    knows = subst (Knows server) (sym (reads_only log)) known;
  }

  -- the segment of a version, whatever is answered if there is no version
  segment_is : (n : ℕ) (d : Accepted) → n < length log.versions → IsSegmentOf log.versions n (get_or log.versions n d).version.segment
  segment_is n d inside e = ap (λ (a : Accepted). a.version.segment) (get_or_same log.versions n d e inside)
    where
      get_or_same : (l : List Accepted) (k : ℕ) (d e : Accepted) → k < length l → get_or l k d ≡ get_or l k e
      get_or_same [] k d e lt = absurd (omega (arith, lt))
      get_or_same (x ∷ l) zero d e lt = refl
      get_or_same (x ∷ l) (suc k) d e lt = get_or_same l k d e (omega (arith, lt))

  pub found_known : (n : ℕ) (e : Entry) (segment : List ℕ) → IsSound log.versions → Knows server log → position (is_child client parent) server.versions.entries.items ≡ Some n → get_or server.versions.entries.items n e ≡ e
      → IsAnswerByMemory server log (Child client parent) ids ids (responses.Child e.id parent segment)
  found_known n e segment sound known place here =
      let d : Accepted = record { client = client; version = record { id = parent; parent = parent; segment = segment } } in
      let at = position-Some (is_child client parent) server.versions.entries.items n e place in
      let lt : n < length log.versions = let long = ap length known.entries ∙ length-map log.versions entry_of in let k = at.0 in omega (arith, long, k) in
      child_known (responses.Child e.id parent segment) known (ap without_bytes (found_response client parent (drawn_id ids.start) log server.versions.entries.items n e (get_or log.versions n d).version.segment sound known.entries place here (segment_is n d lt)))

  pub none_known : (response : Response) (last : List ℕ) → IsSound log.versions → Knows server log → position (is_child client parent) server.versions.entries.items ≡ None → last ≡ latest (chain_of client log.versions)
      → response ≡ says_of client parent (drawn_id ids.start) log (cond (same_id last parent) UpToDate Gone) → IsAnswerByMemory server log (Child client parent) ids ids response
  none_known response last sound known place is says =
      child_known response known (ap without_bytes (says ∙ ap (λ x. says_of client parent (drawn_id ids.start) log (cond (same_id x parent) UpToDate Gone)) is ∙ sym (none_response client parent (drawn_id ids.start) log server.versions.entries.items sound known.entries place)))

-- ---- a request for the stored snapshot

module _ (client : List ℕ) (server : Server) (log : Log) (ids : IdWords) where
  fetch_known : (response : Response) → Knows server log → without_bytes response ≡ without_bytes (response_at log (Snapshot client) (drawn_id ids.start)) → IsAnswerByMemory server log (Snapshot client) ids ids response
  fetch_known response known says = record {
    says = says;
    drawn = record { start = refl; step = refl };
    knows = subst (Knows server) (sym (reads_only log)) known;
  }

  fetched_by : (o : Option Stored_snapshot) (v bytes : List ℕ) → Some v ≡ option_map (λ (s : Stored_snapshot). s.version) o → responses.Snapshot v [] ≡ without_bytes (response_of (offered o))
  fetched_by None v bytes e = absurd (let no : ⊥ = cc in no)
  fetched_by (Some s) v bytes e = let same : v ≡ s.version = cc in ap (λ x. responses.Snapshot x []) same

  absent_by : (o : Option Stored_snapshot) → None ≡ option_map (λ (s : Stored_snapshot). s.version) o → responses.UpToDate ≡ without_bytes (response_of (offered o))
  absent_by None e = refl
  absent_by (Some s) e = absurd (let no : ⊥ = cc in no)

  pub fetched_known : (p : Placed) (bytes : List ℕ) → Knows server log → image_at server.images client ≡ Some p → IsAnswerByMemory server log (Snapshot client) ids ids (responses.Snapshot p.version bytes)
  fetched_known p bytes known stored =
      fetch_known (responses.Snapshot p.version bytes) known (fetched_by (account_of client log).stored p.version bytes (ap (option_map (λ (q : Placed). q.version)) (sym stored) ∙ known.images client))

  pub absent_known : Knows server log → image_at server.images client ≡ None → IsAnswerByMemory server log (Snapshot client) ids ids responses.UpToDate
  absent_known known none = fetch_known responses.UpToDate known (absent_by (account_of client log).stored (ap (option_map (λ (q : Placed). q.version)) (sym none) ∙ known.images client))
