-- A server, once a snapshot was stored.
use Rattle.std.proofs.Common.{◌≡◌, ◌∙◌, inl, inr, ℕ, Bool, true, false, not, cond, Some, List, [], ◌∷◌, ◌++◌, length, refl, sym, ap, subst}
use Rattle.std.specs.Ordering.{is_eq}
use Rattle.std.proofs.lemmas.List.{append-nil}
use Rattle.tw_world.specs.Disk.{DiskModel, LeavesOnly}
use Rattle.tw_world.proofs.Moments.{weaker}
use Rattle.tw_http.specs.declared.message.Response.{Response}
use Rattle.tw_world.specs.declared.ids.IdWords.{IdWords}
use Rattle.tw_journal.specs.Journal.{IsOpenOn, RecordsOrMore}
use Rattle.tw_protocol.specs.Snapshots.{Account, Reply, Stored, Refused, is_welcome}
use Rattle.tw_http.specs.declared.message.Request.TheVariants.{AddSnapshot}
use Rattle.tw_http.specs.declared.message.Response.TheVariants as responses
use Rattle.tw_http.specs.Serving.{response_of}
use Rattle.tw_records.specs.Log.{ClientSnapshot, Log, IsSound, chain_of, account_of}
use Rattle.tw_records.specs.Bodies.{snapshot_body}
use Rattle.tw_records.specs.Reading.{StandFor}
use Rattle.tw_records.proofs.Demands.{snapshot_again, snapshot_follows}
use Rattle.tw_records.proofs.More.{snapshot_stands_after}
use Rattle.tw_server.specs.Log.{log_after}
use Rattle.tw_server.specs.Server.{magic, drawn_id, IsServerOn, IsAnswer, LogOrAfter}
use Rattle.tw_server.specs.Versions.{image_at, uuid_cmp}
use Rattle.tw_server.specs.declared.server.Server.{Server}
use Rattle.tw_server.proofs.Accounts.{accounts_image, welcome_there}
use Rattle.tw_server.proofs.Knowing.{with_stored, AreKept, last_body, image_places, known_long, client_long}
use Rattle.tw_server.proofs.Adds.{reads_only}

module _ (client v bytes : List ℕ) (log : Log) where
  abbrev pub snapshot : ClientSnapshot
  snapshot = record { client = client; snapshot = record { version = v; bytes = bytes } }

  abbrev stored_after : Bool → Log
  stored_after t = record { versions = log.versions ++ []; snapshots = log.snapshots ++ cond t (snapshot ∷ []) [] }

  abbrev pub told_store : Bool → Response
  told_store t = response_of (cond {A = Account × Reply} t (record { chain = chain_of client log.versions; stored = Some (record { version = v; bytes = bytes }) }, Stored) (account_of client log, Refused)).1

  pub not_stored : is_welcome (account_of client log) v ≡ false → (id : List ℕ) → log_after log (AddSnapshot client v bytes) id ≡ log
  not_stored not id = ap stored_after not ∙ reads_only log

  pub one_stored : is_welcome (account_of client log) v ≡ true → (id : List ℕ) → log_after log (AddSnapshot client v bytes) id ≡ with_stored log snapshot
  one_stored welcome id = ap stored_after welcome ∙ (λ i. record { versions = append-nil log.versions i; snapshots = log.snapshots ++ snapshot ∷ [] })

  -- a snapshot that is welcome is of a version of the client, so that its uuids have sixteen bytes
  pub welcome_long : IsSound log.versions → is_welcome (account_of client log) v ≡ true → (length client ≡ 16) × (length v ≡ 16)
  welcome_long sound welcome =
      let there = welcome_there (account_of client log).stored v (chain_of client log.versions) welcome in
      (client_long client v log.versions sound.uuids there, known_long v (chain_of client log.versions) (sound.chains client).uuids there)

  pub snapshot_stands : (bodies : List (List ℕ)) → StandFor bodies log → IsSound log.versions → is_welcome (account_of client log) v ≡ true → StandFor (bodies ++ snapshot_body snapshot ∷ []) (with_stored log snapshot)
  snapshot_stands bodies stands sound welcome =
      let long = welcome_long sound welcome in
      subst (StandFor (bodies ++ snapshot_body snapshot ∷ [])) (λ i. with_stored log (snapshot_again snapshot long.0 long.1 i))
      (snapshot_stands_after bodies log (snapshot_body snapshot) stands (snapshot_follows snapshot long.0 long.1 log welcome))

module _ {D : Type 0} (m : DiskModel D) (client v bytes : List ℕ) where
  pub bad_answer : (server : Server) (disk : D) (log : Log) (ids : IdWords) → IsServerOn m server disk log → is_welcome (account_of client log) v ≡ false → IsAnswer m server disk log (AddSnapshot client v bytes) ids ids responses.Bad
  bad_answer server disk log ids on not = record {
    says = sym (ap (told_store client v bytes log) not);
    holds = subst (IsServerOn m server disk) (sym (not_stored client v bytes log not (drawn_id ids.start))) on;
    drawn = record { start = refl; step = refl };
  }

  -- the server after the record of a snapshot
  pub store_answer : (before server : Server) (first disk : D) (log : Log) (ids : IdWords) (n : ℕ) (on : IsServerOn m before first log) → is_welcome (account_of client log) v ≡ true
      → IsOpenOn m magic server.journal disk (on.bodies ++ snapshot_body (snapshot client v bytes log) ∷ [])
      → n ≡ length on.bodies → AreKept before on.bodies (on.bodies ++ snapshot_body (snapshot client v bytes log) ∷ [])
      → server.versions.entries.items ≡ before.versions.entries.items → server.versions.numbers.items ≡ before.versions.numbers.items
      → ((c : List ℕ) → image_at server.images c ≡ cond (is_eq (uuid_cmp client c)) (Some (record { version = v; number = n })) (image_at before.images c))
      → IsAnswer m server disk log (AddSnapshot client v bytes) ids ids responses.Stored
  store_answer before server first disk log ids n on welcome open_on at kept entries numbers images =
      let t = snapshot client v bytes log in
      let more = on.bodies ++ snapshot_body t ∷ [] in
      let there : IsServerOn m server disk (with_stored log t) = record {
        bodies = more;
        journal = open_on;
        stands = snapshot_stands client v bytes log on.bodies on.stands on.places.sound welcome;
        places = image_places before server on.bodies more log on.places kept n t entries numbers images (last_body on.bodies (snapshot_body t) n at) (accounts_image log t welcome on.places.accounts);
      } in
      record {
        says = sym (ap (told_store client v bytes log) welcome);
        holds = subst (IsServerOn m server disk) (sym (one_stored client v bytes log welcome (drawn_id ids.start))) there;
        drawn = record { start = refl; step = refl };
      }

  -- a crash leaves the log, or it and the new snapshot
  pub stored_moments : (server : Server) (first disk : D) (log : Log) (id : List ℕ) (on : IsServerOn m server first log) → is_welcome (account_of client log) v ≡ true
      → LeavesOnly m first disk (RecordsOrMore magic on.bodies (snapshot_body (snapshot client v bytes log))) → LeavesOnly m first disk (LogOrAfter log (log_after log (AddSnapshot client v bytes) id))
  stored_moments server first disk log id on welcome run =
      let t = snapshot client v bytes log in
      let stands = subst (StandFor (on.bodies ++ snapshot_body t ∷ [])) (sym (one_stored client v bytes log welcome id)) (snapshot_stands client v bytes log on.bodies on.stands on.places.sound welcome) in
      weaker m first disk (RecordsOrMore magic on.bodies (snapshot_body t)) (LogOrAfter log (log_after log (AddSnapshot client v bytes) id)) run (λ c left. elim left [
        | inl old ↦ inl (on.bodies, old, on.stands)
        | inr new ↦ inr (on.bodies ++ snapshot_body t ∷ [], new, stands)
      ])
