-- A server's disk.
use Rattle.std.proofs.Common.{inl, inr, ◌≡◌, ◌∙◌, ◌+◌, ◌≤◌, ℕ, false, option_map, List, length, map, sym, ap, subst, arith}
use Rattle.std.proofs.lemmas.Bool.{true≢false}
use Rattle.tw_world.specs.Disk.{DiskModel, Tells, LeavesOnly, Untouched}
use Rattle.tw_world.proofs.Moments.{OnlyNow, started, weaker}
use Rattle.tw_journal.specs.Journal.{IsSameBesideRoom, AppendRefused}
use Rattle.tw_journal.specs.Record.{IsLongerBy}
use Rattle.tw_journal.specs.declared.journal.Journal.{Journal}
use Rattle.tw_journal.specs.declared.error.AppendError.{AppendError}
use Rattle.tw_journal.specs.declared.error.AppendError.TheVariants as appends
use Rattle.tw_journal.proofs.Offsets.{still_open, same_open, left_records}
use Rattle.tw_http.specs.declared.message.Request.{Request}
use Rattle.tw_http.specs.declared.message.Request.TheVariants.{Add, Child, AddSnapshot, Snapshot}
use Rattle.tw_http.specs.Messages.{max_body, request_body}
use Rattle.tw_records.specs.Log.{Log}
use Rattle.tw_records.specs.Table.{body_at}
use Rattle.tw_server.specs.Server.{magic, most_added, is_closed, Knows, HasPlaces, IsServerOn, LogOrAfter}
use Rattle.tw_server.specs.Versions.{image_at}
use Rattle.tw_server.specs.declared.images.Placed.{Placed}
use Rattle.tw_server.specs.declared.server.Server.{Server}

pub same_known : (before server : Server) (log : Log) → server.versions.entries.items ≡ before.versions.entries.items
    → ((client : List ℕ) → image_at server.images client ≡ image_at before.images client) → Knows before log → Knows server log
same_known before server log entries images known = record {
  entries = entries ∙ known.entries;
  images = λ client. ap (option_map (λ (p : Placed). p.version)) (images client) ∙ known.images client;
}

pub server_stays : {D : Type 0} (m : DiskModel D) (server : Server) (old new : D) (log : Log) → Untouched m old new → IsServerOn m server old log → IsServerOn m server new log
server_stays m server old new log same on = record { bodies = on.bodies; journal = still_open m magic server.journal old new on.bodies same on.journal; stands = on.stands; places = on.places }

-- room changes nothing of what a server has on its disk
pub same_places : (before server : Server) (bodies : List (List ℕ)) (log : Log) → server.versions.entries.items ≡ before.versions.entries.items → server.versions.numbers.items ≡ before.versions.numbers.items
    → ((client : List ℕ) → image_at server.images client ≡ image_at before.images client) → HasPlaces before bodies log → HasPlaces server bodies log
same_places before server bodies log entries numbers images places = record {
  knows = same_known before server log entries images places.knows;
  numbers = ap (map (body_at bodies)) numbers ∙ places.numbers;
  images = λ client. ap (option_map (λ (p : Placed). body_at bodies p.number)) (images client) ∙ places.images client;
  sound = places.sound;
  accounts = places.accounts;
}

module _ {D : Type 0} (m : DiskModel D) (before server : Server) (first : D) (log : Log) (on : IsServerOn m before first log)
    (entries : server.versions.entries.items ≡ before.versions.entries.items) (numbers : server.versions.numbers.items ≡ before.versions.numbers.items)
    (images : (client : List ℕ) → image_at server.images client ≡ image_at before.images client) where
  pub room_on : IsSameBesideRoom before.journal server.journal → IsServerOn m server first log
  room_on room = record {
    bodies = on.bodies;
    journal = same_open m magic before.journal server.journal first on.bodies room on.journal;
    stands = on.stands;
    places = same_places before server on.bodies log entries numbers images on.places;
  }

  -- an append that is refused leaves the log on a server that it leaves open
  pub append_stays : (mid : Journal) (disk : D) (size : ℕ) (e : AppendError) → IsSameBesideRoom before.journal mid → AppendRefused m mid server.journal first disk size e → is_closed server ≡ false → IsServerOn m server disk log
  append_stays mid disk size appends.Disk room refused open_now = absurd (true≢false (sym refused.1 ∙ open_now))
  append_stays mid disk size appends.Closed room refused open_now = absurd (true≢false (sym refused.0 ∙ room.closed ∙ on.journal.open_now))
  append_stays mid disk size (appends.TooLong bytes) room refused open_now =
      subst (λ d. IsServerOn m server d log) (sym refused.4) (room_on (subst (IsSameBesideRoom before.journal) (sym refused.3) room))

-- before the first call, and after reads, a crash leaves the records that there are
pub first_moment : {D : Type 0} (m : DiskModel D) (server : Server) (disk : D) (log next : Log) → OnlyNow m → IsServerOn m server disk log → LeavesOnly m disk disk (LogOrAfter log next)
first_moment m server disk log next only_now on = started m only_now disk (LogOrAfter log next) (λ c left. inl (on.bodies, left_records m magic server.journal disk on.bodies on.journal c left, on.stands))

pub moments_of_reads : {D : Type 0} (m : DiskModel D) (server : Server) (old new : D) (log next : Log) → Untouched m old new → IsServerOn m server old log → LeavesOnly m old new (LogOrAfter log next)
moments_of_reads m server old new log next same on =
    weaker m old new (m.leaves old) (LogOrAfter log next) (same.run on.journal.rest.tells) (λ c left. inl (on.bodies, left_records m magic server.journal old on.bodies on.journal c left, on.stands))

-- ---- how long an image is

pub no_growth : {D : Type 0} (m : DiskModel D) (disk : D) (bytes : ℕ) → OnlyNow m → LeavesOnly m disk disk (IsLongerBy m disk bytes)
no_growth m disk bytes only_now = started m only_now disk (IsLongerBy m disk bytes) (λ c left. inl left)

pub growth_of_reads : {D : Type 0} (m : DiskModel D) (old new : D) (bytes : ℕ) → Untouched m old new → Tells m old → LeavesOnly m old new (IsLongerBy m old bytes)
growth_of_reads m old new bytes same tells = weaker m old new (m.leaves old) (IsLongerBy m old bytes) (same.run tells) (λ c left. inl left)

pub growth_is : {D : Type 0} (m : DiskModel D) (old new : D) (bytes most : ℕ) → bytes ≡ most → LeavesOnly m old new (IsLongerBy m old bytes) → LeavesOnly m old new (IsLongerBy m old most)
growth_is m old new bytes most is run = subst (λ k. LeavesOnly m old new (IsLongerBy m old k)) is run

pub growth_within : {D : Type 0} (m : DiskModel D) (old new : D) (bytes most : ℕ) → bytes ≤ most → LeavesOnly m old new (IsLongerBy m old bytes) → LeavesOnly m old new (IsLongerBy m old most)
growth_within m old new bytes most few run = weaker m old new (IsLongerBy m old bytes) (IsLongerBy m old most) run (λ c long. elim long [
  | inl left ↦ inl left
  | inr short ↦ inr (omega (arith, short, few))
])

-- a request whose segment fits a body adds a bounded record
pub most_fits : (request : Request) → length (request_body request) ≤ max_body → most_added request ≤ max_body + 54
most_fits (Add client parent segment) fits = omega (arith, fits)
most_fits (Child client parent) fits = omega arith
most_fits (AddSnapshot client version bytes) fits = omega (arith, fits)
most_fits (Snapshot client) fits = omega arith
