-- A server on its disk, and why it refuses.
use Rattle.std.specs.Prelude.{◌≡◌, ◌⊎◌, ℕ, ◌+◌, ◌%◌, ◌<◌, ◌^◌, Bool, true, false, List, ◌++◌, codes, length, take, drop, map}
use Rattle.std.specs.Prelude.{if◌then◌else◌, Option, Some, option_map}
use Rattle.std.specs.List.{slice_get}
use Rattle.tw_world.specs.Disk.{DiskModel, Tells, LeavesOnly, Rose}
use Rattle.tw_journal.specs.Journal.{IsOpenOn, HasRecordAt, IsSameBesideRoom, is_closed as is_journal_closed, journal_end}
use Rattle.tw_journal.specs.Reading.{StopsAt}
use Rattle.tw_journal.specs.Record.{IsLongerBy}
use Rattle.tw_journal.specs.Open.{Records}
use Rattle.tw_server.specs.declared.server.Server.{Server}
use Rattle.tw_server.specs.declared.images.Placed.{Placed}
use Rattle.tw_server.specs.declared.error.AnswerError.{AnswerError}
use Rattle.tw_server.specs.declared.error.AnswerError.TheVariants as answer
use Rattle.tw_protocol.specs.Answer.{accepts}
use Rattle.tw_protocol.specs.Snapshots.{Snapshot, IsAccount}
use Rattle.tw_world.specs.declared.ids.IdWords.{IdWords}
use Rattle.tw_world.specs.Ids.{id_bytes}
use Rattle.tw_http.specs.declared.message.Request.{Request}
use Rattle.tw_http.specs.declared.message.Request.TheVariants.{Add, Child, AddSnapshot}
use Rattle.tw_http.specs.declared.message.Request.TheVariants as asks
use Rattle.tw_http.specs.declared.message.Response.{Response}
use Rattle.tw_http.specs.declared.message.Response.TheVariants as responses
use Rattle.tw_http.specs.declared.message.Asked.{Asked}
use Rattle.tw_http.specs.declared.message.Asked.TheVariants as kinds
use Rattle.tw_http.specs.Responses.{answers}
use Rattle.tw_records.specs.Log.{ClientSnapshot, Log, IsSound, chain_of, account_of}
use Rattle.tw_records.specs.declared.entry.Entry.{Entry}
use Rattle.tw_records.specs.Bodies.{body_of, entry_of, version_front, snapshot_body, snapshot_front}
use Rattle.tw_records.specs.Reading.{StandFor}
use Rattle.tw_records.specs.Table.{body_at}
use Rattle.tw_server.specs.Log.{log_after, response_at}
use Rattle.tw_server.specs.Versions.{image_at}

abbrev pub magic : List ℕ
magic = codes "TWSERV01"

-- ---- what a server knows

-- the version of a stored snapshot
abbrev pub version_at : Server → List ℕ → Option (List ℕ)
version_at server client = option_map (λ (p : Placed). p.version) (image_at server.images client)

-- the server knows the versions of this log, and of each client the version of the stored snapshot
pub record Knows (server : Server) (log : Log) : Type 0 where
  pub entries : server.versions.entries.items ≡ map entry_of log.versions
  pub images : (client : List ℕ) → version_at server client ≡ option_map (λ (s : Snapshot). s.version) (account_of client log).stored

abbrev pub snapshot_of : List ℕ → Snapshot → ClientSnapshot
snapshot_of client s = record { client = client; snapshot = s }

-- the body of the record of a client's stored snapshot, among these
abbrev pub image_body : List (List ℕ) → Server → List ℕ → Option (List ℕ)
image_body bodies server client = option_map (λ (p : Placed). body_at bodies p.number) (image_at server.images client)

-- and it knows where their records are among these bodies
pub record HasPlaces (server : Server) (bodies : List (List ℕ)) (log : Log) : Type 0 where
  pub knows : Knows server log
  pub numbers : map (body_at bodies) server.versions.numbers.items ≡ map body_of log.versions
  pub images : (client : List ℕ) → image_body bodies server client ≡ option_map (λ s. snapshot_body (snapshot_of client s)) (account_of client log).stored
  pub sound : IsSound log.versions
  pub accounts : (client : List ℕ) → IsAccount (account_of client log)

-- the disk holds records that stand for this log, and the server knows it and where its records are
pub record IsServerOn {D : Type 0} (m : DiskModel D) (server : Server) (disk : D) (log : Log) : Type 0 where
  pub bodies : List (List ℕ)
  pub journal : IsOpenOn m magic server.journal disk bodies
  pub stands : StandFor bodies log
  pub places : HasPlaces server bodies log

-- whichever log a server has on its disk
abbrev pub OnLog : {D : Type 0} → DiskModel D → Server → D → (Log → Type 0) → Type 0
OnLog m server disk P = (log : Log) → IsServerOn m server disk log → P log

-- this is the response to a request of that log, whatever id would be drawn
abbrev pub RespondsAt : Log → Request → Response → Type 0
RespondsAt log request response = (id : List ℕ) → response ≡ response_at log request id

-- whether a fault of the disk has closed it
abbrev pub is_closed : Server → Bool
is_closed server = is_journal_closed server.journal

-- the length of its file
abbrev pub server_end : Server → ℕ
server_end server = journal_end server.journal

-- the file has records that stand for a log
abbrev pub HoldsLog : Log → List ℕ → Type 0
HoldsLog log file = (bodies : List (List ℕ)) × Records magic file bodies × StandFor bodies log

-- it has those of one log, or of another
abbrev pub LogOrAfter : (log after : Log) → List ℕ → Type 0
LogOrAfter log after file = HoldsLog log file ⊎ HoldsLog after file

-- a crash leaves the log that the server has, or what becomes of it
abbrev pub LeavesLog : {D : Type 0} → DiskModel D → Server → (before after : D) → (Log → Log) → Type 0
LeavesLog m server before after change = OnLog m server before (λ log. LeavesOnly m before after (LogOrAfter log (change log)))

-- a crash leaves an image that is longer by at most so many bytes
abbrev pub GrowsLogBy : {D : Type 0} → DiskModel D → Server → (before after : D) → (bytes : ℕ) → Type 0
GrowsLogBy m server before after bytes = OnLog m server before (λ log. LeavesOnly m before after (IsLongerBy m before bytes))

-- whether a request is an accepted add-version
abbrev pub is_accepted : Log → Request → Bool
is_accepted log (Add client parent segment) = accepts (chain_of client log.versions) parent
is_accepted log (Child client parent) = false
is_accepted log (AddSnapshot client version bytes) = false
is_accepted log (asks.Snapshot client) = false

-- the id that is drawn from ids that start here
unfoldable pub drawn_id : ℕ → List ℕ
drawn_id start = id_bytes start

-- only an accepted add-version draws an id
pub record IsDrawn (accepted : Bool) (old new : IdWords) : Type 0 where
  pub start : new.start ≡ (if accepted then (old.start + old.step) % 2 ^ 128 else old.start)
  pub step : new.step ≡ old.step

-- whether Bad says of a request of this kind that the bytes are no request; of an add-snapshot it says that the snapshot may not be stored
abbrev pub is_bad_refusal : Asked → Bool
is_bad_refusal kinds.Add = true
is_bad_refusal kinds.Child = true
is_bad_refusal kinds.AddSnapshot = false
is_bad_refusal kinds.Snapshot = true

-- whether a response to a request of this kind says that the bytes are no request
abbrev pub is_refusal : Asked → Response → Bool
is_refusal asked (responses.Added id wanted) = false
is_refusal asked (responses.Conflict latest) = false
is_refusal asked (responses.Child id parent segment) = false
is_refusal asked responses.UpToDate = false
is_refusal asked responses.Gone = false
is_refusal asked responses.Bad = is_bad_refusal asked
is_refusal asked responses.TooLong = true
is_refusal asked responses.Taken = false
is_refusal asked responses.Stored = false
is_refusal asked (responses.Snapshot version bytes) = false

-- a response to a request of this kind, and no refusal
abbrev pub Replies : Asked → Response → Type 0
Replies asked response = (answers asked response ≡ true) × (is_refusal asked response ≡ false)

-- the most bytes that a request adds: a gate, a length, a kind, the uuids, and the segment or the snapshot
abbrev pub most_added : Request → ℕ
most_added (Add client parent segment) = length segment + 54
most_added (Child client parent) = 0
most_added (AddSnapshot client version bytes) = length bytes + 38
most_added (asks.Snapshot client) = 0

module _ {D : Type 0} (m : DiskModel D) (server : Server) (disk : D) where
  -- a request was answered: the response to it, the log that the disk holds now, and the ids that are left
  pub record IsAnswer (log : Log) (request : Request) (old new : IdWords) (response : Response) : Type 0 where
    pub says : response ≡ response_at log request (drawn_id old.start)
    pub holds : IsServerOn m server disk (log_after log request (drawn_id old.start))
    pub drawn : IsDrawn (is_accepted log request) old new

-- whichever log the server had, the request was answered so
abbrev pub IsAnswered : {D : Type 0} → DiskModel D → (old new : Server) (before after : D) → Request → (ids ids_now : IdWords) → Response → Type 0
IsAnswered m old new before after request ids ids_now response = OnLog m old before (λ log. IsAnswer m new after log request ids ids_now response)

-- it was answered so whatever the ids are, and they stay
abbrev pub IsAnsweredUndrawn : {D : Type 0} → DiskModel D → (old new : Server) (before after : D) → Request → Response → Type 0
IsAnsweredUndrawn m old new before after request response = (ids : IdWords) → IsAnswered m old new before after request ids ids response

-- ---- damage

-- the record with this number is that of a version that the server knows, and this is what it has before its segment
pub record IsVersionFront (server : Server) (n : ℕ) (front : List ℕ) : Type 0 where
  pub place : ℕ
  pub entry : Entry
  pub row : slice_get server.versions.entries.items place ≡ Some entry
  pub number : slice_get server.versions.numbers.items place ≡ Some n
  pub is : front ≡ version_front entry

-- it is that of a client's stored snapshot, and this is what it has before the bytes
pub record IsSnapshotFront (server : Server) (n : ℕ) (front : List ℕ) : Type 0 where
  pub client : List ℕ
  pub placed : Placed
  pub stored : image_at server.images client ≡ Some placed
  pub number : placed.number ≡ n
  pub is : front ≡ snapshot_front (record { client = client; version = placed.version })

-- the server knows the record with this number, and that its body begins so
abbrev pub HasFront : Server → ℕ → List ℕ → Type 0
HasFront server n front = IsVersionFront server n front ⊎ IsSnapshotFront server n front

-- whatever log the server has on the disk, the body of the record with this number begins so
abbrev pub IsFrontOn : {D : Type 0} → DiskModel D → Server → D → (n : ℕ) → (front : List ℕ) → Type 0
IsFrontOn m server disk n front = (log : Log) (on : IsServerOn m server disk log) → (rest : List ℕ) × (body_at on.bodies n ≡ front ++ rest)

-- the server knows this of it, and that is so on the disk
abbrev pub IsKnownFront : {D : Type 0} → DiskModel D → Server → D → (n : ℕ) → (front : List ℕ) → Type 0
IsKnownFront m server disk n front = HasFront server n front × IsFrontOn m server disk n front

-- the way to the record with this number leads at this offset to another record: its body does not begin so
pub record IsOtherAt (server : Server) (file : List ℕ) (n : ℕ) (front : List ℕ) (offset : ℕ) : Type 0 where
  pub size : ℕ
  pub stands : HasRecordAt server.journal file n offset size
  pub differs : take (length front) (take size (drop (offset + 5) file)) ≡ front → ⊥

-- the way to a record that the server knows stops at this offset of a file, or leads there to another record
pub record IsLostAt (server : Server) (file : List ℕ) (offset : ℕ) : Type 0 where
  pub number : ℕ
  pub front : List ℕ
  pub known : HasFront server number front
  pub lost : StopsAt server.journal.start server.journal.offsets.items number file offset ⊎ IsOtherAt server file number front offset

-- damage was found at this offset of a disk, so that the server has no log on it
pub record IsDamage {D : Type 0} (m : DiskModel D) (server : Server) (disk : D) (offset : ℕ) : Type 0 where
  pub lost : Tells m disk → IsLostAt server (m.seen disk) offset
  pub never : Tells m disk → (log : Log) → IsServerOn m server disk log → ⊥

-- why a request is not answered
abbrev pub AnswerRefused : {D : Type 0} → DiskModel D → (old new : Server) (before after : D) → AnswerError → Type 0
AnswerRefused m old new before after answer.Disk = Rose (m.faults before) (m.faults after) × (is_closed old ≡ false)
AnswerRefused m old new before after answer.Closed = (is_closed old ≡ true) × (new ≡ old) × (after ≡ before)
AnswerRefused m old new before after (answer.Damaged offset) = (new ≡ old) × IsDamage m old before offset
AnswerRefused m old new before after (answer.TooLong bytes) = (2 ^ 30 < bytes) × (after ≡ before) × IsSameBesideRoom old.journal new.journal
AnswerRefused m old new before after answer.Memory = IsSameBesideRoom old.journal new.journal
