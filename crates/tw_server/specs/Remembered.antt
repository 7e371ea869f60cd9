-- What a server answers by what it knows, whatever its file holds.
use Rattle.std.specs.Prelude.{◌≡◌, ℕ, List, [], ◌++◌, Some}
use Rattle.std.specs.List.{position, slice_get}
use Rattle.tw_world.specs.Disk.{DiskModel, Tells}
use Rattle.tw_world.specs.declared.ids.IdWords.{IdWords}
use Rattle.tw_journal.specs.Journal.{HasBody}
use Rattle.tw_http.specs.declared.message.Request.{Request}
use Rattle.tw_http.specs.declared.message.Response.{Response}
use Rattle.tw_http.specs.declared.message.Response.TheVariants as responses
use Rattle.tw_http.specs.Serving.{client_of}
use Rattle.tw_server.specs.declared.server.Server.{Server}
use Rattle.tw_server.specs.declared.images.Placed.{Placed}
use Rattle.tw_records.specs.declared.entry.Entry.{Entry}
use Rattle.tw_records.specs.Log.{Log, IsSound}
use Rattle.tw_records.specs.Bodies.{version_front, snapshot_front}
use Rattle.tw_server.specs.Log.{log_after, response_at}
use Rattle.tw_server.specs.Server.{Knows, drawn_id, IsDrawn, is_accepted}
use Rattle.tw_server.specs.Versions.{is_child, image_at}

-- a response without its segment or its snapshot
abbrev pub without_bytes : Response → Response
without_bytes (responses.Added id wanted) = responses.Added id wanted
without_bytes (responses.Conflict latest) = responses.Conflict latest
without_bytes (responses.Child id parent segment) = responses.Child id parent []
without_bytes responses.UpToDate = responses.UpToDate
without_bytes responses.Gone = responses.Gone
without_bytes responses.Bad = responses.Bad
without_bytes responses.TooLong = responses.TooLong
without_bytes responses.Taken = responses.Taken
without_bytes responses.Stored = responses.Stored
without_bytes (responses.Snapshot version bytes) = responses.Snapshot version []

-- the response to a request of this log but for its bytes, the ids that are left, and what the server then knows
pub record IsAnswerByMemory (server : Server) (log : Log) (request : Request) (old new : IdWords) (response : Response) : Type 0 where
  pub says : without_bytes response ≡ without_bytes (response_at log request (drawn_id old.start))
  pub drawn : IsDrawn (is_accepted log request) old new
  pub knows : Knows server (log_after log request (drawn_id old.start))

-- the segment is that of the first version of the client that has this parent: its record begins with what the server knows of it
pub record IsChildsSegment (server : Server) (file client parent segment : List ℕ) : Type 0 where
  pub place : ℕ
  pub first : position (is_child client parent) server.versions.entries.items ≡ Some place
  pub entry : Entry
  pub row : slice_get server.versions.entries.items place ≡ Some entry
  pub number : ℕ
  pub at : slice_get server.versions.numbers.items place ≡ Some number
  pub stands : HasBody server.journal file number (version_front entry ++ segment)

-- the snapshot is that of the client's stored snapshot: its record begins with what the server knows of it
pub record IsStoredSnapshot (server : Server) (file client bytes : List ℕ) : Type 0 where
  pub placed : Placed
  pub stored : image_at server.images client ≡ Some placed
  pub stands : HasBody server.journal file placed.number (snapshot_front (record { client = client; version = placed.version }) ++ bytes)

-- the bytes of a response are of a record that is there
abbrev pub CarriesBytes : {D : Type 0} → DiskModel D → Server → D → (client : List ℕ) → Response → Type 0
CarriesBytes m server disk client (responses.Added id wanted) = Unit {0}
CarriesBytes m server disk client (responses.Conflict latest) = Unit {0}
CarriesBytes m server disk client (responses.Child id parent segment) = Tells m disk → IsChildsSegment server (m.seen disk) client parent segment
CarriesBytes m server disk client responses.UpToDate = Unit {0}
CarriesBytes m server disk client responses.Gone = Unit {0}
CarriesBytes m server disk client responses.Bad = Unit {0}
CarriesBytes m server disk client responses.TooLong = Unit {0}
CarriesBytes m server disk client responses.Taken = Unit {0}
CarriesBytes m server disk client responses.Stored = Unit {0}
CarriesBytes m server disk client (responses.Snapshot version bytes) = Tells m disk → IsStoredSnapshot server (m.seen disk) client bytes

-- whatever the file holds, a request is answered by what the server knows, and bytes are of a record that is there
pub record IsRemembered {D : Type 0} (m : DiskModel D) (old new : Server) (before : D) (request : Request)
    (ids ids_now : IdWords) (response : Response) : Type 0 where
  pub answer : (log : Log) → Knows old log → IsSound log.versions → IsAnswerByMemory new log request ids ids_now response
  pub bytes : CarriesBytes m old before (client_of request) response

-- it is remembered so whatever the ids are, and they stay
abbrev pub IsRememberedUndrawn : {D : Type 0} → DiskModel D → (old new : Server) (before : D) → Request → Response → Type 0
IsRememberedUndrawn m old new before request response = (ids : IdWords) → IsRemembered m old new before request ids ids response
