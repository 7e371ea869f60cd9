-- What an opening makes of a server's records.
use Rattle.std.specs.Prelude.{◌≡◌, ◌⊎◌, ◌<◌, ◌≤◌, ◌+◌, ◌&&◌, ℕ, cond, if◌then◌else◌, Option, Some, None, List, [], ◌∷◌, length, map, Result, Ok, Err}
use Rattle.std.specs.Ordering.{is_eq}
use Rattle.tw_world.specs.Disk.{DiskModel, Tells, LeavesOnly, Rose}
use Rattle.tw_journal.specs.Form.{offset_in}
use Rattle.tw_journal.specs.Journal.{IsOpenOn, OnRecords}
use Rattle.tw_journal.specs.Open.{Records, IsDamagedAt, IsImageThen}
use Rattle.tw_protocol.specs.Chain.{same_id}
use Rattle.tw_protocol.specs.Snapshots.{IsAccount}
use Rattle.tw_records.specs.declared.image.Image.{Image}
use Rattle.tw_records.specs.declared.entry.Entry.{Entry}
use Rattle.tw_records.specs.declared.walk.Source.{Source}
use Rattle.tw_records.specs.Log.{Accepted, Log, IsSound, account_of}
use Rattle.tw_records.specs.Bodies.{block_size, is_next_entry}
use Rattle.tw_records.specs.Reading.{StandFor}
use Rattle.tw_records.specs.Table.{Row, Placed as Told, Table, log_in, is_block_body, entry_at, taken, table_in}
use Rattle.tw_records.specs.Opening.{entries_in, opened_records}
use Rattle.tw_server.specs.declared.error.ServerOpenError.{ServerOpenError}
use Rattle.tw_server.specs.declared.error.ServerOpenError.TheVariants as errors
use Rattle.tw_server.specs.declared.images.Placed.{Placed}
use Rattle.tw_server.specs.declared.reader.Reader.{Reader}
use Rattle.tw_server.specs.declared.server.Server.{Server}
use Rattle.tw_server.specs.Reader.{IsShown}
use Rattle.tw_server.specs.Server.{magic, HoldsLog, IsServerOn}
use Rattle.tw_server.specs.Versions.{image_at, uuid_cmp}

-- ---- the table

abbrev pub no_rows : Table
no_rows = record { rows = []; images = [] }

-- the last of these snapshots that is a client's, or else this one
abbrev pub placed_from : List ℕ → Option Placed → List Told → Option Placed
placed_from client before [] = before
placed_from client before (t ∷ ts) =
    placed_from client (cond (same_id t.image.client client) (Some (record { version = t.image.version; number = t.number })) before) ts

-- the server knows what this table tells, and nothing else
pub record IsTabled (server : Server) (table : Table) : Type 0 where
  pub entries : server.versions.entries.items ≡ entries_in table
  pub numbers : server.versions.numbers.items ≡ map (λ (row : Row). row.number) table.rows
  pub images : (client : List ℕ) → image_at server.images client ≡ placed_from client None table.images
  pub sound : IsSound (log_in table).versions
  pub accounts : (client : List ℕ) → IsAccount (account_of client (log_in table))

-- the stored snapshots are the same but for this one, whose record has this number
abbrev pub IsImageMore : (old new : Server) → Image → ℕ → Type 0
IsImageMore old new image n = (client : List ℕ)
    → image_at new.images client
    ≡ cond (is_eq (uuid_cmp image.client client)) (Some (record { version = image.version; number = n })) (image_at old.images client)

-- ---- the steps of an opening

-- sources led to a table, and the server knows what it tells
abbrev pub IsReadBy : Server → Result Table ℕ → Type 0
IsReadBy server read = (table : Table) × (read ≡ Ok table) × IsTabled server table

-- a source led to a table, the server knows what it tells, and the reader shows these bodies
abbrev pub IsTaken : Server → Reader → List (List ℕ) → Result Table ℕ → Type 0
IsTaken server reader bodies read = IsReadBy server read × IsShown reader bodies

-- whichever bodies the server's journal has, if the reader shows them, and whatever table the server knows, this holds
abbrev pub OnTable : {D : Type 0} → DiskModel D → Server → Reader → D → (List (List ℕ) → Table → Type 0) → Type 0
OnTable m server reader disk P = (bodies : List (List ℕ)) → IsOpenOn m magic server.journal disk bodies → IsShown reader bodies
    → (table : Table) → IsTabled server table → P bodies table

-- whichever bodies the server's journal has, if it knows nothing yet, this holds of them
abbrev pub OnNothing : {D : Type 0} → DiskModel D → Server → D → (List (List ℕ) → Type 0) → Type 0
OnNothing m server disk P = (bodies : List (List ℕ)) → IsOpenOn m magic server.journal disk bodies → IsTabled server no_rows → P bodies

-- whichever bodies the server's journal has, a crash leaves records of these bodies, or of what becomes of them
abbrev pub LeavesBodies : {D : Type 0} → DiskModel D → Server → (before after : D) → (List (List ℕ) → List (List ℕ)) → Type 0
LeavesBodies m server before after change =
    OnRecords m server.journal before (λ form bodies. LeavesOnly m before after (λ c. Records form c bodies ⊎ Records form c (change bodies)))

-- an image that the disk could leave before, or, if many versions come after the last block, one that is longer by at most a block
abbrev pub IsLongerIf : {D : Type 0} → DiskModel D → D → (many : Type 0) → List ℕ → Type 0
IsLongerIf m before many c = m.leaves before c ⊎ (many × (length c ≤ length (m.seen before) + 12294))

-- ---- damage

-- what is said of the offset of damage, if this is damage
abbrev pub IfDamaged : ServerOpenError → (ℕ → Type 0) → Type 0
IfDamaged errors.Disk P = Unit {0}
IfDamaged (errors.Damaged offset) P = P offset
IfDamaged errors.Memory P = Unit {0}

-- the reading of these bodies is damaged at a record, which is at this offset of the file
pub record IsDamageBy (file : List ℕ) (bodies : List (List ℕ)) (read : Result Table ℕ) (offset : ℕ) : Type 0 where
  pub number : ℕ
  pub damaged : read ≡ Err number
  pub inside : number < length bodies
  pub at : offset ≡ offset_in magic file bodies number

-- the records are whole, and this offset is that of the first that may not follow those before it, or of a block that names such a one
pub record IsDamagedLog (file : List ℕ) (offset : ℕ) : Type 0 where
  pub bodies : List (List ℕ)
  pub records : Records magic file bodies
  pub bad : IsDamageBy file bodies (table_in block_size bodies) offset

-- a file of another form, or one with bytes that are no record, or a record that may not follow, at this offset
abbrev pub IsDamagedFile : List ℕ → ℕ → Type 0
IsDamagedFile file offset = IsDamagedAt magic file offset ⊎ IsDamagedLog file offset

-- why a record is not read
abbrev pub TakeRefused : {D : Type 0} → DiskModel D → (before after : D) → ServerOpenError → Type 0
TakeRefused m before after errors.Disk = Rose (m.faults before) (m.faults after)
TakeRefused m before after (errors.Damaged offset) = Unit {0}
TakeRefused m before after errors.Memory = Unit {0}

-- why a server is not opened
abbrev pub ServerOpenRefused : {D : Type 0} → DiskModel D → (before after : D) → ServerOpenError → Type 0
ServerOpenRefused m before after errors.Disk = Rose (m.faults before) (m.faults after)
ServerOpenRefused m before after (errors.Damaged offset) = Tells m before → IsDamagedFile (m.seen before) offset
ServerOpenRefused m before after errors.Memory = Unit {0}

-- it is never damage if the file's records stand for a log
abbrev pub NeverOnLog : List ℕ → ServerOpenError → Type 0
NeverOnLog file e = (log : Log) → HoldsLog log file → IfDamaged e (λ offset. ⊥)

-- ---- one source

-- whatever the server knew, it then knows what this source tells, too
abbrev pub TakesSource : {D : Type 0} → DiskModel D → (old new : Server) → (reader reader_now : Reader) → D → Source → Type 0
TakesSource m old new reader reader_now disk source =
    OnTable m old reader disk (λ bodies table. IsTaken new reader_now bodies (taken block_size bodies table source))

-- whatever the server knew, damage that is reported is that of this source
abbrev pub IsBadSource : {D : Type 0} → DiskModel D → Server → Reader → D → Source → ServerOpenError → Type 0
IsBadSource m server reader disk source e =
    OnTable m server reader disk (λ bodies table. IfDamaged e (IsDamageBy (m.seen disk) bodies (taken block_size bodies table source)))

-- damage that is reported is at the record with this number
abbrev pub IsDamageOf : {D : Type 0} → DiskModel D → Server → D → ℕ → ServerOpenError → Type 0
IsDamageOf m server disk n e = OnRecords m server.journal disk (λ form bodies. IfDamaged e (λ offset. offset ≡ offset_in form (m.seen disk) bodies n))

-- the version at a place of a block, if the block is whole and the version may come after these
abbrev pub named_next : List Accepted → List ℕ → ℕ → Option Entry
named_next versions block place =
    if is_block_body block_size block && is_next_entry versions (entry_at place block) then Some (entry_at place block) else None

-- ---- a server that was opened

-- The file had records that lead to a table, and the server knows what it tells. Whichever log they stand for, the server is on that log.
pub record IsOpenedOn {D : Type 0} (m : DiskModel D) (before after : D) (server : Server) : Type 0 where
  pub bodies : List (List ℕ)
  pub records : Records magic (m.seen before) bodies
  pub table : Table
  pub read : table_in block_size bodies ≡ Ok table
  pub knows : IsTabled server table
  pub journal : IsOpenOn m magic server.journal after (opened_records bodies table)
  pub now : (log : Log) → StandFor bodies log → IsServerOn m server after log

-- a file has the records of another one, and the block that an opening adds
pub record HasBlockMore (file c : List ℕ) : Type 0 where
  pub bodies : List (List ℕ)
  pub records : Records magic file bodies
  pub table : Table
  pub read : table_in block_size bodies ≡ Ok table
  pub more : Records magic c (opened_records bodies table)

-- what a crash leaves while a server is opened: an image that it could leave before, or the records that were read, or these and a block
abbrev pub IsOpening : {D : Type 0} → DiskModel D → D → List ℕ → Type 0
IsOpening m before c = IsImageThen m before magic c ⊎ HasBlockMore (m.seen before) c
