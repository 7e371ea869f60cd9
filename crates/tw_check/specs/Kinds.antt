-- What a journal is of, what it opens to, and its damage.
use Rattle.std.specs.Prelude.{◌≡◌, ℕ, List, [], ◌∷◌, length, take, drop, nat_lt, Option, Some, None, Ok, unwrap_or, codes, if◌then◌else◌}
use Rattle.tw_time.specs.Tables.{look_up}
use Rattle.tw_journal.specs.Form.{Records}
use Rattle.tw_journal.specs.Open.{IsDamagedAt}
use Rattle.tw_state.specs.State.{State}
use Rattle.tw_replica.specs.Replica as replica
use Rattle.tw_records.specs.Bodies.{block_size}
use Rattle.tw_records.specs.Table.{Table, table_in}
use Rattle.tw_server.specs.Server as server
use Rattle.tw_server.specs.Opening.{IsDamagedFile}
use Rattle.tw_check.specs.declared.kind.Kind.{Kind}
use Rattle.tw_check.specs.declared.kind.Kind.TheVariants.{Tasks, Hours, History}

-- the magic of each kind but that of tasks
abbrev pub kinds : List (List ℕ × Kind)
kinds = (codes "TIMEWJ01", Hours) ∷ (codes "TWSERV01", History) ∷ []

-- what the magic of a file names, and tasks if it names nothing else
abbrev pub kind_of : List ℕ → Kind
kind_of file = if nat_lt (length file) 13 then Tasks else unwrap_or (look_up (take 8 (drop 5 file)) kinds) Tasks

abbrev pub magic_of : Kind → List ℕ
magic_of Tasks = replica.magic
magic_of Hours = codes "TIMEWJ01"
magic_of History = server.magic

-- a file of a kind opens: tasks to a state, hours to records, a history to a table of versions and snapshots
abbrev pub Opens : Kind → List ℕ → Type 0
Opens Tasks file = (state : State) × replica.OpensTo file state
Opens Hours file = (bodies : List (List ℕ)) × Records (magic_of Hours) file bodies
Opens History file = (bodies : List (List ℕ)) × Records (magic_of History) file bodies × (table : Table) × (table_in block_size bodies ≡ Ok table)

-- at this offset a file of a kind is damaged
abbrev pub IsBadIn : Kind → List ℕ → ℕ → Type 0
IsBadIn Tasks file offset = replica.IsBadAt file offset
IsBadIn Hours file offset = IsDamagedAt (magic_of Hours) file offset
IsBadIn History file offset = IsDamagedFile file offset

-- the file opens, or it is damaged at this offset
abbrev pub IsDamage : Kind → List ℕ → Option ℕ → Type 0
IsDamage kind file None = Opens kind file
IsDamage kind file (Some offset) = IsBadIn kind file offset

-- a file has so many records
abbrev pub HasCount : Kind → List ℕ → ℕ → Type 0
HasCount kind file count = (bodies : List (List ℕ)) × Records (magic_of kind) file bodies × (count ≡ length bodies)
