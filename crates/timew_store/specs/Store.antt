-- A store: month files with their intervals, over a journal.
use Rattle.std.specs.Prelude.{◌≡◌, ℕ, ◌+◌, ◌^◌, Bool, List, [], ◌∷◌, ◌++◌, length, Some, Ok, Err}
use Rattle.tw_world.specs.Disk.{DiskModel, Rose}
use Rattle.tw_world.specs.Disk as disk
use Rattle.tw_world.specs.Crash.{Tells, IsStable}
use Rattle.tw_world.specs.Folder.{Files, FolderModel}
use Rattle.tw_world.specs.Turns.{InTurns, crash_of}
use Rattle.tw_journal.specs.Record.{rows as row_of_records}
use Rattle.tw_journal.specs.Open.{Records}
use Rattle.tw_journal.specs.Journal.{is_closed, journal_end, IsOpenOn}
use Rattle.tw_journal.specs.declared.journal.Journal.{Journal}
use Rattle.tw_journal.specs.declared.error.JournalError.{JournalError}
use Rattle.timew_month.specs.Body.{FileChange, body_of}
use Rattle.timew_month.specs.Body.Step.{Change}
use Rattle.timew_store.specs.History.{History, Stands}
use Rattle.timew_store.specs.Held.{magic, Bodies, Held, OpensTo, OpensToEither, OnStable, IsAtRest, finished, held_by}
use Rattle.timew_month.specs.Changes.{changes_to, changed_files}
use Rattle.timew_month.specs.Gathered.{files_of, months_in}
use Rattle.timew_store.specs.Loading.{OpeningRefused, IsJournalFault, StandAsBefore, SparesDisk, last_of}
use Rattle.timew_store.specs.Growth.{JournalGrowsBy}
use Rattle.timew_month.specs.Records.{changes_of}
use Rattle.timew_store.specs.Writing.{RestsOn, LeavesWritten, HasRecordMore, RecordRefused, WriteRefused}
use Rattle.timew_month.specs.Rows.{rows_of}
use Rattle.timew_interval.specs.declared.interval.Interval.{Interval}
use Rattle.timew_interval.specs.declared.edit.Edit.{Edit}
use Rattle.timew_month.specs.declared.months.Months.{Months}
use Rattle.timew_store.specs.declared.write.prepared.Prepared.{Prepared}
use Rattle.timew_interval.specs.Edit.{edited}
use Rattle.timew_store.specs.declared.store.Store.{Store}
use Rattle.timew_month.specs.declared.read.rows.RowsError.{RowsError}
use Rattle.timew_month.specs.declared.read.rows.RowsError.TheVariants as read
use Rattle.timew_store.specs.declared.error.StoreError.{StoreError}
use Rattle.timew_store.specs.declared.error.StoreError.TheVariants as store
use Rattle.timew_store.specs.declared.error.LoadError.{LoadError}
use Rattle.timew_store.specs.declared.error.LoadError.TheVariants.{Folder, Journal as OfJournal, BadLine, Memory}

-- these are the month files of a folder, and their intervals
pub record HoldMonths (files : Files) (months : Months) : Type 0 where
  pub files_are : files_of months.files.items ≡ months_in files
  pub rows_are : rows_of files ≡ Ok months.rows

-- this is so of each folder of which these are the months
abbrev pub OnFolders : Months → (Files → Type 0) → Type 0
OnFolders months P = (files : Files) → HoldMonths files months → P files

-- the store is open on a folder and a journal, which rest
pub record IsStoreOn {F D : Type 0} (m : FolderModel F) (n : DiskModel D) (s : Store) (f : F) (d : D) (bodies : Bodies) (history : History) : Type 0 where
  pub rest : IsAtRest m n s.journal f d bodies history
  pub months : HoldMonths (m.seen f) s.months

-- this is so of the records and the history of an open store
abbrev pub OnStore : {F D : Type 0} → FolderModel F → DiskModel D → Store → F → D → (Bodies → History → Type 0) → Type 0
OnStore m n store folder disk P = (bodies : Bodies) (history : History) → IsStoreOn m n store folder disk bodies history → P bodies history

-- its intervals
abbrev pub intervals_of : Store → List Interval
intervals_of store = store.months.rows

-- its intervals after an edit
abbrev pub rows_after : Edit → Store → List Interval
rows_after edit store = edited edit (intervals_of store)

-- whether a fault of the journal has closed it
abbrev pub is_store_closed : Store → Bool
is_store_closed store = is_closed store.journal

-- where the records of its journal end
abbrev pub store_end : Store → ℕ
store_end store = journal_end store.journal

-- ---- loading

-- A store was loaded: it is open on the records of the journal, and the change of the last one is finished.
pub record IsLoadedStore {F D : Type 0} (m : FolderModel F) (n : DiskModel D) (f0 f1 : F) (d0 d1 : D) (store : Store) : Type 0 where
  pub bodies : List (List ℕ)
  pub records : Records magic (n.seen d0) bodies
  pub offsets : StandAsBefore (n.seen d0) (n.seen d1) bodies
  pub open_on : IsOpenOn n magic store.journal d1 bodies
  pub last : List FileChange
  pub last_is : last_of bodies ≡ Some last
  -- whatever the records lead to
  pub finished_now : Tells m f0 → m.seen f1 ≡ finished (m.seen f0) last
  pub months : Tells m f0 → HoldMonths (m.seen f1) store.months
  pub on : Tells m f0 → IsStable m f0 → (history : History) → Stands bodies history → IsStoreOn m n store f1 d1 bodies history

-- a store is so loaded, if the disk tells what it holds
abbrev pub LoadsStore : {F D : Type 0} → FolderModel F → DiskModel D → (f0 f1 : F) (d0 d1 : D) → Store → Type 0
LoadsStore m n f0 f1 d0 d1 store = disk.Tells n d0 → IsLoadedStore m n f0 f1 d0 d1 store

abbrev pub not_loaded : StoreError → LoadError
not_loaded store.Folder = Folder
not_loaded (store.Journal e) = OfJournal e
not_loaded store.Memory = Memory

abbrev pub not_read : RowsError → LoadError
not_read (read.BadLine file line) = BadLine file line
not_read read.Memory = Memory

-- why the month files of a folder hold no intervals
abbrev pub MonthsRefused : {F : Type 0} → FolderModel F → (old new : F) → LoadError → Type 0
MonthsRefused m old new Folder = Rose (m.faults old) (m.faults new)
MonthsRefused m old new (OfJournal e) = ⊥
MonthsRefused m old new (BadLine file line) = Tells m old → rows_of (m.seen old) ≡ Err (file, line)
MonthsRefused m old new Memory = Unit {0}

-- folder and journal rest, on the records of before, and hold this
pub record RestHolding {F D : Type 0} (m : FolderModel F) (n : DiskModel D) (before : List ℕ) (folder : F) (disk : D) (held : Held) : Type 0 where
  pub bodies : List (List ℕ)
  pub had : Records magic before bodies
  pub journal : Journal
  pub history : History
  pub rest : IsAtRest m n journal folder disk bodies history
  pub holds : held_by m folder history ≡ held

-- this is the first bad line of the files that a folder and a journal open to, and these rest now
abbrev pub IsBadLine : {F D : Type 0} → FolderModel F → DiskModel D → (f0 f1 : F) (d0 d1 : D) → List ℕ × ℕ → Type 0
IsBadLine m n f0 f1 d0 d1 line = (held : Held) → OpensTo (m.seen f0) (n.seen d0) held → (rows_of held.files ≡ Err line) × RestHolding m n (n.seen d0) f1 d1 held

-- whatever the records of the journal lead to, this is the first bad line of the files once the change of the last one is finished
pub record HasBadLine (files : Files) (journal : List ℕ) (line : List ℕ × ℕ) : Type 0 where
  pub bodies : Bodies
  pub records : Records magic journal bodies
  pub last : List FileChange
  pub last_is : last_of bodies ≡ Some last
  pub bad : rows_of (finished files last) ≡ Err line

-- a line is so bad, if the folder and the disk tell what they hold
abbrev pub FindsBadLine : {F D : Type 0} → FolderModel F → DiskModel D → F → D → List ℕ × ℕ → Type 0
FindsBadLine m n folder journal line = Tells m folder → disk.Tells n journal → HasBadLine (m.seen folder) (n.seen journal) line

-- why a store is not loaded; if the journal refuses, the folder was not used
abbrev pub LoadRefused : {F D : Type 0} → FolderModel F → DiskModel D → (f0 f1 : F) (d0 d1 : D) → LoadError → Type 0
LoadRefused m n f0 f1 d0 d1 Folder = Rose (m.faults f0) (m.faults f1)
LoadRefused m n f0 f1 d0 d1 (OfJournal e) = (f1 ≡ f0) × OpeningRefused n d0 d1 e
LoadRefused m n f0 f1 d0 d1 (BadLine file line) = FindsBadLine m n f0 d0 (file, line) × OnStable m n f0 d0 (IsBadLine m n f0 f1 d0 d1 (file, line))
LoadRefused m n f0 f1 d0 d1 Memory = Unit {0}

-- a refusal that has nothing to do with the bytes of the journal
abbrev pub IsLoadFault : LoadError → Type 0
IsLoadFault Folder = Unit {0}
IsLoadFault (OfJournal e) = IsJournalFault e
IsLoadFault (BadLine file line) = Unit {0}
IsLoadFault Memory = Unit {0}

-- a refusal that is no fault of the disk
abbrev pub LoadSparesDisk : LoadError → Type 0
LoadSparesDisk (OfJournal e) = SparesDisk e
LoadSparesDisk e = Unit {0}

-- ---- changing

-- the changes that an undo can take back, with this one if it changes something
abbrev pub with_any : List FileChange → List (List FileChange) → List (List FileChange)
with_any [] undoable = undoable
with_any (f ∷ files) undoable = (f ∷ files) ∷ undoable

-- the state after a change to these intervals
abbrev pub changed : Held → List Interval → Held
changed held rows = record { files = changed_files held.files rows; undoable = with_any (changes_to held.files rows) held.undoable }

-- the bodies that a change adds: one, or none if nothing changes
abbrev pub change_bodies : List FileChange → List (List ℕ)
change_bodies [] = []
change_bodies (f ∷ files) = body_of (Change (f ∷ files)) ∷ []

-- the store is open on these records, and holds this
pub record IsMovedTo {F D : Type 0} (m : FolderModel F) (n : DiskModel D) (s : Store) (f : F) (d : D) (bodies : Bodies) (held : Held) : Type 0 where
  pub history : History
  pub on : IsStoreOn m n s f d bodies history
  pub holds : held_by m f history ≡ held

-- from these records and this history the store has moved to those after a change to these intervals
abbrev pub IsMovedBy : {F D : Type 0} → FolderModel F → DiskModel D → Store → (f0 f1 : F) (d1 : D) → List Interval → Bodies → History → Type 0
IsMovedBy m n s f0 f1 d1 rows bodies h = IsMovedTo m n s f1 d1 (bodies ++ change_bodies (changes_to (m.seen f0) rows)) (changed (held_by m f0 h) rows)

-- a change of an open store has led to these intervals
abbrev pub IsChangedTo : {F D : Type 0} → FolderModel F → DiskModel D → (old new : Store) (f0 f1 : F) (d0 d1 : D) → List Interval → Type 0
IsChangedTo m n old new f0 f1 d0 d1 rows = OnStore m n old f0 d0 (IsMovedBy m n new f0 f1 d1 rows)

-- files and a journal open to a state, or to the one after a change to these intervals
abbrev pub OpensToChanged : Held → List Interval → Files → List ℕ → Type 0
OpensToChanged held rows = OpensToEither held (changed held rows)

-- a crash of such a change leaves one of the two
abbrev pub LeavesChange : {F D : Type 0} → FolderModel F → DiskModel D → Store → (f0 f1 : F) (d0 d1 : D) → List Interval → Type 0
LeavesChange m n s f0 f1 d0 d1 rows = OnStore m n s f0 d0 (λ bodies h. InTurns m (crash_of n) (OpensToChanged (held_by m f0 h) rows) f0 d0 f1 d1)

-- No file that a crash of a change to these intervals leaves is longer by more than 2^30 bytes, nor, if these are the months of a
-- folder, by more than the record of the change.
abbrev pub ChangeGrows : {D : Type 0} → DiskModel D → Store → (d0 d1 : D) → List Interval → Type 0
ChangeGrows n store d0 d1 next =
    JournalGrowsBy n store.journal d0 d1 (2 ^ 30)
    × OnFolders store.months (λ files. JournalGrowsBy n store.journal d0 d1 (length (row_of_records (change_bodies (changes_to files next)))))

-- the journal refused this body, and the folder was not used
pub record IsRefusedBody {D : Type 0} (n : DiskModel D) (old new : Store) (d0 d1 : D) (body : List ℕ) (e : JournalError) : Type 0 where
  pub refused : RecordRefused n old.journal new.journal d0 d1 (length body + 5) e
  pub months : new.months ≡ old.months

-- the record of this body is written
abbrev pub StandsMore : {D : Type 0} → DiskModel D → (old new : Store) (d0 d1 : D) (body : List ℕ) → Type 0
StandsMore n old new d0 d1 body = HasRecordMore n old.journal new.journal d0 d1 body

-- a change of an open store to these intervals writes this body
abbrev pub IsChangeBody : {F D : Type 0} → FolderModel F → DiskModel D → Store → F → D → List Interval → List ℕ → Type 0
IsChangeBody m n store folder disk rows body = OnStore m n store folder disk (λ bodies history. change_bodies (changes_to (m.seen folder) rows) ≡ body ∷ [])

-- the record of the change is written
abbrev pub HasChangeRecord : {F D : Type 0} → FolderModel F → DiskModel D → (old new : Store) (f0 : F) (d0 d1 : D) → List Interval → Type 0
HasChangeRecord m n old new f0 d0 d1 rows = (body : List ℕ) × IsChangeBody m n old f0 d0 rows body × StandsMore n old new d0 d1 body

-- the journal refused the body of the change
abbrev pub BodyRefused : {F D : Type 0} → FolderModel F → DiskModel D → (old new : Store) (f0 : F) (d0 d1 : D) → List Interval → JournalError → Type 0
BodyRefused m n old new f0 d0 d1 rows e = (body : List ℕ) × IsChangeBody m n old f0 d0 rows body × IsRefusedBody n old new d0 d1 body e

-- ---- what was prepared

-- the store rests on the record of what was prepared
abbrev pub RestsOnPrepared : {F D : Type 0} → FolderModel F → DiskModel D → (old new : Store) (f0 f1 : F) (d0 d1 : D) → Prepared → Type 0
RestsOnPrepared m n old new f0 f1 d0 d1 p = RestsOn m n old.journal new.journal f0 f1 d0 d1 p.body.items (changes_of p.changes.items)

-- a crash while it is written leaves the state before, or the one after
abbrev pub LeavesPrepared : {F D : Type 0} → FolderModel F → DiskModel D → Store → (f0 f1 : F) (d0 d1 : D) → Prepared → Type 0
LeavesPrepared m n store f0 f1 d0 d1 p = LeavesWritten m n store.journal f0 f1 d0 d1 p.body.items (changes_of p.changes.items)

-- why it is not written
abbrev pub PreparedRefused : {F D : Type 0} → FolderModel F → DiskModel D → (old new : Store) (f0 f1 : F) (d0 d1 : D) → Prepared → StoreError → Type 0
PreparedRefused m n old new f0 f1 d0 d1 p e = WriteRefused m n old.journal new.journal f0 f1 d0 d1 p.body.items e

-- ---- why a change is refused

-- Why a change is not made. If the journal refuses, the folder is not used; if the folder fails, the record is written.
abbrev pub ChangeRefused : {F D : Type 0} → FolderModel F → DiskModel D → (old new : Store) (f0 f1 : F) (d0 d1 : D) → List Interval → StoreError → Type 0
ChangeRefused m n old new f0 f1 d0 d1 rows store.Folder = Rose (m.faults f0) (m.faults f1) × HasChangeRecord m n old new f0 d0 d1 rows
ChangeRefused m n old new f0 f1 d0 d1 rows (store.Journal e) = (f1 ≡ f0) × BodyRefused m n old new f0 d0 d1 rows e
ChangeRefused m n old new f0 f1 d0 d1 rows store.Memory = (new ≡ old) × (f1 ≡ f0) × (d1 ≡ d0)
