-- An undo, and why it is refused.
use Rattle.std.specs.Prelude.{◌≡◌, ◌⊎◌, true, false, ◌<◌, ◌≤◌, ◌+◌, ◌^◌, ℕ, List, [], ◌∷◌, ◌++◌, length, Some, None, Result, Ok, Err}
use Rattle.tw_world.specs.Disk.{DiskModel, Rose, Untouched}
use Rattle.tw_world.specs.Disk as disk
use Rattle.tw_world.specs.Folder.{Files, FolderModel}
use Rattle.tw_world.specs.Turns.{InTurns, crash_of}
use Rattle.tw_journal.specs.Record.{rows as row_of_records, IsLongerBy}
use Rattle.tw_journal.specs.declared.journal.Journal.{Journal}
use Rattle.tw_journal.specs.declared.error.ReadError.{ReadError}
use Rattle.tw_journal.specs.declared.error.ReadError.TheVariants as reads
use Rattle.tw_journal.specs.declared.error.JournalError.{JournalError}
use Rattle.tw_journal.specs.declared.error.JournalError.TheVariants as cause
use Rattle.timew_month.specs.Body.{FileChange, body_of}
use Rattle.timew_month.specs.Body.Step.{Undo}
use Rattle.timew_store.specs.History.{History, exchanged}
use Rattle.timew_store.specs.Held.{Bodies, Held, OpensTo, OpensToEither, OnRecords, OnHistory, held_by}
use Rattle.timew_month.specs.Files.{replaced}
use Rattle.timew_store.specs.Growth.{JournalGrowsBy}
use Rattle.timew_store.specs.Loading.{IsNoStep}
use Rattle.timew_month.specs.Rows.{rows_of}
use Rattle.timew_store.specs.Store.{OnFolders, OnStore, IsMovedTo, StandsMore, is_store_closed}
use Rattle.timew_month.specs.declared.months.Months.{Months}
use Rattle.timew_store.specs.Undo.{NoUndo, first_edited, undone_held}
use Rattle.timew_store.specs.Undo.NoUndo.{Nothing, EditedFile, Bad}
use Rattle.timew_month.specs.declared.read.rows.RowsError.{RowsError}
use Rattle.timew_month.specs.declared.read.rows.RowsError.TheVariants as read
use Rattle.timew_store.specs.declared.store.Store.{Store}
use Rattle.timew_store.specs.declared.error.StoreError.{StoreError}
use Rattle.timew_store.specs.declared.error.StoreError.TheVariants as store
use Rattle.timew_store.specs.declared.error.UndoError.{UndoError}
use Rattle.timew_store.specs.declared.error.UndoError.TheVariants.{Folder, Journal as OfJournal, BadLine, Edited, NothingToUndo, Memory}

abbrev pub not_written : StoreError → UndoError
not_written store.Folder = Folder
not_written (store.Journal e) = OfJournal e
not_written store.Memory = Memory

abbrev pub not_read_back : RowsError → UndoError
not_read_back (read.BadLine file line) = BadLine file line
not_read_back read.Memory = Memory

-- one of these bodies is that of no step, and its record is at this offset
abbrev pub HasNoStep : List ℕ → Bodies → ℕ → Type 0
HasNoStep file bodies offset = (k : ℕ) × (k < length bodies) × IsNoStep file bodies k offset

-- Why the change is not found: as damaged only at a record that holds no step.
abbrev pub WalkRefused : {D : Type 0} → DiskModel D → (before after : D) → Journal → ReadError → Type 0
WalkRefused n before after journal reads.Disk = Rose (n.faults before) (n.faults after)
WalkRefused n before after journal reads.Memory = Unit {0}
WalkRefused n before after journal (reads.Damaged offset) = disk.Tells n before → OnRecords n journal before (λ bodies. HasNoStep (n.seen before) bodies offset)
WalkRefused n before after journal reads.Closed = journal.closed ≡ true

-- no file of a change was edited, but this line is bad once the old bytes are put back
abbrev pub IsBadBack : List FileChange → List ℕ × ℕ → Files → Type 0
IsBadBack change line files = (first_edited files change ≡ None) × (rows_of (replaced files (exchanged change)) ≡ Err line)

-- why the old bytes of a change are not put back into these month files
abbrev pub BackRefused : Months → List FileChange → UndoError → Type 0
BackRefused months change Folder = ⊥
BackRefused months change (OfJournal e) = ⊥
BackRefused months change (BadLine file line) = OnFolders months (IsBadBack change (file, line))
BackRefused months change (Edited file) = OnFolders months (λ files. first_edited files change ≡ Some file)
BackRefused months change NothingToUndo = ⊥
BackRefused months change Memory = Unit {0}

-- ---- the call

-- the bodies that an undo adds
abbrev pub undo_bodies : List (List FileChange) → List (List ℕ)
undo_bodies [] = []
undo_bodies (change ∷ earlier) = body_of (Undo (exchanged change)) ∷ []

-- the last change was taken back
pub record IsTakenBack {F D : Type 0} (m : FolderModel F) (n : DiskModel D) (s : Store) (f0 f1 : F) (d1 : D) (bodies : Bodies) (h : History) : Type 0 where
  pub back : Held
  pub is : undone_held (held_by m f0 h) ≡ Ok back
  pub moved : IsMovedTo m n s f1 d1 (bodies ++ undo_bodies h.undoable) back

-- a crash leaves the state before, or the one to which an undo leads, if it leads to one
abbrev pub OpensToEitherOf : Held → Result Held NoUndo → Files → List ℕ → Type 0
OpensToEitherOf held (Ok back) files journal = OpensToEither held back files journal
OpensToEitherOf held (Err why) files journal = OpensTo files journal held

-- an undo of an open store has taken its last change back
abbrev pub IsUndone : {F D : Type 0} → FolderModel F → DiskModel D → (old new : Store) (f0 f1 : F) (d0 d1 : D) → Type 0
IsUndone m n old new f0 f1 d0 d1 = OnStore m n old f0 d0 (IsTakenBack m n new f0 f1 d1)

-- files and a journal open to a state, or to the one to which an undo leads from it
abbrev pub OpensToUndone : Held → Files → List ℕ → Type 0
OpensToUndone held = OpensToEitherOf held (undone_held held)

-- a crash of an undo of an open store leaves one of the two
abbrev pub LeavesUndo : {F D : Type 0} → FolderModel F → DiskModel D → Store → (f0 f1 : F) (d0 d1 : D) → Type 0
LeavesUndo m n s f0 f1 d0 d1 = OnStore m n s f0 d0 (λ bodies h. InTurns m (crash_of n) (OpensToUndone (held_by m f0 h)) f0 d0 f1 d1)

-- No file that a crash of an undo leaves is longer by more than 2^30 bytes, nor, if the records lead to a history, by more than the
-- record of the undo.
abbrev pub UndoGrows : {D : Type 0} → DiskModel D → Store → (d0 d1 : D) → Type 0
UndoGrows n store d0 d1 =
    JournalGrowsBy n store.journal d0 d1 (2 ^ 30)
    × OnHistory n store.journal d0 (λ history. disk.LeavesOnly n d0 d1 (IsLongerBy n d0 (length (row_of_records (undo_bodies history.undoable)))))

-- an open store has no undo for this reason
abbrev pub HasNoUndo : {F D : Type 0} → FolderModel F → DiskModel D → Store → F → D → NoUndo → Type 0
HasNoUndo m n store folder disk why = OnStore m n store folder disk (λ bodies history. undone_held (held_by m folder history) ≡ Err why)

-- nothing was written
abbrev pub NothingWritten : {F D : Type 0} → DiskModel D → (old new : Store) (f0 f1 : F) (d0 d1 : D) → Type 0
NothingWritten n old new f0 f1 d0 d1 = (new ≡ old) × (f1 ≡ f0) × Untouched n d0 d1

-- the body of an undo, of a store that is open
abbrev pub IsUndoBody : {F D : Type 0} → FolderModel F → DiskModel D → Store → F → D → List ℕ → Type 0
IsUndoBody m n store folder disk body = OnStore m n store folder disk (λ bodies history. undo_bodies history.undoable ≡ body ∷ [])

-- the record of the undo is written
abbrev pub HasUndoRecord : {F D : Type 0} → FolderModel F → DiskModel D → (old new : Store) (f0 : F) (d0 d1 : D) → Type 0
HasUndoRecord m n old new f0 d0 d1 = (body : List ℕ) × IsUndoBody m n old f0 d0 body × StandsMore n old new d0 d1 body

-- an undo leads back, and writes a record of so many bytes
pub record WritesBytes {F : Type 0} (m : FolderModel F) (folder : F) (history : History) (bytes : ℕ) : Type 0 where
  pub back : Held
  pub is : undone_held (held_by m folder history) ≡ Ok back
  pub body : List ℕ
  pub one : undo_bodies history.undoable ≡ body ∷ []
  pub size : bytes ≡ length body + 5

-- an undo of an open store writes a record of so many bytes
abbrev pub UndoWrites : {F D : Type 0} → FolderModel F → DiskModel D → Store → F → D → ℕ → Type 0
UndoWrites m n store folder disk bytes = OnStore m n store folder disk (λ bodies history. WritesBytes m folder history bytes)

-- the journal was only read
abbrev pub JournalRead : {D : Type 0} → DiskModel D → (old new : Store) (d0 d1 : D) → Type 0
JournalRead n old new d0 d1 = (new ≡ old) × Untouched n d0 d1

-- the record of the undo was not written well, which has closed the store
pub record UndoFailed {F D : Type 0} (m : FolderModel F) (n : DiskModel D) (old new : Store) (f0 : F) (d0 : D) : Type 0 where
  pub body : List ℕ
  pub is : IsUndoBody m n old f0 d0 body
  pub size : length body + 5 ≤ 2 ^ 30
  pub was_open : is_store_closed old ≡ false
  pub closed : is_store_closed new ≡ true

-- a record of the store holds no step, and is at this offset
abbrev pub IsDamagedIn : {D : Type 0} → DiskModel D → Store → D → (offset : ℕ) → Type 0
IsDamagedIn n store d0 offset = disk.Tells n d0 → OnRecords n store.journal d0 (λ bodies. HasNoStep (n.seen d0) bodies offset)

-- why the journal is not read, or refuses the body of an undo: a read leaves all as it was
abbrev pub UndoJournalRefused : {F D : Type 0} → FolderModel F → DiskModel D → (old new : Store) (f0 : F) (d0 d1 : D) → JournalError → Type 0
UndoJournalRefused m n old new f0 d0 d1 cause.Disk = Rose (n.faults d0) (n.faults d1) × (JournalRead n old new d0 d1 ⊎ UndoFailed m n old new f0 d0)
UndoJournalRefused m n old new f0 d0 d1 cause.Memory = JournalRead n old new d0 d1
UndoJournalRefused m n old new f0 d0 d1 (cause.Damaged offset) = JournalRead n old new d0 d1 × IsDamagedIn n old d0 offset
UndoJournalRefused m n old new f0 d0 d1 (cause.TooLong bytes) = (2 ^ 30 < bytes) × JournalRead n old new d0 d1 × UndoWrites m n old f0 d0 bytes
UndoJournalRefused m n old new f0 d0 d1 cause.Closed = JournalRead n old new d0 d1 × (is_store_closed old ≡ true)

-- Why a change is not taken back. If the journal refuses, the folder is not used; if the folder fails, the record is written.
abbrev pub UndoRefused : {F D : Type 0} → FolderModel F → DiskModel D → (old new : Store) (f0 f1 : F) (d0 d1 : D) → UndoError → Type 0
UndoRefused m n old new f0 f1 d0 d1 Folder = Rose (m.faults f0) (m.faults f1) × HasUndoRecord m n old new f0 d0 d1
UndoRefused m n old new f0 f1 d0 d1 (OfJournal e) = (f1 ≡ f0) × (new.months ≡ old.months) × UndoJournalRefused m n old new f0 d0 d1 e
UndoRefused m n old new f0 f1 d0 d1 (BadLine file line) = NothingWritten n old new f0 f1 d0 d1 × HasNoUndo m n old f0 d0 (Bad (file, line))
UndoRefused m n old new f0 f1 d0 d1 (Edited file) = NothingWritten n old new f0 f1 d0 d1 × HasNoUndo m n old f0 d0 (EditedFile file)
UndoRefused m n old new f0 f1 d0 d1 NothingToUndo = NothingWritten n old new f0 f1 d0 d1 × HasNoUndo m n old f0 d0 Nothing
UndoRefused m n old new f0 f1 d0 d1 Memory = NothingWritten n old new f0 f1 d0 d1
