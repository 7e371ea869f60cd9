-- What is handed to the journal and the folder.
use Rattle.std.specs.Prelude.{◌≡◌, ◌<◌, ◌^◌, ◌++◌, ◌∷◌, [], ℕ, List, true, length, ◌+◌, Some}
use Rattle.std.specs.List.{AllByRecursion}
use Rattle.tw_world.specs.Disk.{DiskModel, Rose}
use Rattle.tw_world.specs.Folder.{Files, FolderModel, is_file_name}
use Rattle.tw_world.specs.Turns.{InTurns, crash_of}
use Rattle.tw_journal.specs.Journal.{IsOpenOn, AppendRefused}
use Rattle.tw_journal.specs.declared.journal.Journal.{Journal}
use Rattle.tw_journal.specs.declared.error.AppendError.TheVariants as appends
use Rattle.tw_journal.specs.declared.error.JournalError.{JournalError}
use Rattle.tw_journal.specs.declared.error.JournalError.TheVariants as errors
use Rattle.tw_world.specs.declared.folder.FolderError.{FolderError}
use Rattle.tw_world.specs.declared.folder.FolderError.TheVariants.{Failed, Memory as NoRoom}
use Rattle.timew_month.specs.Body.{FileChange}
use Rattle.timew_store.specs.History.{History, stepped}
use Rattle.timew_store.specs.Held.{magic, Bodies, Held, OpensToEither, IsAtRest, OnRecords, HasOld, AreApart, held_by}
use Rattle.timew_month.specs.Files.{replaced}
use Rattle.timew_month.specs.declared.months.NewFile.{NewFile}
use Rattle.timew_store.specs.declared.error.StoreError.{StoreError}
use Rattle.timew_store.specs.declared.error.StoreError.TheVariants.{Folder, Journal as OfJournal, Memory}

-- the error that a fault of the folder becomes
abbrev pub error_of : FolderError → StoreError
error_of Failed = Folder
error_of NoRoom = Memory

abbrev pub AreFileNames : List NewFile → Type 0
AreFileNames files = AllByRecursion (λ f. is_file_name f.name ≡ true) files

-- the body holds a step of these changes, which the folder and the journal are ready for
module _ {F D : Type 0} (m : FolderModel F) (n : DiskModel D) where
  pub record IsReadyFor (j : Journal) (f : F) (d : D) (bodies : Bodies) (before after : History) (body : List ℕ) (changes : List FileChange) : Type 0 where
    pub rest : IsAtRest m n j f d bodies before
    pub step : length body < 2 ^ 32 → stepped before body ≡ Some after
    pub last : after.last ≡ changes
    pub old : HasOld (m.seen f) changes
    pub apart : AreApart changes

-- a folder and a journal that are ready for this body and these changes rest on its record afterwards
abbrev pub RestsOn : {F D : Type 0} → FolderModel F → DiskModel D → (j0 j1 : Journal) (f0 f1 : F) (d0 d1 : D) → List ℕ → List FileChange → Type 0
RestsOn m n j0 j1 f0 f1 d0 d1 body changes =
    (bodies : Bodies) (before after : History) → IsReadyFor m n j0 f0 d0 bodies before after body changes → IsAtRest m n j1 f1 d1 (bodies ++ body ∷ []) after

-- the state with these files, and the changes that this history can take back
abbrev pub held_with : Files → History → Held
held_with files history = record { files = files; undoable = history.undoable }

-- a crash while the record and then the files are written leaves the state before, or the one after
abbrev pub LeavesWritten : {F D : Type 0} → FolderModel F → DiskModel D → Journal → (f0 f1 : F) (d0 d1 : D) → List ℕ → List FileChange → Type 0
LeavesWritten m n j f0 f1 d0 d1 body changes = (bodies : Bodies) (before after : History) → IsReadyFor m n j f0 d0 bodies before after body changes
    → InTurns m (crash_of n) (OpensToEither (held_by m f0 before) (held_with (replaced (m.seen f0) changes) after)) f0 d0 f1 d1

-- the journal is open on one record more, whose body this is
abbrev pub HasRecordMore : {D : Type 0} → DiskModel D → (old new : Journal) (before after : D) → List ℕ → Type 0
HasRecordMore n old new before after body = OnRecords n old before (λ bodies. IsOpenOn n magic new after (bodies ++ body ∷ []))

-- why the journal refuses a record of so many bytes
abbrev pub RecordRefused : {D : Type 0} → DiskModel D → (old new : Journal) (before after : D) (size : ℕ) → JournalError → Type 0
RecordRefused n old new before after size errors.Disk = AppendRefused n old new before after size appends.Disk
RecordRefused n old new before after size errors.Closed = AppendRefused n old new before after size appends.Closed
RecordRefused n old new before after size (errors.TooLong bytes) = AppendRefused n old new before after size (appends.TooLong bytes)
RecordRefused n old new before after size (errors.Damaged offset) = ⊥
RecordRefused n old new before after size errors.Memory = ⊥

-- why a change is not written: if the journal refuses, the folder was not used
abbrev pub WriteRefused : {F D : Type 0} → FolderModel F → DiskModel D → (old new : Journal) (f0 f1 : F) (d0 d1 : D) (body : List ℕ) → StoreError → Type 0
WriteRefused m n old new f0 f1 d0 d1 body (OfJournal e) = RecordRefused n old new d0 d1 (length body + 5) e × (f1 ≡ f0)
WriteRefused m n old new f0 f1 d0 d1 body Folder = Rose (m.faults f0) (m.faults f1) × HasRecordMore n old new d0 d1 body
WriteRefused m n old new f0 f1 d0 d1 body Memory = ⊥
