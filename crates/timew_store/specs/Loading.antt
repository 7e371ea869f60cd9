-- What loading a store does to the folder and the journal.
use Rattle.std.specs.Prelude.{◌≡◌, ◌⊎◌, ◌<◌, ◌≤◌, ℕ, true, List, [], ◌∷◌, ◌++◌, length, take, slice_index_or, Option, Some, None}
use Rattle.tw_world.specs.Disk.{DiskModel, Rose}
use Rattle.tw_world.specs.Disk as disk
use Rattle.tw_world.specs.Crash.{IsStable, Tells, FaultsRise, LeavesOnly}
use Rattle.tw_world.specs.Folder.{Files, FolderModel}
use Rattle.tw_world.specs.Turns.{InTurns, crash_of}
use Rattle.tw_journal.specs.Form.{offset_in}
use Rattle.tw_journal.specs.Open.{Records, SameRecords, IsDamagedAt}
use Rattle.tw_journal.specs.Journal.{IsOpenOn}
use Rattle.tw_journal.specs.declared.error.ReadError.{ReadError}
use Rattle.tw_journal.specs.declared.error.ReadError.TheVariants as reads
use Rattle.tw_journal.specs.declared.error.JournalError.{JournalError}
use Rattle.tw_journal.specs.declared.error.JournalError.TheVariants.{Disk, Closed, Damaged, TooLong, Memory as NoMemory}
use Rattle.tw_journal.specs.declared.journal.Journal.{Journal}
use Rattle.timew_month.specs.Body.{FileChange, Step, step_of}
use Rattle.timew_month.specs.Body.Step.{Change, Undo}
use Rattle.timew_store.specs.History.{History, Stands}
use Rattle.timew_store.specs.declared.error.StoreError.{StoreError}
use Rattle.timew_store.specs.declared.error.StoreError.TheVariants.{Folder, Journal as OfJournal, Memory}
use Rattle.timew_store.specs.Held.{magic, Bodies, Held, OpensTo, OnStable, OnRecords, IsAtRest, finished_file, finished}

-- the first so many of the files are finished
abbrev pub IsFinishedTo : List FileChange → Files → Files → Type 0
IsFinishedTo changes before files = (j : ℕ) × (j ≤ length changes) × (files ≡ finished before (take j changes))

-- what finishing knows from file to file
pub record Finishing {F : Type 0} (m : FolderModel F) (changes : List FileChange) (first now : F) (i : ℕ) : Type 0 where
  pub faults : FaultsRise m first now
  pub seen : Tells m first → m.seen now ≡ finished (m.seen first) (take i changes)
  pub stable : Tells m first → IsStable m first → IsStable m now
  pub moments : Tells m first → IsStable m first → LeavesOnly m first now (IsFinishedTo changes (m.seen first))

-- a file of a change is finished, or nothing is done
abbrev pub IsFinishedOrNot : Files → FileChange → Files → Type 0
IsFinishedOrNot before f files = (files ≡ before) ⊎ (files ≡ finished_file before f)

-- ---- the last change

abbrev pub files_in : Step → List FileChange
files_in (Change files) = files
files_in (Undo files) = files

abbrev pub files_or : Option Step → Option (List FileChange)
files_or None = None
files_or (Some step) = Some (files_in step)

-- what the last record does to the files, if it is a record of a store; before the first one nothing was done
abbrev pub last_of : List (List ℕ) → Option (List FileChange)
last_of [] = Some []
last_of (body ∷ []) = files_or (step_of body)
last_of (body ∷ next ∷ bodies) = last_of (next ∷ bodies)

-- some of the files that the last record of a journal changes are finished, or all, whatever its records lead to
pub record IsLastFinished (journal : List ℕ) (before after : Files) : Type 0 where
  pub bodies : Bodies
  pub records : Records magic journal bodies
  pub last : List FileChange
  pub last_is : last_of bodies ≡ Some last
  pub partly : IsFinishedTo last before after

-- the files are as they were, or those of the journal's last record are finished, or some of them
abbrev pub FilesStay : (journal : List ℕ) (before after : Files) → Type 0
FilesStay journal before after = (after ≡ before) ⊎ IsLastFinished journal before after

-- The folder and the journal open to what the folder opened to with something that a crash could leave of the journal before.
pub record OpensAlike {F D : Type 0} (m : FolderModel F) (n : DiskModel D) (folder : F) (disk : D) (files : Files) (journal : List ℕ) : Type 0 where
  pub before : List ℕ
  pub left : n.leaves disk before
  pub alike : (held : Held) → OpensTo (m.seen folder) before held → OpensTo files journal held
  -- also where they open to nothing
  pub files_stay : FilesStay before (m.seen folder) files
  pub journal_stays : (journal ≡ before) ⊎ SameRecords magic before journal

-- a crash of a loading leaves a folder and a journal that open to what they opened to
abbrev pub LeavesAlike : {F D : Type 0} → FolderModel F → DiskModel D → (f0 f1 : F) (d0 d1 : D) → Type 0
LeavesAlike m n f0 f1 d0 d1 = OnStable m n f0 d0 (InTurns m (crash_of n) (OpensAlike m n f0 d0) f0 d0 f1 d1)

-- the records of a file are where they were in the one before
abbrev pub StandAsBefore : (before after : List ℕ) → List (List ℕ) → Type 0
StandAsBefore before after bodies = (k : ℕ) → k < length bodies → offset_in magic after bodies k ≡ offset_in magic before bodies k

-- The journal was opened and the change of its last record is finished.
pub record IsLoaded {F D : Type 0} (m : FolderModel F) (n : DiskModel D) (f0 f1 : F) (d0 d1 : D) (journal : Journal) : Type 0 where
  pub bodies : List (List ℕ)
  pub records : Records magic (n.seen d0) bodies
  pub offsets : StandAsBefore (n.seen d0) (n.seen d1) bodies
  pub open_on : IsOpenOn n magic journal d1 bodies
  pub last : List FileChange
  pub last_is : last_of bodies ≡ Some last
  -- whatever the records lead to
  pub finished_now : Tells m f0 → m.seen f1 ≡ finished (m.seen f0) last
  pub rest : Tells m f0 → IsStable m f0 → (history : History) → Stands bodies history → IsAtRest m n journal f1 d1 bodies history

-- a journal is so loaded, if the disk tells what it holds
abbrev pub Loads : {F D : Type 0} → FolderModel F → DiskModel D → (f0 f1 : F) (d0 d1 : D) → Journal → Type 0
Loads m n f0 f1 d0 d1 journal = disk.Tells n d0 → IsLoaded m n f0 f1 d0 d1 journal

-- why month files are not read
abbrev pub FilesRefused : {F : Type 0} → FolderModel F → (old new : F) → StoreError → Type 0
FilesRefused m old new Folder = Rose (m.faults old) (m.faults new)
FilesRefused m old new (OfJournal e) = ⊥
FilesRefused m old new Memory = Unit {0}

-- of a file with these bodies the one with this number is that of no step, and its record is at this offset
abbrev pub IsNoStep : List ℕ → List (List ℕ) → ℕ → ℕ → Type 0
IsNoStep file bodies k offset = (step_of (slice_index_or bodies k []) ≡ None) × (offset ≡ offset_in magic file bodies k)

-- why the record with this number is not read: as damaged only if it holds no step
abbrev pub StepRefused : {D : Type 0} → DiskModel D → (before after : D) → Journal → ℕ → ReadError → Type 0
StepRefused n before after journal k reads.Disk = Rose (n.faults before) (n.faults after)
StepRefused n before after journal k reads.Memory = Unit {0}
StepRefused n before after journal k (reads.Damaged at) = disk.Tells n before → OnRecords n journal before (λ bodies. IsNoStep (n.seen before) bodies k at)
StepRefused n before after journal k reads.Closed = journal.closed ≡ true

-- the last of a file's bodies is that of no step, and its record is at this offset
pub record EndsInNoStep (file : List ℕ) (bodies : List (List ℕ)) (offset : ℕ) : Type 0 where
  pub front : List (List ℕ)
  pub body : List ℕ
  pub split : bodies ≡ front ++ body ∷ []
  pub none : step_of body ≡ None
  pub offset_is : offset ≡ offset_in magic file bodies (length front)

-- why the last record is not read: as damaged only if it holds no step
abbrev pub LastRefused : {D : Type 0} → DiskModel D → (before after : D) → Journal → ReadError → Type 0
LastRefused n before after journal reads.Disk = Rose (n.faults before) (n.faults after)
LastRefused n before after journal reads.Memory = Unit {0}
LastRefused n before after journal (reads.Damaged at) = disk.Tells n before → OnRecords n journal before (λ bodies. EndsInNoStep (n.seen before) bodies at)
LastRefused n before after journal reads.Closed = journal.closed ≡ true

-- the file has records, the last of which holds no step
pub record HoldsNoStep (file : List ℕ) (offset : ℕ) : Type 0 where
  pub bodies : List (List ℕ)
  pub records : Records magic file bodies
  pub end : EndsInNoStep file bodies offset

-- why a journal is not opened with its last step
abbrev pub OpeningRefused : {D : Type 0} → DiskModel D → (before after : D) → JournalError → Type 0
OpeningRefused n before after Disk = Rose (n.faults before) (n.faults after)
OpeningRefused n before after NoMemory = Unit {0}
OpeningRefused n before after (Damaged offset) = disk.Tells n before → IsDamagedAt magic (n.seen before) offset ⊎ HoldsNoStep (n.seen before) offset
OpeningRefused n before after (TooLong bytes) = ⊥
OpeningRefused n before after Closed = ⊥

-- why the last change is not finished; if the journal refuses, the folder was not used
abbrev pub FinishRefused : {F D : Type 0} → FolderModel F → DiskModel D → (f0 f1 : F) (d0 d1 : D) → StoreError → Type 0
FinishRefused m n f0 f1 d0 d1 Folder = Rose (m.faults f0) (m.faults f1)
FinishRefused m n f0 f1 d0 d1 (OfJournal e) = (f1 ≡ f0) × OpeningRefused n d0 d1 e
FinishRefused m n f0 f1 d0 d1 Memory = Unit {0}

-- a refusal of the journal that has nothing to do with its bytes
abbrev pub IsJournalFault : JournalError → Type 0
IsJournalFault Disk = Unit {0}
IsJournalFault NoMemory = Unit {0}
IsJournalFault (Damaged offset) = ⊥
IsJournalFault (TooLong bytes) = ⊥
IsJournalFault Closed = ⊥

-- a refusal that has nothing to do with the bytes of the journal
abbrev pub IsStoreFault : StoreError → Type 0
IsStoreFault Folder = Unit {0}
IsStoreFault (OfJournal e) = IsJournalFault e
IsStoreFault Memory = Unit {0}

-- ---- what a refusal leaves

-- a refusal that is no fault of the disk
abbrev pub SparesDisk : JournalError → Type 0
SparesDisk Disk = ⊥
SparesDisk e = Unit {0}

abbrev pub StoreSparesDisk : StoreError → Type 0
StoreSparesDisk (OfJournal e) = SparesDisk e
StoreSparesDisk e = Unit {0}

-- what the folder and the journal opened to they still open to
abbrev pub StillOpen : {F D : Type 0} → FolderModel F → DiskModel D → (f0 f1 : F) (d0 d1 : D) → Type 0
StillOpen m n f0 f1 d0 d1 = OnStable m n f0 d0 ((held : Held) → OpensTo (m.seen f0) (n.seen d0) held → OpensTo (m.seen f1) (n.seen d1) held)

-- a file with the same records at the same offsets
pub record KeepsRecords (before after : List ℕ) : Type 0 where
  pub bodies : Bodies
  pub had : Records magic before bodies
  pub has : Records magic after bodies
  pub offsets : StandAsBefore before after bodies

-- What a refusal leaves that is no fault of the disk.
pub record Stays {F D : Type 0} (m : FolderModel F) (n : DiskModel D) (f0 f1 : F) (d0 d1 : D) : Type 0 where
  pub opens : StillOpen m n f0 f1 d0 d1
  -- also where they open to nothing: a journal without records is read as before, and the folder is as it was
  pub files : Tells m f0 → disk.Tells n d0 → FilesStay (n.seen d0) (m.seen f0) (m.seen f1)
  pub journal : disk.Tells n d0 → (n.seen d1 ≡ n.seen d0) ⊎ KeepsRecords (n.seen d0) (n.seen d1)
