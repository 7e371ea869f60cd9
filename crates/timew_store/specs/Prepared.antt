-- A change that is prepared and not yet written.
use Rattle.std.specs.Prelude.{◌≡◌, ◌≤◌, ◌<◌, ◌+◌, ◌^◌, ℕ, false, true, List, [], length, Ok}
use Rattle.std.specs.Vec.{vec_len, vec_capacity}
use Rattle.tw_world.specs.Disk.{DiskModel, Rose}
use Rattle.tw_world.specs.Folder.{FolderModel}
use Rattle.tw_journal.specs.Record.{rows as row_of_records}
use Rattle.tw_journal.specs.Journal.{journal_end}
use Rattle.tw_journal.specs.declared.journal.Journal.{Journal}
use Rattle.tw_journal.specs.declared.error.JournalError.TheVariants as cause
use Rattle.timew_month.specs.Body.{AreMonths, body_of}
use Rattle.timew_month.specs.Body.Step.{Change}
use Rattle.timew_month.specs.Changes.{changes_to}
use Rattle.timew_interval.specs.Edit.{edited, IsEditOf}
use Rattle.timew_month.specs.Files.{replaced}
use Rattle.timew_interval.specs.Interval.{AreRows}
use Rattle.timew_month.specs.Rows.{rows_of}
use Rattle.timew_store.specs.Store.{OnFolders, HoldMonths, IsChangedTo, IsChangeBody, ChangeRefused, change_bodies, intervals_of, is_store_closed}
use Rattle.timew_month.specs.Records.{changes_of}
use Rattle.timew_store.specs.Writing.{HasRecordMore}
use Rattle.timew_interval.specs.declared.edit.Edit.{Edit}
use Rattle.timew_interval.specs.declared.interval.Interval.{Interval}
use Rattle.timew_month.specs.declared.months.Months.{Months}
use Rattle.timew_store.specs.declared.store.Store.{Store}
use Rattle.timew_store.specs.declared.write.prepared.PreparedEdit.{PreparedEdit}
use Rattle.timew_store.specs.declared.prepare.PreparedChange.{PreparedChange}
use Rattle.timew_store.specs.declared.error.StoreError.{StoreError}
use Rattle.timew_store.specs.declared.error.StoreError.TheVariants as store
use Rattle.timew_store.specs.declared.error.PrepareError.{PrepareError}
use Rattle.timew_store.specs.declared.error.PrepareError.TheVariants as prepares
use Rattle.timew_store.specs.declared.error.WriteError.{WriteError}
use Rattle.timew_store.specs.declared.error.WriteError.TheVariants as writes

-- ---- an edit of months

-- The edit of these months is prepared: it is known what becomes of the files, and there is room for them and for the intervals.
pub record IsPreparedEdit (months : Months) (edit : Edit) (p : PreparedEdit) : Type 0 where
  pub files : p.files ≡ months.files
  pub rows : p.rows.items ≡ months.rows
  pub are : AreRows p.rows.items
  pub known : p.known ≡ months.known
  pub edit_is : p.edit ≡ edit
  pub edits : IsEditOf months.rows edit
  pub room : vec_len p.rows + vec_len p.edit.rows ≤ vec_capacity p.rows
  pub empty : p.room.items ≡ []
  pub places : vec_len p.files + vec_len p.changes ≤ vec_capacity p.room
  pub named : AreMonths (changes_of p.changes.items)
  pub body : p.body.items ≡ body_of (Change (changes_of p.changes.items))
  pub changes : OnFolders months (λ files. changes_of p.changes.items ≡ changes_to files (edited edit months.rows))
  pub hold : OnFolders months (λ files. rows_of (replaced files (changes_of p.changes.items)) ≡ Ok (edited edit months.rows))

-- this is so of the months of which it is an edit, and of the intervals to which that leads
abbrev pub OnEditOf : PreparedEdit → (Months → List Interval → Type 0) → Type 0
OnEditOf p P = (months : Months) (edit : Edit) → IsPreparedEdit months edit p → P months (edited edit months.rows)

-- the same of a store that has this journal
abbrev pub OnEdit : PreparedEdit → Journal → (Store → List Interval → Type 0) → Type 0
OnEdit p journal P = (old : Store) (edit : Edit) → old.journal ≡ journal → IsPreparedEdit old.months edit p → P old (edited edit (intervals_of old))

-- these are the months after the edit
abbrev pub HoldNext : PreparedEdit → (old new : Months) → Type 0
HoldNext p old new = OnFolders old (λ files. HoldMonths (replaced files (changes_of p.changes.items)) new)

-- a store that has this journal and these months is the one after the change
abbrev pub LeadsOn : {F D : Type 0} → FolderModel F → DiskModel D → PreparedEdit → Journal → (f0 f1 : F) (d0 d1 : D) → Store → List Interval → Type 0
LeadsOn m n p journal f0 f1 d0 d1 old rows = (new : Store) → new.journal ≡ journal → HoldNext p old.months new.months → IsChangedTo m n old new f0 f1 d0 d1 rows

-- a store that has this journal, and the months of before, was refused its change
abbrev pub IsRefusedAt : {F D : Type 0} → FolderModel F → DiskModel D → Journal → (f0 f1 : F) (d0 d1 : D) → StoreError → Store → List Interval → Type 0
IsRefusedAt m n journal f0 f1 d0 d1 e old rows = (new : Store) → new.journal ≡ journal → new.months ≡ old.months → ChangeRefused m n old new f0 f1 d0 d1 rows e

-- the folder failed, or the disk of the journal
abbrev pub IsDeviceFault : {F D : Type 0} → FolderModel F → DiskModel D → (f0 f1 : F) (d0 d1 : D) → StoreError → Type 0
IsDeviceFault m n f0 f1 d0 d1 store.Folder = Rose (m.faults f0) (m.faults f1)
IsDeviceFault m n f0 f1 d0 d1 (store.Journal cause.Disk) = Rose (n.faults d0) (n.faults d1) × (f1 ≡ f0)
IsDeviceFault m n f0 f1 d0 d1 (store.Journal e) = ⊥
IsDeviceFault m n f0 f1 d0 d1 store.Memory = ⊥

-- ---- a change of a store

-- the change of this store by this edit is prepared
pub record IsPreparedChange (old : Store) (edit : Edit) (p : PreparedChange) : Type 0 where
  pub journal : p.journal ≡ old.journal
  pub live : is_store_closed old ≡ false
  pub made : IsPreparedEdit old.months edit p.made
  pub within : length p.made.body.items + 5 ≤ 2 ^ 30

-- this is so of the store that is to be changed, and of the intervals that it is to have
abbrev pub OnPrepared : PreparedChange → (Store → List Interval → Type 0) → Type 0
OnPrepared p P = (old : Store) (edit : Edit) → IsPreparedChange old edit p → P old (edited edit (intervals_of old))

-- where the records of its journal end
abbrev pub prepared_end : PreparedChange → ℕ
prepared_end p = journal_end p.journal

-- why a change is not prepared: a closed store, a record of so many bytes, or want of memory
abbrev pub PrepareRefused : Store → List Interval → PrepareError → Type 0
PrepareRefused old rows prepares.Closed = is_store_closed old ≡ true
PrepareRefused old rows (prepares.TooLong bytes) =
    (2 ^ 30 < bytes) × OnFolders old.months (λ files. bytes ≡ length (row_of_records (change_bodies (changes_to files rows))))
PrepareRefused old rows prepares.Memory = Unit {0}

-- the record of the change is written
abbrev pub ChangeRecorded : {F D : Type 0} → FolderModel F → DiskModel D → F → (d0 d1 : D) → Store → List Interval → Type 0
ChangeRecorded m n f0 d0 d1 old rows =
    (body : List ℕ) × (journal : Journal) × IsChangeBody m n old f0 d0 rows body × HasRecordMore n old.journal journal d0 d1 body

-- Why a prepared change is not written. If the disk of the journal failed, the folder was not used; if the folder failed, the record is written.
abbrev pub WriteFailed : {F D : Type 0} → FolderModel F → DiskModel D → (f0 f1 : F) (d0 d1 : D) → WriteError → Store → List Interval → Type 0
WriteFailed m n f0 f1 d0 d1 writes.Folder old rows = Rose (m.faults f0) (m.faults f1) × ChangeRecorded m n f0 d0 d1 old rows
WriteFailed m n f0 f1 d0 d1 writes.Disk old rows = Rose (n.faults d0) (n.faults d1) × (f1 ≡ f0)
