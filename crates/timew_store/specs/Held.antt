-- What a folder and a journal hold together.
use Rattle.std.specs.Prelude.{◌≡◌, ◌⊎◌, ◌≤◌, ℕ, false, cond, List, [], ◌∷◌, length, take, codes}
use Rattle.std.specs.List.{AllByRecursion}
use Rattle.tw_world.specs.Disk.{DiskModel}
use Rattle.tw_world.specs.Disk as disk
use Rattle.tw_world.specs.Crash.{IsStable, Tells, FaultsRise, LeavesOnly}
use Rattle.tw_world.specs.Folder.{Files, FolderModel, same_bytes}
use Rattle.tw_journal.specs.Open.{Records}
use Rattle.tw_journal.specs.Journal.{IsOpenOn}
use Rattle.tw_journal.specs.declared.journal.Journal.{Journal}
use Rattle.timew_month.specs.Body.{FileChange}
use Rattle.timew_store.specs.History.{History, Stands}
use Rattle.timew_month.specs.Files.{bytes_of, with_new, replaced}

-- the bodies of records, the first one first
abbrev pub Bodies : Type 0
Bodies = List (List ℕ)

-- the first record of a store's journal
abbrev pub magic : List ℕ
magic = codes "TIMEWJ01"

-- a file that still has its old bytes gets its new ones
abbrev pub finished_file : Files → FileChange → Files
finished_file files f = cond (same_bytes (bytes_of files f.name) f.old) (with_new files f) files

-- the files once a change is finished
abbrev pub finished : Files → List FileChange → Files
finished files [] = files
finished files (f ∷ changes) = finished (finished_file files f) changes

-- the month files, and the changes that an undo can take back, the last one first
pub record Held : Type 0 where
  pub files : Files
  pub undoable : List (List FileChange)

-- a folder with these files and a journal with these bytes open to this
pub record OpensTo (files : Files) (journal : List ℕ) (held : Held) : Type 0 where
  pub bodies : List (List ℕ)
  pub records : Records magic journal bodies
  pub history : History
  pub stands : Stands bodies history
  pub files_are : finished files history.last ≡ held.files
  pub undoable_are : history.undoable ≡ held.undoable

-- whatever a folder and a disk that tells what it holds open to, this is so
abbrev pub IfTheyOpen : {F D : Type 0} → FolderModel F → DiskModel D → F → D → Type 0 → Type 0
IfTheyOpen m n folder journal P = (held : Held) → disk.Tells n journal → OpensTo (m.seen folder) (n.seen journal) held → P

-- this is so if the folder and the disk tell what they hold, and the folder is stable
abbrev pub OnStable : {F D : Type 0} → FolderModel F → DiskModel D → F → D → Type 0 → Type 0
OnStable m n folder journal P = Tells m folder → IsStable m folder → disk.Tells n journal → P

abbrev pub OpensToEither : Held → Held → Files → List ℕ → Type 0
OpensToEither before after files journal = OpensTo files journal before ⊎ OpensTo files journal after

-- each file has the bytes that the change finds
abbrev pub HasOld : Files → List FileChange → Type 0
HasOld files changes = AllByRecursion (λ f. bytes_of files f.name ≡ f.old) changes

-- a folder and a journal that rest, with all that they hold stable
pub record IsAtRest {F D : Type 0} (m : FolderModel F) (n : DiskModel D) (j : Journal) (f : F) (d : D) (bodies : Bodies) (history : History) : Type 0 where
  pub tells : Tells m f
  pub stable : IsStable m f
  pub open_on : IsOpenOn n magic j d bodies
  pub stands : Stands bodies history
  -- the last change is finished
  pub whole : finished (m.seen f) history.last ≡ m.seen f

-- this is so of the records on which the journal of a store is open
abbrev pub OnRecords : {D : Type 0} → DiskModel D → Journal → D → (Bodies → Type 0) → Type 0
OnRecords n journal disk P = (bodies : Bodies) → IsOpenOn n magic journal disk bodies → P bodies

-- this is so of the history to which the records of the journal lead
abbrev pub OnHistory : {D : Type 0} → DiskModel D → Journal → D → (History → Type 0) → Type 0
OnHistory n journal disk P = (bodies : Bodies) (history : History) → IsOpenOn n magic journal disk bodies → Stands bodies history → P history

-- what it holds
abbrev pub held_by : {F : Type 0} → FolderModel F → F → History → Held
held_by m folder h = record { files = m.seen folder; undoable = h.undoable }

-- ---- writing a change

-- a folder that tells what it holds has these files replaced
abbrev pub Replaces : {F : Type 0} → FolderModel F → (before after : F) → List FileChange → Type 0
Replaces m before after changes = Tells m before → m.seen after ≡ replaced (m.seen before) changes

-- a crash leaves only such files, if the folder tells what it holds and is stable
abbrev pub LeavesFiles : {F : Type 0} → FolderModel F → (before after : F) → (Files → Type 0) → Type 0
LeavesFiles m before after P = Tells m before → IsStable m before → LeavesOnly m before after P

-- the first so many of the files are replaced
abbrev pub IsPartly : List FileChange → Files → Files → Type 0
IsPartly changes before files = (j : ℕ) × (j ≤ length changes) × (files ≡ replaced before (take j changes))

-- a name that a month file has, each once
abbrev pub IsApart : List ℕ → List FileChange → Type 0
IsApart name changes = AllByRecursion (λ f. same_bytes f.name name ≡ false) changes

abbrev pub AreApart : List FileChange → Type 0
AreApart [] = Unit {0}
AreApart (f ∷ changes) = IsApart f.name changes × AreApart changes

-- what the replacing knows from file to file
pub record Replacing {F : Type 0} (m : FolderModel F) (changes : List FileChange) (first now : F) (i : ℕ) : Type 0 where
  pub faults : FaultsRise m first now
  pub seen : Tells m first → m.seen now ≡ replaced (m.seen first) (take i changes)
  pub stable : Tells m first → IsStable m first → IsStable m now
  pub moments : Tells m first → IsStable m first → LeavesOnly m first now (IsPartly changes (m.seen first))
