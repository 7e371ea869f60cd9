-- The hours that a command drives: which intervals there are afterwards, and what is left of them where they are not changed.
use Rattle.std.specs.Prelude.{◌≡◌, ◌⊎◌, ◌++◌, ◌&&◌, ℕ, Bool, true, false, not, ◌==◌, List, length, Some, Ok, codes}
use Rattle.tw_world.specs.Disk.{DiskModel, Rose}
use Rattle.tw_world.specs.Disk as disk
use Rattle.tw_world.specs.Crash.{Tells, IsStable}
use Rattle.tw_world.specs.Folder.{Files, FolderModel}
use Rattle.tw_journal.specs.Record.{rows as row_of_records}
use Rattle.tw_journal.specs.Open.{Records, IsDamagedAt}
use Rattle.tw_journal.specs.declared.journal.Journal.{Journal}
use Rattle.tw_model.specs.Ops.{TasksValue}
use Rattle.tw_state.specs.State.{State}
use Rattle.tw_words.specs.Commands.{drives}
use Rattle.tw_settings.specs.Switches.{is_turned_on}
use Rattle.tw_changes.specs.declared.request.Request.{Request}
use Rattle.timew_store.specs.History.{History}
use Rattle.timew_store.specs.Held.{magic, Held, OpensTo, OnStable, IsAtRest, held_by, finished}
use Rattle.timew_store.specs.Loading.{Stays, LeavesAlike, HoldsNoStep, last_of}
use Rattle.timew_month.specs.Body.{FileChange}
use Rattle.timew_month.specs.Changes.{changes_to}
use Rattle.timew_month.specs.Rows.{rows_of}
use Rattle.timew_store.specs.Store.{changed, change_bodies, FindsBadLine, IsBadLine}
use Rattle.timew_interval.specs.declared.interval.Interval.{Interval}
use Rattle.timew_bridge.specs.Track.{tracked}
use Rattle.tw_cli.specs.declared.cause.Cause.{Cause}
use Rattle.tw_cli.specs.declared.cause.Cause.TheVariants.{DiskFault, RecordTooLong, Memory, TrackFault, TrackBad, TrackDamaged}

-- the intervals once the tasks before a command have driven them, and then those after it
abbrev pub driven : (before after : TasksValue) → List Interval → (now : ℕ) → List Interval
driven before after rows now = tracked after (tracked before rows now) now

-- the bytes of the record by which that changes files, with its gate and length
abbrev pub driven_size : Files → (before after : TasksValue) → List Interval → (now : ℕ) → ℕ
driven_size files before after rows now = length (row_of_records (change_bodies (changes_to files (driven before after rows now))))

-- whether a request drives intervals: the setting is on, and the command is one of those that do
abbrev pub is_driving : Request → Bool
is_driving request = is_turned_on (codes "timetrack") request.settings && drives request.command

-- whether a step makes operations or takes some back, so that it has a record
abbrev pub has_moved : (old new : State) → Bool
has_moved old new = not (length old.pending == length new.pending)

-- a folder that rests and a journal, which tell what they hold, open to this
pub record Opens {F J : Type 0} (m : FolderModel F) (n : DiskModel J) (f : F) (j : J) (held : Held) : Type 0 where
  pub told : Tells m f
  pub settled : IsStable m f
  pub tells : disk.Tells n j
  pub opens : OpensTo (m.seen f) (n.seen j) held

-- month files and a journal that can be loaded, whatever its records lead to: the last of them holds a step, and once that is finished the files
-- hold intervals
pub record CanBeLoaded (files : Files) (journal : List ℕ) : Type 0 where
  pub bodies : List (List ℕ)
  pub records : Records magic journal bodies
  pub last : List FileChange
  pub last_is : last_of bodies ≡ Some last
  pub rows : List Interval
  pub read : rows_of (finished files last) ≡ Ok rows

-- folder and journal hold such hours, if they tell what they hold
abbrev pub MayBeLoaded : {F J : Type 0} → FolderModel F → DiskModel J → F → J → Type 0
MayBeLoaded m n f j = Tells m f → disk.Tells n j → CanBeLoaded (m.seen f) (n.seen j)

module _ {F J : Type 0} (m : FolderModel F) (n : DiskModel J) (f0 f1 : F) (j0 j1 : J) where
  -- folder and journal are as they were
  abbrev pub AreUnopened : Type 0
  AreUnopened = (f1 ≡ f0) × (j1 ≡ j0)

  -- the intervals of what was held have become others, by one change
  pub record HaveBecome (make : List Interval → List Interval) (held : Held) : Type 0 where
    pub rows : List Interval
    pub read : rows_of held.files ≡ Ok rows
    pub bodies : List (List ℕ)
    pub had : Records magic (n.seen j0) bodies
    pub journal : Journal
    pub history : History
    pub rest : IsAtRest m n journal f1 j1 (bodies ++ change_bodies (changes_to held.files (make rows))) history
    pub holds : held_by m f1 history ≡ changed held (make rows)
    pub are : rows_of (m.seen f1) ≡ Ok (make rows)

  -- whatever folder and journal opened to, its intervals have become these
  abbrev pub Become : (List Interval → List Interval) → Type 0
  Become make = (held : Held) → Opens m n f0 j0 held → HaveBecome make held

  -- the hours after a command that led from one state to another: driven by the tasks of both, if it drives them and has moved
  abbrev pub AreDrivenIf : (drives moved : Bool) → (before after : TasksValue) → (now : ℕ) → Type 0
  AreDrivenIf true true before after now = Become (λ rows. driven before after rows now)
  AreDrivenIf true false before after now = AreUnopened
  AreDrivenIf false moved before after now = AreUnopened

  abbrev pub AreDriven : Request → (old new : State) → Type 0
  AreDriven request old new = AreDrivenIf (is_driving request) (has_moved old new) old.tasks new.tasks request.at.seconds

  -- What folder and journal hold stays, also where they open to nothing; the last change may be finished, or some of its files. A crash leaves the same.
  pub record AreKept : Type 0 where
    pub stays : Stays m n f0 f1 j0 j1
    pub any_moment : LeavesAlike m n f0 f1 j0 j1

  -- A fault before the hours are loaded leaves what folder and journal hold, also where they open to nothing: one of the journal leaves the folder as
  -- it was. A crash leaves the same.
  pub record AreSpared : Type 0 where
    pub stays : (f1 ≡ f0) ⊎ Stays m n f0 f1 j0 j1
    pub any_moment : LeavesAlike m n f0 f1 j0 j1

  -- The hours of a command that was not carried out, or of which they were not changed: they open to what they did, and most causes leave them unopened.
  -- A fault spares those that can't be loaded.
  abbrev pub AreUndriven : Cause → Type 0
  AreUndriven TrackFault = (Rose (m.faults f0) (m.faults f1) ⊎ Rose (n.faults j0) (n.faults j1)) × (AreSpared ⊎ MayBeLoaded m n f0 j0)
  AreUndriven (TrackBad file line) = FindsBadLine m n f0 j0 (file, line) × OnStable m n f0 j0 (IsBadLine m n f0 f1 j0 j1 (file, line)) × AreKept
  AreUndriven (TrackDamaged offset) = (f1 ≡ f0) × (disk.Tells n j0 → IsDamagedAt magic (n.seen j0) offset ⊎ HoldsNoStep (n.seen j0) offset) × AreKept
  AreUndriven DiskFault = AreKept
  AreUndriven (RecordTooLong bytes) = AreKept
  AreUndriven Memory = AreKept
  AreUndriven cause = AreUnopened
