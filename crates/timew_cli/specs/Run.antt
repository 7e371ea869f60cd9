-- What a run gives, by the cause that it ends with.
use Rattle.std.specs.Prelude.{◌≡◌, ◌⊎◌, ◌<◌, ◌≤◌, ◌+◌, ◌^◌, ℕ, List, [], ◌∷◌, ◌++◌, length, Result, Ok, Err}
use Rattle.tw_time.specs.Moments.{TimeZone}
use Rattle.tw_world.specs.Disk.{DiskModel, Rose}
use Rattle.tw_world.specs.Disk as disk
use Rattle.tw_world.specs.Crash.{Tells, IsStable, FaultsRise}
use Rattle.tw_world.specs.Folder.{Files, FolderModel}
use Rattle.tw_world.specs.Sink.{SinkModel, Got, GotPart}
use Rattle.tw_world.specs.Turns.{InTurns, crash_of}
use Rattle.tw_journal.specs.Open.{Records, IsDamagedAt}
use Rattle.tw_journal.specs.declared.journal.Journal.{Journal}
use Rattle.timew_store.specs.History.{History}
use Rattle.timew_store.specs.Held.{magic, Held, OpensTo, IsAtRest, held_by}
use Rattle.timew_store.specs.Loading.{OpensAlike, LeavesAlike, Stays, IsNoStep}
use Rattle.timew_store.specs.Store.{LoadsStore}
use Rattle.timew_store.specs.declared.store.Store.{Store}
use Rattle.timew_words.specs.declared.command.Command.{Command}
use Rattle.timew_words.specs.declared.error.BadWord.{BadWord}
use Rattle.tw_ending.specs.Ending.{End, HasNotFailed}
use Rattle.tw_ending.specs.Ending.End.{Well, Output, Failed}
use Rattle.timew_cli.specs.Cause.{end_of, word_cause, carry_cause}
use Rattle.timew_cli.specs.Carried.{Carried, carried_out}
use Rattle.timew_cli.specs.declared.carry.CarryError.{CarryError}
use Rattle.timew_cli.specs.declared.cause.Cause.{Cause}
use Rattle.timew_cli.specs.declared.cause.Cause.TheVariants.{Done, DiskFault, RecordTooLong, Damaged, FolderFault, Memory}

-- what is outside a run: its folder and its disk, each before the run and after it
pub record Outside (F D : Type 0) : Type 0 where
  pub f0 : F
  pub f1 : F
  pub d0 : D
  pub d1 : D

abbrev pub went : {F D : Type 0} → (f0 f1 : F) (d0 d1 : D) → Outside F D
went f0 f1 d0 d1 = record { f0 = f0; f1 = f1; d0 = d0; d1 = d1 }

-- a file that is at most so many bytes longer than one that a crash could leave before
abbrev pub IsGrownBy : {D : Type 0} → DiskModel D → D → ℕ → List ℕ → Type 0
IsGrownBy n before bytes file = (other : List ℕ) × n.leaves before other × (length file ≤ length other + bytes)

-- no file that a crash leaves is longer by more than a record and the front of a new file
abbrev pub GrowsByRecord : {D : Type 0} → DiskModel D → (before after : D) → Type 0
GrowsByRecord n before after = disk.Tells n before → disk.LeavesOnly n before after (IsGrownBy n before (2 ^ 30 + 29))

-- the one record among these has so many bytes, with its gate and its length
abbrev pub HasSize : List (List ℕ) → ℕ → Type 0
HasSize bodies size = (body : List ℕ) × (bodies ≡ body ∷ []) × (size ≡ length body + 5)

-- some record of the file holds no step, and is at this offset
pub record HoldsNoStepAt (file : List ℕ) (offset : ℕ) : Type 0 where
  pub bodies : List (List ℕ)
  pub records : Records magic file bodies
  pub number : ℕ
  pub inside : number < length bodies
  pub none : IsNoStep file bodies number offset

module _ {F D : Type 0} (m : FolderModel F) (n : DiskModel D) where
  -- a folder that rests and a disk, which tell what they hold, open to this
  pub record Opens (f : F) (d : D) (held : Held) : Type 0 where
    pub told : Tells m f
    pub settled : IsStable m f
    pub tells : disk.Tells n d
    pub opens : OpensTo (m.seen f) (n.seen d) held

  -- Damage and want of memory leave what folder and disk hold, whatever the records lead to; the last change may be finished, or
  -- some of its files. A crash leaves the same.
  pub record IsLeft (w : Outside F D) : Type 0 where
    pub stays : Stays m n w.f0 w.f1 w.d0 w.d1
    pub any_moment : LeavesAlike m n w.f0 w.f1 w.d0 w.d1

  -- A fault before the store is loaded leaves what folder and disk hold, whatever the records lead to: one of the disk leaves the folder as it was.
  -- A crash leaves the same.
  pub record AreSpared (w : Outside F D) : Type 0 where
    pub stays : (w.f1 ≡ w.f0) ⊎ Stays m n w.f0 w.f1 w.d0 w.d1
    pub any_moment : LeavesAlike m n w.f0 w.f1 w.d0 w.d1

  -- the store was loaded, and this is so of folder and disk from then on
  pub record SinceLoaded (w : Outside F D) (P : F → D → Type 0) : Type 0 where
    pub folder : F
    pub disk : D
    pub store : Store
    pub loads : LoadsStore m n w.f0 folder w.d0 disk store
    pub since : P folder disk

  -- these records come after those of before, and folder and disk rest and hold this
  pub record HoldsMore (w : Outside F D) (adds : List (List ℕ)) (held : Held) : Type 0 where
    pub bodies : List (List ℕ)
    pub had : Records magic (n.seen w.d0) bodies
    pub journal : Journal
    pub history : History
    pub rest : IsAtRest m n journal w.f1 w.d1 (bodies ++ adds) history
    pub holds : held_by m w.f1 history ≡ held

module _ {F D : Type 0} (m : FolderModel F) (n : DiskModel D) (command : Command) (now : ℕ) (zone : TimeZone) (w : Outside F D) where
  -- a command was carried out, and this is its text
  pub record Does (held : Held) (text : List ℕ) : Type 0 where
    pub carried : Carried
    pub is : carried_out command held now zone ≡ Ok carried
    pub text_is : text ≡ carried.text
    pub after : HoldsMore m n w carried.adds carried.held

  abbrev pub CarriedOut : List ℕ → Type 0
  CarriedOut text = (held : Held) → Opens m n w.f0 w.d0 held → Does held text

  -- the command is refused, and the state stays
  abbrev pub Refused : Cause → Type 0
  Refused cause = (held : Held) → Opens m n w.f0 w.d0 held → (carried_out command held now zone ≡ Err cause) × HoldsMore m n w [] held

  -- the record passes its limit, and the state stays
  pub record PassesLimit (held : Held) (bytes : ℕ) : Type 0 where
    pub carried : Carried
    pub is : carried_out command held now zone ≡ Ok carried
    pub size : HasSize carried.adds bytes
    pub stays : HoldsMore m n w [] held

  -- why a command is not carried out, by the cause
  abbrev pub Because : Cause → Type 0
  Because DiskFault = Rose (n.faults w.d0) (n.faults w.d1) × (AreSpared m n w ⊎ SinceLoaded m n w (λ folder disk. Rose (n.faults disk) (n.faults w.d1)))
  Because FolderFault = Rose (m.faults w.f0) (m.faults w.f1) × (AreSpared m n w ⊎ SinceLoaded m n w (λ folder disk. Rose (m.faults folder) (m.faults w.f1)))
  Because Memory = IsLeft m n w
  Because (RecordTooLong bytes) = (2 ^ 30 < bytes) × ((held : Held) → Opens m n w.f0 w.d0 held → PassesLimit held bytes)
  Because (Damaged offset) = (disk.Tells n w.d0 → IsDamagedAt magic (n.seen w.d0) offset ⊎ HoldsNoStepAt (n.seen w.d0) offset) × IsLeft m n w
  Because cause = Refused cause

  -- why a command is not carried out
  abbrev pub NotCarried : CarryError → Type 0
  NotCarried error = Because (carry_cause error)

  -- a premise under which a command is carried out, or memory runs out
  pub record CanBeCarriedOut : Type 0 where
    pub held : Held
    pub opens : Opens m n w.f0 w.d0 held
    pub carried : Carried
    pub is : carried_out command held now zone ≡ Ok carried
    pub fits : (size : ℕ) → HasSize carried.adds size → size ≤ 2 ^ 30
    pub folder_well : Rose (m.faults w.f0) (m.faults w.f1) → ⊥
    pub disk_well : Rose (n.faults w.d0) (n.faults w.d1) → ⊥

  -- a crash leaves what opens as before, or to the state before, or to the one to which the command leads
  abbrev pub LeavesOf : Held → Result Carried Cause → Files → List ℕ → Type 0
  LeavesOf held (Ok carried) x y = OpensAlike m n w.f0 w.d0 x y ⊎ (OpensTo x y held ⊎ OpensTo x y carried.held)
  LeavesOf held (Err cause) x y = OpensAlike m n w.f0 w.d0 x y ⊎ OpensTo x y held

  abbrev pub LeavesStates : Type 0
  LeavesStates = (held : Held) → Opens m n w.f0 w.d0 held → InTurns m (crash_of n) (LeavesOf held (carried_out command held now zone)) w.f0 w.d0 w.f1 w.d1

  module _ {O : Type 0} (s : SinkModel O) (o0 o1 : O) where
    abbrev pub GivesBy : Cause → End → Type 0
    GivesBy cause Well = (text : List ℕ) × CarriedOut text × Got s o0 o1 text
    GivesBy cause Output = (text : List ℕ) × CarriedOut text × GotPart s o0 o1 text × Rose (s.faults o0) (s.faults o1)
    GivesBy cause Failed = Because cause × (o1 ≡ o0)

    -- what a run of a command gives
    abbrev pub Gives : Cause → Type 0
    Gives cause = GivesBy cause (end_of cause)

    -- a premise under which a run of a command ends well
    pub record CanEnd : Type 0 where
      pub can : CanBeCarriedOut
      pub out_well : HasNotFailed s o0 o1

-- it ends well, or wants memory
abbrev pub IsDoneOrWant : Cause → Type 0
IsDoneOrWant cause = (cause ≡ Done) ⊎ (cause ≡ Memory)

-- ---- of words

module _ {F D O : Type 0} (m : FolderModel F) (n : DiskModel D) (s : SinkModel O) where
  -- what a run of words gives that ask for this
  abbrev pub RunGives : Result Command BadWord → ℕ → TimeZone → Outside F D → (o0 o1 : O) → Cause → Type 0
  RunGives (Ok command) now zone w o0 o1 cause = Gives m n command now zone w s o0 o1 cause
  RunGives (Err bad) now zone w o0 o1 cause = ((cause ≡ word_cause bad) ⊎ (cause ≡ Memory)) × (w.f1 ≡ w.f0) × (w.d1 ≡ w.d0) × (o1 ≡ o0)

  -- if a run can end well, it does, or wants memory
  abbrev pub EndsWell : Result Command BadWord → ℕ → TimeZone → Outside F D → (o0 o1 : O) → Cause → Type 0
  EndsWell (Ok command) now zone w o0 o1 cause = CanEnd m n command now zone w s o0 o1 → IsDoneOrWant cause
  EndsWell (Err bad) now zone w o0 o1 cause = Unit {0}

-- what a crash leaves of a run
abbrev pub RunLeaves : {F D : Type 0} → FolderModel F → DiskModel D → Result Command BadWord → ℕ → TimeZone → Outside F D → Type 0
RunLeaves m n (Ok command) now zone w = LeavesStates m n command now zone w
RunLeaves m n (Err bad) now zone w = (w.f1 ≡ w.f0) × (w.d1 ≡ w.d0)

module _ {F D O : Type 0} (m : FolderModel F) (n : DiskModel D) (s : SinkModel O) where
  -- all that is known of a run
  pub record IsRun (asked : Result Command BadWord) (now : ℕ) (zone : TimeZone) (w : Outside F D) (o0 o1 : O) (cause : Cause) : Type 0 where
    pub gives : RunGives m n s asked now zone w o0 o1 cause
    pub complete : EndsWell m n s asked now zone w o0 o1 cause
    pub any_moment : RunLeaves m n asked now zone w
    pub growth : GrowsByRecord n w.d0 w.d1
    pub folder : FaultsRise m w.f0 w.f1
    pub disk : disk.FaultsRise n w.d0 w.d1
