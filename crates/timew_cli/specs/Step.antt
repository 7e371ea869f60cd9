-- What carrying a command out does over a store that is open.
use Rattle.std.specs.Prelude.{◌≡◌, ◌⊎◌, ◌<◌, ◌^◌, ℕ, List, ◌++◌, length, Result, Ok, Err}
use Rattle.tw_world.specs.Disk.{DiskModel, Rose}
use Rattle.tw_world.specs.Disk as disk
use Rattle.tw_world.specs.Folder.{Files, FolderModel}
use Rattle.tw_world.specs.Turns.{InTurns, crash_of}
use Rattle.tw_journal.specs.Journal.{IsOpenOn}
use Rattle.tw_journal.specs.declared.journal.Journal.{Journal}
use Rattle.timew_store.specs.History.{History}
use Rattle.timew_store.specs.Held.{magic, Held, OpensTo, IsAtRest, held_by}
use Rattle.timew_store.specs.Loading.{IsNoStep}
use Rattle.timew_store.specs.Store.{IsStoreOn}
use Rattle.timew_store.specs.declared.store.Store.{Store}
use Rattle.timew_cmd.specs.Texts.{stored}
use Rattle.timew_cli.specs.Carried.{Carried}
use Rattle.timew_cli.specs.Cause.{carry_cause}
use Rattle.timew_cli.specs.Run.{Outside, HasSize}
use Rattle.timew_cli.specs.declared.carry.CarryError.{CarryError}
use Rattle.timew_cli.specs.declared.carry.Shown.{Shown}
use Rattle.timew_cli.specs.declared.carry.Shown.TheVariants.{Text, Stored}
use Rattle.timew_cli.specs.declared.cause.Cause.{Cause}
use Rattle.timew_cli.specs.declared.cause.Cause.TheVariants.{DiskFault, RecordTooLong, Damaged, FolderFault, Memory}

abbrev pub shown_text : Shown → List ℕ
shown_text (Text text) = text.items
shown_text (Stored count) = stored count

abbrev pub shown_of : Result Shown CarryError → Result (List ℕ) Cause
shown_of (Ok shown) = Ok (shown_text shown)
shown_of (Err error) = Err (carry_cause error)

-- a crash leaves the state before, or the one to which a command leads
abbrev pub Among : Held → Result Carried Cause → Files → List ℕ → Type 0
Among held (Ok carried) x y = OpensTo x y held ⊎ OpensTo x y carried.held
Among held (Err cause) x y = OpensTo x y held

-- folder and disk rest on these records, and hold this
pub record Rests {F D : Type 0} (m : FolderModel F) (n : DiskModel D) (folder : F) (disk : D) (bodies : List (List ℕ)) (held : Held) : Type 0 where
  pub journal : Journal
  pub history : History
  pub rest : IsAtRest m n journal folder disk bodies history
  pub holds : held_by m folder history ≡ held

-- one of these bodies of a file is that of no step, and its record is at this offset
abbrev pub HasNoStep : (file : List ℕ) (bodies : List (List ℕ)) (offset : ℕ) → Type 0
HasNoStep file bodies offset = (k : ℕ) × (k < length bodies) × IsNoStep file bodies k offset

module _ {F D : Type 0} (m : FolderModel F) (n : DiskModel D) (w : Outside F D) where
  -- the record passes its limit
  pub record IsTooLong (expected : Result Carried Cause) (bodies : List (List ℕ)) (held : Held) (bytes : ℕ) : Type 0 where
    pub carried : Carried
    pub is : expected ≡ Ok carried
    pub size : HasSize carried.adds bytes
    pub stays : Rests m n w.f1 w.d1 bodies held

  -- why a command is not carried out, of which this is expected
  abbrev pub EndsBadly : Result Carried Cause → List (List ℕ) → Held → Cause → Type 0
  EndsBadly expected bodies held DiskFault = Unit {0}
  EndsBadly expected bodies held FolderFault = Unit {0}
  EndsBadly expected bodies held Memory = Rests m n w.f1 w.d1 bodies held
  EndsBadly expected bodies held (RecordTooLong bytes) = IsTooLong expected bodies held bytes
  EndsBadly expected bodies held (Damaged offset) = Unit {0}
  EndsBadly expected bodies held cause = (expected ≡ Err cause) × Rests m n w.f1 w.d1 bodies held

  pub record EndsWith (expected : Result Carried Cause) (bodies : List (List ℕ)) (text : List ℕ) : Type 0 where
    pub carried : Carried
    pub is : expected ≡ Ok carried
    pub text_is : text ≡ carried.text
    pub after : Rests m n w.f1 w.d1 (bodies ++ carried.adds) carried.held

  -- a command ends as it is expected
  abbrev pub Ends : Result Carried Cause → List (List ℕ) → Held → Result (List ℕ) Cause → Type 0
  Ends expected bodies held (Ok text) = EndsWith expected bodies text
  Ends expected bodies held (Err cause) = EndsBadly expected bodies held cause

  -- whatever records an open store has, a command ends over them as is expected of what is held
  abbrev pub EndsOn : Store → (expected : Held → Result Carried Cause) → Result (List ℕ) Cause → Type 0
  EndsOn store expected result = (bodies : List (List ℕ)) (history : History) → IsStoreOn m n store w.f0 w.d0 bodies history
      → Ends (expected (held_by m w.f0 history)) bodies (held_by m w.f0 history) result

  -- and at each moment of it a crash leaves the state before, or the expected one
  abbrev pub LeavesOn : Store → (expected : Held → Result Carried Cause) → Type 0
  LeavesOn store expected = (bodies : List (List ℕ)) (history : History) → IsStoreOn m n store w.f0 w.d0 bodies history
      → InTurns m (crash_of n) (Among (held_by m w.f0 history) (expected (held_by m w.f0 history))) w.f0 w.d0 w.f1 w.d1

  -- whatever records the journal of a store has, one of them holds no step
  abbrev pub IsDamagedIn : Store → (offset : ℕ) → Type 0
  IsDamagedIn store offset = disk.Tells n w.d0 → (bodies : List (List ℕ)) → IsOpenOn n magic store.journal w.d0 bodies → HasNoStep (n.seen w.d0) bodies offset

  -- nothing was written
  abbrev pub IsOnlyRead : Type 0
  IsOnlyRead = (w.f1 ≡ w.f0) × disk.Untouched n w.d0 w.d1

  -- what is known of a cause, whatever the records stand for
  abbrev pub IsFaultOf : Store → Cause → Type 0
  IsFaultOf store DiskFault = Rose (n.faults w.d0) (n.faults w.d1)
  IsFaultOf store FolderFault = Rose (m.faults w.f0) (m.faults w.f1)
  IsFaultOf store (RecordTooLong bytes) = 2 ^ 30 < bytes
  IsFaultOf store (Damaged offset) = IsDamagedIn store offset × IsOnlyRead
  IsFaultOf store Memory = IsOnlyRead
  IsFaultOf store cause = Unit {0}
