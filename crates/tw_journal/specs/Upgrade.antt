-- Replacing a row of records by one record, in a file that gets areas and the next version.
-- The record is written apart from the row, with its offset in eight bytes after it. By the first byte 4 it counts. Then the slots
-- are written, and the version; by the first byte 2 they count. Last the file is cut after the record.
use Rattle.std.specs.Prelude.{◌≡◌, ◌⊎◌, ◌≤◌, ℕ, ◌+◌, max, nat_eq, if◌then◌else◌, All, Some}
use Rattle.std.specs.Prelude.{List, [], ◌∷◌, ◌++◌, length, drop}
use Rattle.std.specs.Int.{to_be_bytes, w64}
use Rattle.tw_world.specs.Disk.{DiskModel, Tells, IsStable, LeavesOnly, overwritten}
use Rattle.tw_journal.specs.Record.{rows, IsRecordLength, IsTail}
use Rattle.tw_journal.specs.Form.{Records, version_of, version_in, ended_selector}
use Rattle.tw_journal.specs.Open.{IsFormOf}
use Rattle.tw_journal.specs.Checkpoint.{record_with, extended, IsSameBeside, IsReplacing}
use Rattle.tw_journal.specs.Journal.{IsAtRest, IsOpenOn, OnRecords, can_checkpoint}
use Rattle.tw_journal.specs.declared.form.Form.{Form}
use Rattle.tw_journal.specs.declared.journal.Journal.{Journal}

-- where the record is put that replaces a row which ends here: after a closed gate, and not before 29
abbrev pub upgrade_offset : ℕ → ℕ
upgrade_offset end = max (end + 1) 29

-- a file that is long enough, with the record and its offset there
abbrev pub set_apart : ℕ → (body file : List ℕ) → List ℕ
set_apart at body file = overwritten at (record_with body (to_be_bytes w64 at)) (extended (at + length body + 13) file)

-- a file whose record apart counts
abbrev pub marked : List ℕ → List ℕ
marked file = overwritten 0 (4 ∷ []) file

-- a file whose slots hold an offset and 0
abbrev pub slotted : ℕ → List ℕ → List ℕ
slotted at file = overwritten 13 (to_be_bytes w64 at ++ to_be_bytes w64 0) file

-- a file of another version
abbrev pub with_version : ℕ → List ℕ → List ℕ
with_version version file = overwritten 12 (version ∷ []) file

-- a file of that version whose slots count
abbrev pub ended : (version at : ℕ) → List ℕ → List ℕ
ended version at file = overwritten 0 (2 ∷ []) (with_version version (slotted at file))

-- what a crash leaves while a file becomes that
abbrev pub IsEnding : (version at : ℕ) → List ℕ → List ℕ → Type 0
IsEnding version at file c = IsSameBeside 13 29 file c ⊎ ((c ≡ with_version version (slotted at file)) ⊎ (c ≡ ended version at file))

-- the form of a file whose upgrade went on to its end
abbrev pub ended_form : ℕ → Form → Form
ended_form version form = record {
  selector = ended_selector form.selector;
  start = form.start;
  version = if nat_eq form.selector 4 then version else form.version;
}

-- a file of this form has these records up to an offset, and then nothing or a closed gate
pub record HasRow (magic file : List ℕ) (form : Form) (end : ℕ) (bodies : List (List ℕ)) : Type 0 where
  pub form_is : IsFormOf magic file (Some form)
  pub split : drop form.start file ≡ rows bodies ++ drop end file
  pub lengths : All IsRecordLength bodies
  pub ends : end ≡ form.start + length (rows bodies)
  pub closed : IsTail (drop end file)

-- whichever records a stable disk of this form has, if the magic is of this version, this holds of them
abbrev pub OnRow : {D : Type 0} → DiskModel D → D → (version : ℕ) → Form → (end : ℕ) → (List ℕ → List (List ℕ) → Type 0) → Type 0
OnRow m disk version form end P = (magic : List ℕ) (bodies : List (List ℕ)) → Tells m disk → IsStable m disk
    → version_of magic ≡ version → HasRow magic (m.seen disk) form end bodies → P magic bodies

-- the same of what a file becomes whose upgrade goes on to its end
pub record IsEnded {D : Type 0} (m : DiskModel D) (magic : List ℕ) (form : Form) (end : ℕ) (before after : D) (bodies : List (List ℕ)) : Type 0 where
  pub row : HasRow magic (m.seen after) form end bodies
  pub settled : IsStable m after
  pub long : length (m.seen after) ≡ length (m.seen before)

-- a file has these records, and at most so many bytes
pub record HasAtMost (magic : List ℕ) (bodies : List (List ℕ)) (limit : ℕ) (c : List ℕ) : Type 0 where
  pub has : Records magic c bodies
  pub long : length c ≤ limit

-- of a stable file a crash leaves its records, in no more bytes
abbrev pub LeavesRow : {D : Type 0} → DiskModel D → (before after : D) → List ℕ → List (List ℕ) → Type 0
LeavesRow m before after magic bodies = LeavesOnly m before after (HasAtMost magic bodies (length (m.seen before)))

-- the file has this form, version and records, and no tail, all of it stable
pub record IsSettled {D : Type 0} (m : DiskModel D) (magic : List ℕ) (form : Form) (disk : D) (bodies : List (List ℕ)) : Type 0 where
  pub rest : IsAtRest m magic form.selector form.start disk bodies
  pub version : version_in (m.seen disk) ≡ form.version

-- the disk holds a row of the first version with these records, and the magic is of the second
pub record IsFirst {D : Type 0} (m : DiskModel D) (magic : List ℕ) (disk : D) (bodies : List (List ℕ)) : Type 0 where
  pub rest : IsAtRest m magic 1 13 disk bodies
  pub version : version_in (m.seen disk) ≡ 49
  pub second : version_of magic ≡ 50

-- the records of a row became this one alone, in a file of the next version with areas
abbrev pub IsUpgraded : {D : Type 0} → DiskModel D → (at : ℕ) (before after : D) → List ℕ → Type 0
IsUpgraded m at before after body =
    (magic : List ℕ) (bodies : List (List ℕ)) → IsFirst m magic before bodies
    → IsSettled m magic (record { selector = 2; start = at; version = 50 }) after (body ∷ [])

-- of a row a crash leaves the records from before or this one alone, and at most so many bytes
abbrev pub LeavesUpgrading : {D : Type 0} → DiskModel D → (limit : ℕ) (before after : D) → List ℕ → Type 0
LeavesUpgrading m limit before after body =
    (magic : List ℕ) (bodies : List (List ℕ)) → IsFirst m magic before bodies → LeavesOnly m before after (IsReplacing magic limit bodies body)

-- the records of a journal after its upgrade: a row becomes one record, those of a file with areas stay
abbrev pub upgraded : Journal → List (List ℕ) → List ℕ → List (List ℕ)
upgraded journal bodies body = if can_checkpoint journal then bodies else body ∷ []

-- what a crash of an upgrade leaves of a row: its records or this one alone
abbrev pub LeavesRowOrOne : Journal → List ℕ → List (List ℕ) → List ℕ → List ℕ → Type 0
LeavesRowOrOne journal magic bodies body = IsReplacing magic (journal.end + (length body + 29)) bodies body

-- how many bytes the record has that an upgrade writes
abbrev pub upgrade_size : Journal → List ℕ → ℕ
upgrade_size journal body = if can_checkpoint journal then 0 else length body + 5

-- whichever records the journal is open on by a magic of the second version, this holds of them
abbrev pub OnSecond : {D : Type 0} → DiskModel D → Journal → D → (List ℕ → List (List ℕ) → Type 0) → Type 0
OnSecond m journal disk P = OnRecords m journal disk (λ magic bodies. version_of magic ≡ 50 → P magic bodies)

-- whichever these are, the journal is open on what became of them, or a crash of the call leaves only files of which this holds
abbrev pub SecondBecome : {D : Type 0} → DiskModel D → (old new : Journal) (before after : D) → (List (List ℕ) → List (List ℕ)) → Type 0
SecondBecome m old new before after change = OnSecond m old before (λ magic bodies. IsOpenOn m magic new after (change bodies))

abbrev pub SecondLeave : {D : Type 0} → DiskModel D → Journal → (before after : D) → (List ℕ → List (List ℕ) → List ℕ → Type 0) → Type 0
SecondLeave m journal before after P = OnSecond m journal before (λ magic bodies. LeavesOnly m before after (P magic bodies))

-- whichever records the journal is open on by this magic, this holds of them
abbrev pub OnOpen : {D : Type 0} → DiskModel D → (magic : List ℕ) → Journal → D → (List (List ℕ) → Type 0) → Type 0
OnOpen m magic journal disk P = (bodies : List (List ℕ)) → IsOpenOn m magic journal disk bodies → P bodies

-- whichever these are, the journal is open on what became of them, or a crash of the call leaves only files of which this holds
abbrev pub OpenBecome : {D : Type 0} → DiskModel D → (magic : List ℕ) (old new : Journal) (before after : D) → (List (List ℕ) → List (List ℕ)) → Type 0
OpenBecome m magic old new before after change = OnOpen m magic old before (λ bodies. IsOpenOn m magic new after (change bodies))

abbrev pub OpenLeave : {D : Type 0} → DiskModel D → (magic : List ℕ) → Journal → (before after : D) → (List (List ℕ) → List ℕ → Type 0) → Type 0
OpenLeave m magic journal before after P = OnOpen m magic journal before (λ bodies. LeavesOnly m before after (P bodies))

-- a file has these records, or those
abbrev pub RecordsOrThose : List ℕ → (bodies those : List (List ℕ)) → List ℕ → Type 0
RecordsOrThose magic bodies those file = Records magic file bodies ⊎ Records magic file those
