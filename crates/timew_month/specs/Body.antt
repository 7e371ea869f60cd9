-- The journal's records of a store: which month files a change replaces, with their bytes before and after.
use Rattle.std.specs.Prelude.{◌≡◌, ℕ, zero, suc, Bool, true, ◌&&◌, ◌==◌, if◌then◌else◌, List, [], ◌∷◌, ◌++◌, length, Option, Some, None}
use Rattle.std.specs.Int.{w32, to_be_bytes}
use Rattle.std.specs.List.{flat_map, AllByRecursion}
use Rattle.std.specs.Ordering.{is_lt}
use Rattle.tw_world.specs.Folder.{bytes_cmp}
use Rattle.tw_fields.specs.Fields.{field_bytes}
use Rattle.tw_fields.specs.Reading.{number_at, bytes_at, many_at}
pub use Rattle.tw_fields.specs.Reading.{◌>>=◌}
use Rattle.timew_interval.specs.MonthName.{is_month_name}

-- what a change makes of one month file; one that is not there counts as empty
pub record FileChange : Type 0 where
  pub name : List ℕ
  pub old : List ℕ
  pub new : List ℕ

-- what a record holds
pub data Step : Type 0 where
  Change : List FileChange → Step
  Undo : List FileChange → Step

abbrev pub file_bytes : FileChange → List ℕ
file_bytes f = field_bytes f.name ++ (field_bytes f.old ++ field_bytes f.new)

abbrev pub files_bytes : List FileChange → List ℕ
files_bytes files = to_be_bytes w32 (length files) ++ flat_map file_bytes files

abbrev pub body_of : Step → List ℕ
body_of (Change files) = 1 ∷ files_bytes files
body_of (Undo files) = 2 ∷ files_bytes files

-- each file has the name of a month
abbrev pub AreMonths : List FileChange → Type 0
AreMonths files = AllByRecursion (λ f. is_month_name f.name ≡ true) files

-- the names rise in byte order, so none is there twice
abbrev pub rises_from : List ℕ → List FileChange → Bool
rises_from name [] = true
rises_from name (f ∷ files) = is_lt (bytes_cmp name f.name) && rises_from f.name files

abbrev pub names_rise : List FileChange → Bool
names_rise [] = true
names_rise (f ∷ files) = rises_from f.name files

-- ---- reading

-- a name of a month file
abbrev pub named : List ℕ → Option (List ℕ)
named name = if is_month_name name then Some name else None

unfoldable pub file_at : List ℕ → Option (FileChange × List ℕ)
file_at bytes = do
  name ← bytes_at bytes
  old ← bytes_at name.1
  new ← bytes_at old.1
  month ← named name.0
  Some (record { name = month; old = old.0; new = new.0 }, new.1)

-- so many files with rising names, which end with the bytes
unfoldable pub files_of : List ℕ → Option (List FileChange)
files_of bytes = do
  n ← number_at w32 bytes
  files ← many_at file_at n.0 n.1
  if length files.1 == 0 && names_rise files.0 then Some files.0 else None

-- the step that a body holds, all of it
unfoldable pub step_of : List ℕ → Option Step
step_of [] = None
step_of (zero ∷ rest) = None
step_of (suc zero ∷ rest) = files_of rest >>= λ files. Some (Change files)
step_of (suc (suc zero) ∷ rest) = files_of rest >>= λ files. Some (Undo files)
step_of (suc (suc (suc b)) ∷ rest) = None
