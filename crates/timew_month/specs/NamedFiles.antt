-- Month files in memory, each with its name, and what a change makes of them.
use Rattle.std.specs.Prelude.{◌≡◌, ℕ, Bool, cond, List, [], ◌∷◌, ◌++◌, map, fold, Option, Some, None}
use Rattle.std.specs.List.{list_all}
use Rattle.std.specs.FinMap.Entries.{by_order}
use Rattle.tw_world.specs.Folder.{Files, bytes_cmp, same_bytes, add_name}
use Rattle.timew_interval.specs.declared.interval.Interval.{Interval}
use Rattle.timew_month.specs.declared.months.MonthFile.{MonthFile}
use Rattle.timew_month.specs.Body.{FileChange}
use Rattle.timew_interval.specs.MonthName.{is_month_name, month_name}
use Rattle.timew_month.specs.Gathered.{NamedBytes, file_of, files_of, months_in}
use Rattle.timew_month.specs.Changes.{file_change, changes_to}

-- the bytes under a name; if there is no file of that name, there are none
abbrev pub bytes_in : List NamedBytes → List ℕ → List ℕ
bytes_in [] name = []
bytes_in (f ∷ files) name = cond (same_bytes f.0 name) f.1 (bytes_in files name)

-- all bytes under a name
abbrev pub text_in : List NamedBytes → List ℕ → List ℕ
text_in [] name = []
text_in (f ∷ files) name = cond (same_bytes f.0 name) f.1 [] ++ text_in files name

abbrev pub names_in : List NamedBytes → List (List ℕ)
names_in files = map (λ f. f.0) files

-- names with those of files, in byte order
abbrev pub with_names : List NamedBytes → List (List ℕ) → List (List ℕ)
with_names files names = fold (λ had f. add_name f.0 had) names files

-- names with those of the months of intervals
abbrev pub with_months : List Interval → List (List ℕ) → List (List ℕ)
with_months rows names = fold (λ had r. add_name (month_name r.start) had) names rows

-- what becomes of one file, if its text differs
abbrev pub one_change : List NamedBytes → List NamedBytes → List ℕ → List FileChange
one_change files months name = file_change name (bytes_in files name) (text_in months name)

-- these changes make month files of these intervals, in any folder that has these files
abbrev pub AreChangesTo : List MonthFile → List Interval → List FileChange → Type 0
AreChangesTo files rows changes = (folder : Files) → files_of files ≡ months_in folder → changes ≡ changes_to folder rows

-- the first file of a change that does not have the bytes that the change left
abbrev pub first_edited_in : List NamedBytes → List FileChange → Option (List ℕ)
first_edited_in files [] = None
first_edited_in files (f ∷ changes) = cond (same_bytes (bytes_in files f.name) f.new) (first_edited_in files changes) (Some f.name)

-- ---- the files after a change

-- each has the name of a month
abbrev pub are_named : List MonthFile → Bool
are_named files = list_all (λ f. is_month_name f.name) files

-- the bytes under a name, if there were these before
abbrev pub bytes_after : List FileChange → List ℕ → List ℕ → List ℕ
bytes_after changes name before = fold (λ had f. cond (same_bytes name f.name) f.new had) before changes

-- the names of the files that were there or are changed, in byte order
abbrev pub names_after : List NamedBytes → List FileChange → List (List ℕ)
names_after files changes = fold (λ had f. add_name f.name had) (names_in files) changes

-- the file of a name
abbrev pub file_after : List NamedBytes → List FileChange → List ℕ → NamedBytes
file_after files changes name = (name, bytes_after changes name (bytes_in files name))

abbrev pub files_after : List NamedBytes → List FileChange → List NamedBytes
files_after files changes = map (λ name. file_after files changes name) (names_after files changes)

-- the files with one more in the order of names, in the place of the one of its name
abbrev pub with_file : NamedBytes → List NamedBytes → List NamedBytes
with_file f [] = f ∷ []
with_file f (g ∷ files) = by_order (bytes_cmp f.0 g.0) (f ∷ g ∷ files) (f ∷ files) (g ∷ with_file f files)

-- the files, each with its new bytes
abbrev pub with_changes : List NamedBytes → List FileChange → List NamedBytes
with_changes files changes = fold (λ had f. with_file (f.name, f.new) had) files changes

-- the file of a name is put among files by this
abbrev pub IsPlaceOf : List ℕ → List MonthFile → (MonthFile → List MonthFile) → Type 0
IsPlaceOf name files put = (file : MonthFile) → file.name ≡ name → files_of (put file) ≡ with_file (file_of file) (files_of files)
