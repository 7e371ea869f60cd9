-- The month files of a folder, as they are read one after another.
use Rattle.std.proofs.Common.{true, ◌≡◌, ℕ, zero, suc, ◌+◌, ◌<◌, List, [], ◌∷◌, ◌++◌, map, length, take, get_or, refl, sym, ap, subst, ◌∙◌, arith}
use Rattle.std.proofs.lemmas.List.{take_more, map-append}
use Rattle.std.proofs.lemmas.List.Concat.{flat_map-cons}
use Rattle.std.specs.List.{AllByRecursion}
use Rattle.tw_world.specs.Folder.{Files, FolderModel}
use Rattle.tw_world.specs.Crash.{Tells, Reads}
use Rattle.timew_month.specs.declared.months.MonthFile.{MonthFile}
use Rattle.timew_month.specs.Gathered.{NamedBytes, file_of, files_of, months_in, lines_in}
use Rattle.timew_month.specs.Files.{bytes_of}
use Rattle.timew_month.specs.NamedFiles.{are_named}
use Rattle.timew_month.specs.Month.{lines}
use Rattle.timew_month.specs.Rows.{Found, found_from, found_in, month_names, judged, rows_of}

abbrev pub named_bytes : Files → List (List ℕ) → List NamedBytes
named_bytes files names = map (λ name. (name, bytes_of files name)) names

pub all_here : {A : Type 0} (P : A → Type 0) (xs : List A) (i : ℕ) (x : A) → AllByRecursion P xs → i < length xs → x ≡ get_or xs i x → P x
all_here P [] i x all lt is = absurd (omega (arith, lt))
all_here P (y ∷ xs) zero x all lt is = subst P (sym is) all.0
all_here P (y ∷ xs) (suc i) x all lt is = all_here P xs i x all.1 (omega (arith, lt)) is

-- what the loop knows
pub record AreReadTo {F : Type 0} (m : FolderModel F) (first now : F) (names : List (List ℕ)) (files : List MonthFile) (i : ℕ) : Type 0 where
  pub reads : Reads m first now
  pub files_are : Tells m first → files_of files ≡ named_bytes (m.seen first) (take i names)
  pub named : are_named files ≡ true

pub one_file_read : (files : Files) (names : List (List ℕ)) (i : ℕ) (name : List ℕ) (had : List MonthFile) (file : MonthFile) → i < length names → name ≡ get_or names i name → files_of had ≡ named_bytes files (take i names)
    → file_of file ≡ (name, bytes_of files name) → files_of (had ++ file ∷ []) ≡ named_bytes files (take (i + 1) names)
one_file_read files names i name had file lt is so_far here =
    map-append file_of had (file ∷ [])
    ∙ ap (λ (l : List NamedBytes). l ++ file_of file ∷ []) so_far
    ∙ ap (λ (f : NamedBytes). named_bytes files (take i names) ++ f ∷ []) here
    ∙ sym (map-append (λ (n : List ℕ). (n, bytes_of files n)) (take i names) (name ∷ []))
    ∙ ap (named_bytes files) (ap (λ (n : List ℕ). take i names ++ n ∷ []) is ∙ sym (take_more names i name lt))

-- ---- their lines

lines_among : (files : Files) (names : List (List ℕ)) → lines_in (named_bytes files names) ≡ found_in files names
lines_among files [] = refl
lines_among files (n ∷ names) =
    flat_map-cons (λ (f : NamedBytes). found_from f.0 1 (lines f.1)) (n, bytes_of files n) (named_bytes files names)
    ∙ ap (λ (l : List Found). found_from n 1 (lines (bytes_of files n)) ++ l) (lines_among files names)
    ∙ sym (flat_map-cons (λ (name : List ℕ). found_from name 1 (lines (bytes_of files name))) n names)

pub judged_files : (files : Files) (kept : List MonthFile) → files_of kept ≡ months_in files → judged (lines_in (files_of kept)) ≡ rows_of files
judged_files files kept are = ap (λ (l : List NamedBytes). judged (lines_in l)) are ∙ ap judged (lines_among files (month_names files))
