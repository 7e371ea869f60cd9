-- Reading one file after the other, as a loop does.
use Rattle.std.proofs.Common.{◌≡◌, ℕ, ◌-◌, ◌+◌, ◌≤◌, ◌<◌, List, [], ◌∷◌, ◌++◌, length, true, Option, Some, refl, ap, ◌∙◌, arith}
use Rattle.std.proofs.lemmas.List.{map-append}
use Rattle.tw_fields.specs.Reading.{many_at, with_front}
use Rattle.tw_fields.proofs.ReadLoop as one_by_one
use Rattle.timew_month.specs.declared.months.NewFile.{NewFile}
use Rattle.timew_month.specs.Body.{FileChange, AreMonths, file_at, names_rise}
use Rattle.timew_interval.specs.MonthName.{is_month_name}
use Rattle.timew_month.specs.Records.{change_of, changes_of}

pub goes_on : (front : List NewFile) (count i : ℕ) (bytes : List ℕ) (file : NewFile) (after : List ℕ) (total : Option (List FileChange × List ℕ)) → i < count → file_at bytes ≡ Some (change_of file, after)
    → with_front (changes_of front) (many_at file_at (count - i) bytes) ≡ total → with_front (changes_of (front ++ file ∷ [])) (many_at file_at (count - (i + 1)) after) ≡ total
goes_on front count i bytes file after total lt h so_far =
    ap (λ (fs : List FileChange). with_front fs (many_at file_at (count - (i + 1)) after)) (map-append change_of front (file ∷ [])) ∙ one_by_one.goes_on file_at (changes_of front) count i bytes (change_of file) after total lt h so_far

-- ---- what was read

pub names_more : (files : List NewFile) (file : NewFile) → AreMonths (changes_of files) → is_month_name file.name ≡ true → AreMonths (changes_of (files ++ file ∷ []))
names_more [] file are is = (is, tt)
names_more (f ∷ files) file are is = (are.0, names_more files file are.1 is)

pub short_rise : (files : List NewFile) → length files ≤ 1 → names_rise (changes_of files) ≡ true
short_rise [] few = refl
short_rise (f ∷ []) few = refl
short_rise (f ∷ g ∷ files) few = absurd (omega arith)
