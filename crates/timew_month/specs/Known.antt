-- Month files that are known to be the text of some of the intervals.
use Rattle.std.specs.Prelude.{◌≡◌, ℕ, ◌+◌, ◌<◌, ◌≤◌, true, List, [], ◌∷◌, length, take, drop, slice_index_or}
use Rattle.std.specs.List.{AllByRecursion}
use Rattle.timew_interval.specs.declared.interval.Interval.{Interval}
use Rattle.timew_month.specs.declared.months.MonthFile.{MonthFile}
use Rattle.timew_month.specs.declared.months.KnownText.{KnownText}
use Rattle.tw_world.specs.Folder.{same_bytes}
use Rattle.timew_month.specs.Exact.{IsText}
use Rattle.timew_interval.specs.Line.{lines_text}
use Rattle.timew_interval.specs.MonthName.{month_name}
use Rattle.timew_interval.specs.ReadBack.{IsWritable}

-- so many intervals, from one on
abbrev pub part : ℕ → ℕ → List Interval → List Interval
part first count rows = take count (drop first rows)

-- the file with a number is the text of a part of the intervals
pub record IsKnown (files : List MonthFile) (rows : List Interval) (k : KnownText) : Type 0 where
  pub inside : k.first + k.count ≤ length rows
  pub text : (f : MonthFile) → k.file < length files → f ≡ slice_index_or files k.file f → IsText f.bytes.items (part k.first k.count rows)

abbrev pub AreKnown : List MonthFile → List Interval → List KnownText → Type 0
AreKnown files rows known = AllByRecursion (IsKnown files rows) known

-- the file with a number, if there is one, has these bytes
abbrev pub HasBytes : List MonthFile → ℕ → (bytes : List ℕ) → Type 0
HasBytes files number bytes = (f : MonthFile) → f ≡ slice_index_or files number f → f.bytes.items ≡ bytes

-- what was known of files stays so with the intervals of one more
abbrev pub StayKnown : ℕ → (bytes : List ℕ) → (rows0 rows1 : List Interval) → (known0 known1 : List KnownText) → Type 0
StayKnown n bytes rows0 rows1 known0 known1 = (files : List MonthFile) → HasBytes files n bytes → AreKnown files rows0 known0 → AreKnown files rows1 known1

-- ---- months

-- an interval starts in the month of a file
abbrev pub IsOfMonth : List ℕ → Interval → Type 0
IsOfMonth name r = same_bytes (month_name r.start) name ≡ true

-- the text of intervals that start in one month, each of which is read back
pub record IsMonthOf (name bytes : List ℕ) (rows : List Interval) : Type 0 where
  pub of : AllByRecursion (IsOfMonth name) rows
  pub text : bytes ≡ lines_text rows
  pub writable : AllByRecursion IsWritable rows

-- the name of the month file of the first one
abbrev pub first_name : List Interval → List ℕ
first_name [] = []
first_name (r ∷ rows) = month_name r.start
