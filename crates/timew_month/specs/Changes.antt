-- The month files of intervals, and what a change makes of them.
use Rattle.std.specs.Prelude.{◌≡◌, ℕ, cond, List, [], ◌∷◌, fold}
use Rattle.std.specs.List.{flat_map}
use Rattle.tw_world.specs.Folder.{Files, same_bytes, add_name}
use Rattle.timew_month.specs.Body.{FileChange}
use Rattle.timew_month.specs.Files.{bytes_of, replaced}
use Rattle.timew_month.specs.Rows.{month_names}
use Rattle.timew_interval.specs.declared.interval.Interval.{Interval}
use Rattle.timew_interval.specs.MonthName.{month_name, month_text}

-- the names of the month files that are there or get an interval, in byte order
abbrev pub all_names : Files → List Interval → List (List ℕ)
all_names files rows = fold (λ names r. add_name (month_name r.start) names) (month_names files) rows

-- what becomes of a file that is to have new bytes: nothing, if they are the old ones
abbrev pub file_change : (name old new : List ℕ) → List FileChange
file_change name old new = cond (same_bytes old new) [] (record { name = name; old = old; new = new } ∷ [])

abbrev pub month_change : Files → List Interval → List ℕ → List FileChange
month_change files rows name = file_change name (bytes_of files name) (month_text name rows)

-- what becomes of the files that are to hold these intervals
abbrev pub changes_to : Files → List Interval → List FileChange
changes_to files rows = flat_map (month_change files rows) (all_names files rows)

-- the files after that
abbrev pub changed_files : Files → List Interval → Files
changed_files files rows = replaced files (changes_to files rows)

-- then the file of a name is the text of these intervals
abbrev pub HasMonthText : Files → List Interval → List ℕ → Type 0
HasMonthText files rows name = bytes_of (changed_files files rows) name ≡ month_text name rows
