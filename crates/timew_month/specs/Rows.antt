-- The intervals that a folder's month files hold.
use Rattle.std.specs.Prelude.{ℕ, ◌+◌, cond, ◌||◌, ◌==◌, List, [], ◌∷◌, ◌++◌, map, filter, fold, Option, Some, None, is_none, Result, Ok, Err}
use Rattle.std.specs.List.{flat_map, list_any}
use Rattle.std.specs.FinMap.{keys}
use Rattle.tw_world.specs.Folder.{Files}
use Rattle.timew_interval.specs.MonthName.{is_month_name}
use Rattle.timew_month.specs.Files.{bytes_of}
use Rattle.timew_interval.specs.Interval.{overlaps}
use Rattle.timew_month.specs.Line.{row_of}
use Rattle.timew_month.specs.Month.{lines}
use Rattle.timew_interval.specs.Placing.{is_not_after}
use Rattle.timew_interval.specs.declared.interval.Interval.{Interval}

-- a line that is not empty: its file, its number from 1, and its interval, if it is one
pub record Found : Type 0 where
  pub file : List ℕ
  pub line : ℕ
  pub row : Option Interval

abbrev pub found_from : List ℕ → ℕ → List (List ℕ) → List Found
found_from file n [] = []
found_from file n ([] ∷ lines) = found_from file (n + 1) lines
found_from file n ((b ∷ line) ∷ lines) = record { file = file; line = n; row = row_of (b ∷ line) } ∷ found_from file (n + 1) lines

-- the names of the month files, in byte order
abbrev pub month_names : Files → List (List ℕ)
month_names files = filter is_month_name (keys files)

-- the lines of these files
abbrev pub found_in : Files → List (List ℕ) → List Found
found_in files names = flat_map (λ name. found_from name 1 (lines (bytes_of files name))) names

-- ---- in order

-- intervals with the indexes of their lines among all
abbrev pub Seats : Type 0
Seats = List (ℕ × Interval)

abbrev pub seat : ℕ → Option Interval → Seats → Seats
seat n None seats = seats
seat n (Some r) seats = (n, r) ∷ seats

abbrev pub seats_from : ℕ → List Found → Seats
seats_from n [] = []
seats_from n (f ∷ found) = seat n f.row (seats_from (n + 1) found)

-- an interval in its order, after its equals
abbrev pub seated : ℕ × Interval → Seats → Seats
seated s [] = s ∷ []
seated s (t ∷ seats) = cond (is_not_after t.1 s.1) (t ∷ seated s seats) (s ∷ t ∷ seats)

-- in the order of start and end, and of the lines among equals
abbrev pub in_seats : Seats → Seats
in_seats seats = fold (λ had s. seated s had) [] seats

abbrev pub rows_in : Seats → List Interval
rows_in seats = map (λ s. s.1) seats

-- the indexes of those that overlap one before them in order
abbrev pub late_from : List Interval → Seats → List ℕ
late_from before [] = []
late_from before (s ∷ seats) = cond (list_any (overlaps s.1) before) (s.0 ∷ late_from (before ++ s.1 ∷ []) seats) (late_from (before ++ s.1 ∷ []) seats)

-- ---- judging

-- the first line that is none, or is among the late ones
abbrev pub first_bad : ℕ → List ℕ → List Found → Option (List ℕ × ℕ)
first_bad n late [] = None
first_bad n late (f ∷ found) = cond (is_none f.row || list_any (λ index. index == n) late) (Some (f.file, f.line)) (first_bad (n + 1) late found)

abbrev pub unless_bad : Option (List ℕ × ℕ) → List Interval → Result (List Interval) (List ℕ × ℕ)
unless_bad None rows = Ok rows
unless_bad (Some spot) rows = Err spot

abbrev pub judged : List Found → Result (List Interval) (List ℕ × ℕ)
judged found = unless_bad (first_bad 0 (late_from [] (in_seats (seats_from 0 found))) found) (rows_in (in_seats (seats_from 0 found)))

-- the intervals of the month files in order, or the file and the line of the first bad line
abbrev pub rows_of : Files → Result (List Interval) (List ℕ × ℕ)
rows_of files = judged (found_in files (month_names files))
