-- A month file.
use Rattle.std.specs.Prelude.{◌≡◌, ℕ, ◌+◌, Bool, true, false, cond, ◌==◌, List, [], ◌∷◌, ◌++◌, Option, Some, None, Result, Ok, Err}
use Rattle.timew_month.specs.Line.{row_of}
use Rattle.timew_interval.specs.declared.interval.Interval.{Interval}
use Rattle.timew_month.specs.declared.read.month.MonthError.{MonthError}
use Rattle.timew_month.specs.declared.read.month.MonthError.TheVariants.{Line, Memory}

-- a byte in front of the first line
abbrev pub on_first : ℕ → List (List ℕ) → List (List ℕ)
on_first b [] = (b ∷ []) ∷ []
on_first b (line ∷ lines) = (b ∷ line) ∷ lines

-- the lines, which are parted by newlines
abbrev pub lines : List ℕ → List (List ℕ)
lines [] = [] ∷ []
lines (b ∷ bytes) = cond (b == 10) ([] ∷ lines bytes) (on_first b (lines bytes))

-- an interval in front of those that were read
abbrev pub with_row : Interval → Result (List Interval) ℕ → Result (List Interval) ℕ
with_row r (Ok rows) = Ok (r ∷ rows)
with_row r (Err line) = Err line

abbrev pub with_line : ℕ → Option Interval → Result (List Interval) ℕ → Result (List Interval) ℕ
with_line n None rest = Err n
with_line n (Some r) rest = with_row r rest

-- the intervals of lines, the first of which has this number, or the first line that is none; empty lines are passed over
abbrev pub rows_from : ℕ → List (List ℕ) → Result (List Interval) ℕ
rows_from n [] = Ok []
rows_from n ([] ∷ lines) = rows_from (n + 1) lines
rows_from n ((b ∷ line) ∷ lines) = with_line n (row_of (b ∷ line)) (rows_from (n + 1) lines)

-- the intervals of a month file, or the number of the first line that is none
abbrev pub month_rows : List ℕ → Result (List Interval) ℕ
month_rows bytes = rows_from 1 (lines bytes)

-- the length of the first line
abbrev pub line_length : List ℕ → ℕ
line_length [] = 0
line_length (b ∷ bytes) = cond (b == 10) 0 (line_length bytes + 1)

-- what was read, unless memory ran out
abbrev pub MonthRefused : MonthError → Result (List Interval) ℕ → Type 0
MonthRefused (Line line) read = read ≡ Err line
MonthRefused Memory read = Unit {0}

-- intervals in front of those that were read
abbrev pub with_rows : List Interval → Result (List Interval) ℕ → Result (List Interval) ℕ
with_rows before (Ok rows) = Ok (before ++ rows)
with_rows before (Err line) = Err line

-- a line was taken, or it is none
abbrev pub IsTaken : Bool → List ℕ → (before after : List Interval) → Type 0
IsTaken true line before after = (n : ℕ) (more : List (List ℕ)) → with_rows before (rows_from n (line ∷ more)) ≡ with_rows after (rows_from (n + 1) more)
IsTaken false line before after = (n : ℕ) (more : List (List ℕ)) → rows_from n (line ∷ more) ≡ Err n
