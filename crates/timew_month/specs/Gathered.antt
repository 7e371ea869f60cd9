-- The lines of month files with their intervals in order, as they are gathered.
use Rattle.std.specs.Prelude.{◌≡◌, ℕ, ◌+◌, ◌*◌, Bool, true, false, cond, not, ◌||◌, ◌==◌, nat_lt, List, [], ◌∷◌, ◌++◌, map, fold}
use Rattle.std.specs.Prelude.{Option, Some, None, is_some, Result, Err}
use Rattle.std.specs.List.{flat_map, AllByRecursion}
use Rattle.tw_world.specs.Folder.{Files}
use Rattle.timew_interval.specs.declared.interval.Interval.{Interval}
use Rattle.timew_month.specs.declared.months.MonthFile.{MonthFile}
use Rattle.timew_month.specs.declared.read.gathered.Seat.{Seat}
use Rattle.timew_month.specs.declared.read.gathered.Spot.{Spot}
use Rattle.timew_month.specs.declared.read.gathered.Gathered.{Gathered}
use Rattle.timew_month.specs.declared.read.rows.RowsError.{RowsError}
use Rattle.timew_month.specs.declared.read.rows.RowsError.TheVariants.{BadLine, Memory}
use Rattle.timew_month.specs.Files.{bytes_of}
use Rattle.timew_interval.specs.Interval.{IsRow}
use Rattle.timew_month.specs.Month.{lines}
use Rattle.timew_interval.specs.Placing.{is_not_after}
use Rattle.timew_month.specs.Rows.{Found, Seats, found_from, month_names, seats_from, in_seats, late_from}
use Rattle.timew_month.specs.Line.{row_of}

-- ---- month files

-- a name, and the bytes under it
abbrev pub NamedBytes : Type 0
NamedBytes = List ℕ × List ℕ

abbrev pub file_of : MonthFile → NamedBytes
file_of f = (f.name, f.bytes.items)

abbrev pub files_of : List MonthFile → List NamedBytes
files_of = map file_of

-- the month files of a folder, in byte order of their names
abbrev pub months_in : Files → List NamedBytes
months_in files = map (λ name. (name, bytes_of files name)) (month_names files)

-- the lines of these files
abbrev pub lines_in : List NamedBytes → List Found
lines_in files = flat_map (λ f. found_from f.0 1 (lines f.1)) files

-- what was judged, unless memory ran out
abbrev pub RowsRefused : RowsError → Result (List Interval) (List ℕ × ℕ) → Type 0
RowsRefused (BadLine file line) judged_as = judged_as ≡ Err (file, line)
RowsRefused Memory judged_as = Unit {0}

-- ---- gathering

-- the file and the number of a line, and whether it is an interval
pub record LineSpot : Type 0 where
  pub file : List ℕ
  pub line : ℕ
  pub is_row : Bool

abbrev pub line_spot : Found → LineSpot
line_spot f = record { file = f.file; line = f.line; is_row = is_some f.row }

abbrev pub spot_of : Spot → LineSpot
spot_of s = record { file = s.file; line = s.line; is_row = s.is_row }

abbrev pub seat_of : Seat → ℕ × Interval
seat_of s = (s.index, s.row)

abbrev pub seats_of : List Seat → Seats
seats_of = map seat_of

-- a line that is not empty
abbrev pub line_found : List ℕ → ℕ → List ℕ → List Found
line_found file n [] = []
line_found file n (b ∷ line) = record { file = file; line = n; row = row_of (b ∷ line) } ∷ []

-- each is before those that follow it, or equal to them
abbrev pub AreSorted : Seats → Type 0
AreSorted [] = Unit {0}
AreSorted (s ∷ seats) = AllByRecursion (λ t. is_not_after s.1 t.1 ≡ true) seats × AreSorted seats

abbrev pub AreSeats : Seats → Type 0
AreSeats seats = AllByRecursion (λ s. IsRow s.1) seats

-- lines as they were gathered, one after another
pub record AreLines (found : List Found) (g : Gathered) : Type 0 where
  pub spots : map spot_of g.spots.items ≡ map line_spot found
  pub seats : seats_of g.seats.items ≡ seats_from 0 found
  pub are : AreSeats (seats_of g.seats.items)

-- these lines are gathered after whatever was
abbrev pub Gathers : List Found → (before after : Gathered) → Type 0
Gathers more before after = (found : List Found) → AreLines found before → AreLines (found ++ more) after

-- a number that rises in the order of start and end
abbrev pub end_rank : Option ℕ → ℕ
end_rank None = 18446744073709551615
end_rank (Some end) = end

abbrev pub rank : Interval → ℕ
rank r = r.start * 18446744073709551616 + end_rank r.end

-- what was gathered of lines, with their intervals in order
pub record IsGathered (found : List Found) (g : Gathered) : Type 0 where
  pub spots : map spot_of g.spots.items ≡ map line_spot found
  pub seats : seats_of g.seats.items ≡ in_seats (seats_from 0 found)
  pub sorted : AreSorted (seats_of g.seats.items)
  pub are : AreSeats (seats_of g.seats.items)

-- ---- judging

-- the least index
abbrev pub lesser : Option ℕ → ℕ → Option ℕ
lesser None index = Some index
lesser (Some least) index = Some (cond (nat_lt index least) index least)

abbrev pub is_at : Option ℕ → ℕ → Bool
is_at None n = false
is_at (Some index) n = index == n

-- the first line that is no interval, or has this index
abbrev pub first_spot : ℕ → Option ℕ → List LineSpot → Option (List ℕ × ℕ)
first_spot n late [] = None
first_spot n late (p ∷ spots) = cond (not p.is_row || is_at late n) (Some (p.file, p.line)) (first_spot (n + 1) late spots)

-- the first line that is no interval, or overlaps one before it in order
abbrev pub bad_spot : Gathered → Option (List ℕ × ℕ)
bad_spot g = first_spot 0 (fold lesser None (late_from [] (seats_of g.seats.items))) (map spot_of g.spots.items)
