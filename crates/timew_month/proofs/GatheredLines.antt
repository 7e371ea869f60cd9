-- Gathering lines, one after another.
use Rattle.std.proofs.Common.{◌≡◌, ℕ, ◌+◌, ◌<◌, ◌≤◌, List, [], ◌∷◌, ◌++◌, length, Bool, Option, Some, None, refl, sym, ap, subst, ◌∙◌, append_assoc, arith, get_or, drop}
use Rattle.std.specs.Prelude.{map, IfSome}
use Rattle.std.proofs.lemmas.List.{append-nil, map-append, length-map, drop_more, drop_all}
use Rattle.std.proofs.lemmas.List.Concat.{flat_map-cons}
use Rattle.timew_interval.specs.declared.interval.Interval.{Interval}
use Rattle.timew_month.specs.declared.read.gathered.Spot.{Spot}
use Rattle.timew_month.specs.declared.read.gathered.Gathered.{Gathered}
use Rattle.timew_interval.specs.Interval.{IsRow}
use Rattle.timew_month.specs.Line.{row_of}
use Rattle.timew_month.specs.Month.{lines}
use Rattle.timew_month.specs.Rows.{Found, found_from, Seats, seat, seats_from, in_seats}
use Rattle.timew_month.specs.declared.months.MonthFile.{MonthFile}
use Rattle.timew_month.specs.Gathered.{NamedBytes, file_of, files_of, lines_in, LineSpot, line_spot, spot_of, seats_of, line_found, AreSorted, AreSeats, AreLines, IsGathered}
use Rattle.timew_month.proofs.SeatedRows.{in_sorted, in_are}

seats_more : (n : ℕ) (found : List Found) (f : Found) → seats_from n (found ++ f ∷ []) ≡ seats_from n found ++ seat (n + length found) f.row []
seats_more n [] f = ap (λ (k : ℕ). seat k f.row []) (omega arith)
seats_more n (g ∷ found) f = first g.row (seats_more (n + 1) found f ∙ ap (λ (k : ℕ). seats_from (n + 1) found ++ seat k f.row []) (omega arith))
  where
    first : (o : Option Interval) → seats_from (n + 1) (found ++ f ∷ []) ≡ seats_from (n + 1) found ++ seat (n + length (g ∷ found)) f.row []
        → seat n o (seats_from (n + 1) (found ++ f ∷ [])) ≡ seat n o (seats_from (n + 1) found) ++ seat (n + length (g ∷ found)) f.row []
    first None later = later
    first (Some r) later = ap (λ (l : Seats). (n, r) ∷ l) later

row_are : (o : Option Interval) (n : ℕ) (seats : Seats) → IfSome o IsRow → AreSeats seats → AreSeats (seats ++ seat n o [])
row_are None n [] row are = are
row_are (Some r) n [] row are = (row, tt)
row_are o n (s ∷ seats) row are = (are.0, row_are o n seats row are.1)

-- a line that is not empty was added
pub lines_more : (found : List Found) (old new : Gathered) (spot : Spot) (f : Found) → AreLines found old → IfSome f.row IsRow → spot_of spot ≡ line_spot f
    → new.spots.items ≡ old.spots.items ++ spot ∷ [] → seats_of new.seats.items ≡ seats_of old.seats.items ++ seat (length old.spots.items) f.row [] → AreLines (found ++ f ∷ []) new
lines_more found old new spot f was row same spots seats = record {
  spots = ap (map spot_of) spots ∙ map-append spot_of old.spots.items (spot ∷ []) ∙ ap (λ (p : LineSpot). map spot_of old.spots.items ++ p ∷ []) same ∙ ap (λ (l : List LineSpot). l ++ line_spot f ∷ []) was.spots ∙ sym (map-append line_spot found (f ∷ []));
  seats = seats ∙ ap (λ (n : ℕ). seats_of old.seats.items ++ seat n f.row []) so_many ∙ ap (λ (l : Seats). l ++ seat (0 + length found) f.row []) was.seats ∙ sym (seats_more 0 found f);
  are = subst AreSeats (sym seats) (row_are f.row (length old.spots.items) (seats_of old.seats.items) row was.are);
}
  where
    so_many : length old.spots.items ≡ 0 + length found
    so_many = sym (length-map old.spots.items spot_of) ∙ ap length was.spots ∙ length-map found line_spot ∙ omega arith

-- an empty line
pub lines_none : (found : List Found) (file : List ℕ) (n : ℕ) (bytes : List ℕ) (g : Gathered) → length bytes ≡ 0 → AreLines found g → AreLines (found ++ line_found file n bytes) g
lines_none found file n [] g none is = subst (λ (l : List Found). AreLines l g) (sym (append-nil found)) is
lines_none found file n (b ∷ bytes) g none is = absurd (omega arith)

pub line_is : (file : List ℕ) (n : ℕ) (bytes : List ℕ) → (length bytes ≡ 0 → ⊥) → line_found file n bytes ≡ (let f : Found = record { file = file; line = n; row = row_of bytes } in f ∷ [])
line_is file n [] some = absurd (some refl)
line_is file n (b ∷ bytes) some = refl

pub place_is : (file name : List ℕ) (n : ℕ) (i j : Bool) → file ≡ name → i ≡ j → (let p : LineSpot = record { file = file; line = n; is_row = i } in p) ≡ record { file = name; line = n; is_row = j }
place_is file name n i j same is = ap (λ (l : List ℕ). (let p : LineSpot = record { file = l; line = n; is_row = i } in p)) same ∙ ap (λ (b : Bool). (let p : LineSpot = record { file = name; line = n; is_row = b } in p)) is

found_front : (file : List ℕ) (n : ℕ) (line : List ℕ) (more : List (List ℕ)) → found_from file n (line ∷ more) ≡ line_found file n line ++ found_from file (n + 1) more
found_front file n [] more = refl
found_front file n (b ∷ line) more = refl

pub found_goes_on : (now : List Found) (file : List ℕ) (n : ℕ) (line : List ℕ) (all more : List (List ℕ)) (total : List Found) → all ≡ line ∷ more → now ++ found_from file n all ≡ total → (now ++ line_found file n line) ++ found_from file (n + 1) more ≡ total
found_goes_on now file n line all more total is so_far =
    append_assoc now (line_found file n line) (found_from file (n + 1) more)
    ∙ ap (λ (l : List Found). now ++ l) (sym (ap (found_from file n) is ∙ found_front file n line more)) ∙ so_far

pub found_ends : (now : List Found) (file : List ℕ) (n : ℕ) (line : List ℕ) (all : List (List ℕ)) (total : List Found) → all ≡ line ∷ [] → now ++ found_from file n all ≡ total → now ++ line_found file n line ≡ total
found_ends now file n line all total is so_far = sym (append-nil (now ++ line_found file n line)) ∙ found_goes_on now file n line all [] total is so_far

pub files_go_on : (now : List Found) (items : List MonthFile) (i : ℕ) (file : MonthFile) (total : List Found) → i < length items → file ≡ get_or items i file → now ++ lines_in (files_of (drop i items)) ≡ total
    → (now ++ found_from file.name 1 (lines file.bytes.items)) ++ lines_in (files_of (drop (i + 1) items)) ≡ total
files_go_on now items i file total lt is so_far =
    append_assoc now (found_from file.name 1 (lines file.bytes.items)) (lines_in (files_of (drop (i + 1) items)))
    ∙ ap (λ (l : List Found). now ++ l) (sym (ap (λ (l : List MonthFile). lines_in (files_of l)) (drop_more items i file lt ∙ ap (λ (f : MonthFile). f ∷ drop (i + 1) items) (sym is)) ∙ flat_map-cons (λ (f : NamedBytes). found_from f.0 1 (lines f.1)) (file_of file) (files_of (drop (i + 1) items))))
    ∙ so_far

pub files_end : (now : List Found) (items : List MonthFile) (i : ℕ) (total : List Found) → length items ≤ i → now ++ lines_in (files_of (drop i items)) ≡ total → now ≡ total
files_end now items i total le so_far = sym (append-nil now) ∙ ap (λ (l : List MonthFile). now ++ lines_in (files_of l)) (sym (drop_all i items le)) ∙ so_far

-- lines that were gathered, and then their intervals put in order
pub lines_sorted : (found : List Found) (before after : Gathered) → AreLines found before → after.spots.items ≡ before.spots.items → seats_of after.seats.items ≡ in_seats (seats_of before.seats.items) → IsGathered found after
lines_sorted found before after was spots seats = record {
  spots = ap (map spot_of) spots ∙ was.spots;
  seats = seats ∙ ap in_seats was.seats;
  sorted = subst AreSorted (sym seats) (in_sorted [] (seats_of before.seats.items) tt);
  are = subst AreSeats (sym seats) (in_are [] (seats_of before.seats.items) tt was.are);
}
