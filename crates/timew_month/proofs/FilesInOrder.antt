-- Files that are read in order.
use Rattle.std.proofs.Common.{◌≡◌, ℕ, ◌+◌, ◌<◌, ◌≤◌, List, [], ◌∷◌, ◌++◌, length, get_or, take, map, Option, Some, None, Ok, Err, refl, sym, ap, subst, ◌∙◌}
use Rattle.std.specs.Prelude.{Result, if◌then◌else◌, IfSome, Bool, true, false}
use Rattle.std.specs.List.{AllByRecursion}
use Rattle.std.proofs.lemmas.List.{append-nil, map-append, take_more, take_all}
use Rattle.std.proofs.lemmas.List.Concat.{flat_map-append}
use Rattle.timew_interval.specs.declared.interval.Interval.{Interval}
use Rattle.timew_month.specs.declared.months.MonthFile.{MonthFile}
use Rattle.timew_interval.specs.Interval.{IsRow, in_order}
use Rattle.timew_month.specs.Line.{row_of}
use Rattle.timew_month.specs.Month.{lines, rows_from, month_rows, with_line}
use Rattle.timew_month.specs.Rows.{Found, found_from, judged}
use Rattle.timew_month.specs.Gathered.{NamedBytes, file_of, files_of, lines_in}
use Rattle.timew_month.proofs.GoodLines.{rows_found, judged_rows}
use Rattle.timew_interval.proofs.InOrder.{are_rows_in_order}

abbrev pub MonthRead : Type 0
MonthRead = Result (List Interval) ℕ

read_found : (file : List ℕ) (n : ℕ) (all : List (List ℕ)) (rows : List Interval) → rows_from n all ≡ Ok rows → rows_found (found_from file n all) ≡ map Some rows
read_found file n [] [] is = refl
read_found file n [] (r ∷ rows) is = absurd (cc)
read_found file n ([] ∷ all) rows is = read_found file (n + 1) all rows is
read_found file n ((b ∷ line) ∷ all) rows is = by_case (row_of (b ∷ line)) (rows_from (n + 1) all) refl rows is (read_found file (n + 1) all)
  where
    by_case : (o : Option Interval) (read : MonthRead) → rows_from (n + 1) all ≡ read → (rows : List Interval) → with_line n o read ≡ Ok rows
        → ((more : List Interval) → rows_from (n + 1) all ≡ Ok more → rows_found (found_from file (n + 1) all) ≡ map Some more) → o ∷ rows_found (found_from file (n + 1) all) ≡ map Some rows
    by_case None read here rows is later = absurd (cc)
    by_case (Some r) (Err line) here rows is later = absurd (cc)
    by_case (Some r) (Ok more) here [] is later = absurd (cc)
    by_case (Some r) (Ok more) here (s ∷ rows) is later = let first : r ≡ s = cc in let rest : more ≡ rows = cc in ap (λ (l : List (Option Interval)). Some r ∷ l) (later more here ∙ ap (map Some) rest) ∙ ap (λ (t : Interval). Some t ∷ map Some rows) first

pub one_file_more : (items : List MonthFile) (i : ℕ) (file : MonthFile) (all rows new : List Interval) → i < length items → file ≡ get_or items i file → month_rows file.bytes.items ≡ Ok rows → new ≡ all ++ rows
    → rows_found (lines_in (files_of (take i items))) ≡ map Some all → rows_found (lines_in (files_of (take (i + 1) items))) ≡ map Some new
one_file_more items i file all rows new lt is read more so_far =
    let here = found_from file.name 1 (lines file.bytes.items) in
    let found = λ (f : NamedBytes). found_from f.0 1 (lines f.1) in
    let taken : files_of (take (i + 1) items) ≡ files_of (take i items) ++ file_of file ∷ [] =
    ap files_of (take_more items i file lt) ∙ map-append file_of (take i items) (get_or items i file ∷ []) ∙ ap (λ (f : MonthFile). files_of (take i items) ++ file_of f ∷ []) (sym is) in
    ap (λ (l : List NamedBytes). rows_found (lines_in l)) taken
    ∙ ap rows_found (flat_map-append found (files_of (take i items)) (file_of file ∷ []))
    ∙ ap (λ (l : List Found). rows_found (lines_in (files_of (take i items)) ++ l)) (append-nil here)
    ∙ map-append (λ (f : Found). f.row) (lines_in (files_of (take i items))) here
    ∙ ap (λ (l : List (Option Interval)). l ++ rows_found here) so_far
    ∙ ap (λ (l : List (Option Interval)). map Some all ++ l) (read_found file.name 1 (lines file.bytes.items) rows read)
    ∙ sym (map-append Some all rows) ∙ ap (map Some) (sym more)

pub stand_in_order : (items : List MonthFile) (i : ℕ) (all : List Interval) (result : Option (List Interval)) → length items ≤ i → rows_found (lines_in (files_of (take i items))) ≡ map Some all → AllByRecursion IsRow all
    → result ≡ (if in_order all then Some all else None) → IfSome result (λ rows. judged (lines_in (files_of items)) ≡ Ok rows)
stand_in_order items i all result le read are is = subst (λ (o : Option (List Interval)). IfSome o (λ rows. judged (lines_in (files_of items)) ≡ Ok rows)) (sym is) (by_case (in_order all) refl)
  where
    by_case : (b : Bool) → in_order all ≡ b → IfSome (if b then Some all else None) (λ rows. judged (lines_in (files_of items)) ≡ Ok rows)
    by_case true ok = judged_rows (lines_in (files_of items)) all (ap (λ (l : List MonthFile). rows_found (lines_in (files_of l))) (sym (take_all i items le)) ∙ read) (are_rows_in_order all are ok)
    by_case false ok = tt
