use Rattle.std.proofs.Common.{◌≡◌, ◌≤◌, ◌<◌, ◌+◌, ℕ, Bool, true, false, cond, List, [], ◌∷◌, ◌++◌, length, drop, get_or, refl, sym, ap, ◌∙◌, append_assoc, arith}
use Rattle.std.specs.Prelude.{filter}
use Rattle.std.proofs.lemmas.List.{append-nil, drop_all, drop_more}
use Rattle.std.proofs.lemmas.List.Concat.{flat_map-cons}
use Rattle.timew_interval.specs.declared.interval.Interval.{Interval}
use Rattle.timew_interval.specs.Line.{line_text}
use Rattle.timew_interval.specs.Line.{lines_text}
use Rattle.timew_interval.specs.MonthName.{is_in_month, month_text, row_text}
use Rattle.timew_interval.proofs.RowsByIndex.{row_at}
use Rattle.timew_interval.proofs.month.month_text.Goals as goal

first_row : (name : List ℕ) (r : Interval) (rows : List Interval) → month_text name (r ∷ rows) ≡ row_text name r ++ month_text name rows
first_row name r rows = by_case (is_in_month name r)
  where
    by_case : (b : Bool) → lines_text (cond b (r ∷ filter (is_in_month name) rows) (filter (is_in_month name) rows)) ≡ cond b (line_text r ++ 10 ∷ []) [] ++ month_text name rows
    by_case true = flat_map-cons (λ (r : Interval). line_text r ++ 10 ∷ []) r (filter (is_in_month name) rows)
    by_case false = refl

one_more : (name : List ℕ) (rows : List Interval) (i : ℕ) (row : Interval) (out new total : List ℕ) → i < length rows → row ≡ get_or rows i row → new ≡ out ++ row_text name row → out ++ month_text name (drop i rows) ≡ total → new ++ month_text name (drop (i + 1) rows) ≡ total
one_more name rows i row out new total lt is more so_far =
    ap (λ (l : List ℕ). l ++ month_text name (drop (i + 1) rows)) more
    ∙ append_assoc out (row_text name row) (month_text name (drop (i + 1) rows))
    ∙ ap (λ (l : List ℕ). out ++ l) (sym (first_row name row (drop (i + 1) rows)))
    ∙ ap (λ (l : List Interval). out ++ month_text name l) (ap (λ (r : Interval). r ∷ drop (i + 1) rows) is ∙ sym (drop_more rows i row lt))
    ∙ so_far

at_end : (name : List ℕ) (rows : List Interval) (i : ℕ) (out total : List ℕ) → length rows ≤ i → out ++ month_text name (drop i rows) ≡ total → out ≡ total
at_end name rows i out total le so_far = sym (append-nil out) ∙ ap (λ (l : List Interval). out ++ month_text name l) (sym (drop_all i rows le)) ∙ so_far

pub put_row_of-requires : goal.put_row_of-requires
put_row_of-requires c = row_at c.args.rows.now c.loop-row.row-index c.row-item.result c.requires (omega arith) c.row-item.is

pub loop-row-preserved : goal.loop-row-preserved
loop-row-preserved c = one_more c.args.name.now c.args.rows.now c.loop-row.row-index c.row-item.result c.loop-row.out.items _ _ (omega arith) c.row-item.is c.in_ok-put_row_of.ensures c.loop-row.invariant

pub returns : goal.returns
returns c = at_end c.args.name.now c.args.rows.now c.loop-row.row-index c.loop-row.out.items _ (omega arith) c.loop-row.invariant
