-- Edits of intervals.
use Rattle.std.proofs.Common.{◌≡◌, ℕ, ◌-◌, ◌≤◌, List, [], ◌∷◌, ◌++◌, length, take, drop, sym, ap, ◌∙◌, arith, length-drop}
use Rattle.std.proofs.lemmas.List.{drop-drop, drop-take}
use Rattle.timew_interval.specs.declared.interval.Interval.{Interval}
use Rattle.timew_interval.specs.Interval.{AreRows}
use Rattle.timew_month.specs.Known.{part}

-- ---- parts of intervals in order

pub are_back : (rows more : List Interval) → AreRows (rows ++ more) → AreRows more
are_back [] more are = are
are_back (r ∷ rows) more are = are_back rows more are.2

pub are_front : (rows more : List Interval) → AreRows (rows ++ more) → AreRows rows
are_front [] more are = tt
are_front (r ∷ []) more are = (are.0, tt, tt)
are_front (r ∷ s ∷ rows) more are = (are.0, are.1, are_front (s ∷ rows) more are.2)

-- ---- parts of the intervals that stay

pub part_rest : (rows rest : List Interval) (end n : ℕ) → n ≤ length rest → length rest ≤ end → rest ≡ part (end - length rest) (length rest) rows → drop n rest ≡ part (end - length (drop n rest)) (length (drop n rest)) rows
part_rest rows rest end n few inside is =
    let size : length (drop n rest) ≡ length rest - n = length-drop n rest in
    ap (drop n) (is ∙ ap (λ (m : ℕ). part (end - length rest) m rows) (omega arith))
    ∙ drop-take n (length rest - n) (drop (end - length rest) rows)
    ∙ ap (take (length rest - n)) (drop-drop n (end - length rest) rows ∙ ap (λ (m : ℕ). drop m rows) (omega arith))
    ∙ sym (ap (λ (m : ℕ). part (end - m) m rows) size)
