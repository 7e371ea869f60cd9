-- Intervals in order, one by one.
use Rattle.std.proofs.Common.{◌≡◌, ℕ, suc, zero, ◌+◌, ◌<◌, List, [], ◌∷◌, ◌++◌, length, get_or, take, drop, sym, ap, subst, ◌∙◌, arith}
use Rattle.std.specs.List.{AllByRecursion}
use Rattle.std.proofs.lemmas.List.{take_more}
use Rattle.timew_interval.specs.declared.interval.Interval.{Interval}
use Rattle.timew_interval.specs.Interval.{IsRow, AreRows}

pub row_at : (rows : List Interval) (i : ℕ) (x : Interval) → AreRows rows → i < length rows → x ≡ get_or rows i x → IsRow x
row_at [] i x are lt is = absurd (omega arith)
row_at (r ∷ rows) zero x are lt is = subst IsRow (sym is) are.0
row_at (r ∷ rows) (suc i) x are lt is = row_at rows i x are.2 (omega arith) is

pub are_drop : (n : ℕ) (rows : List Interval) → AreRows rows → AreRows (drop n rows)
are_drop zero rows are = are
are_drop (suc n) [] are = tt
are_drop (suc n) (r ∷ rows) are = are_drop n rows are.2

pub all_push : (P : Interval → Type 0) (rows : List Interval) (r : Interval) → AllByRecursion P rows → P r → AllByRecursion P (rows ++ r ∷ [])
all_push P [] r all here = (here, tt)
all_push P (s ∷ rows) r all here = (all.0, all_push P rows r all.1 here)

pub all_take_more : (P : Interval → Type 0) (rows : List Interval) (i : ℕ) (x : Interval) → i < length rows → x ≡ get_or rows i x → AllByRecursion P (take i rows) → P x → AllByRecursion P (take (i + 1) rows)
all_take_more P rows i x lt is all here = subst (AllByRecursion P) (sym (take_more rows i x lt ∙ ap (λ (r : Interval). take i rows ++ r ∷ []) (sym is))) (all_push P (take i rows) x all here)
