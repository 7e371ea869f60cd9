-- Which intervals have ended.
use Rattle.std.specs.Prelude.{is_some}
use Rattle.std.proofs.Common.{◌≡◌, true, ℕ, zero, suc, ◌+◌, ◌≤◌, List, [], ◌∷◌, take, length, get_or, Option, Some, None, refl, subst, arith}
use Rattle.std.specs.List.{AllByRecursion}
use Rattle.timew_interval.specs.declared.interval.Interval.{Interval}
use Rattle.timew_interval.specs.Interval.{AreRows, EndsBy}
use Rattle.timew_bridge.specs.Tail.{IsClosed}

ends : (e : Option ℕ) (s : ℕ) → EndsBy e s → is_some e ≡ true
ends None s by = absurd by
ends (Some e) s by = refl

-- those that are not the last one
pub front_closed : (k : ℕ) (rows : List Interval) → k + 1 ≤ length rows → AreRows rows → AllByRecursion IsClosed (take k rows)
front_closed zero rows less are = tt
front_closed (suc k) [] less are = tt
front_closed (suc k) (r ∷ []) less are = absurd (omega (arith, less))
front_closed (suc k) (r ∷ s ∷ rows) less are = (ends r.end s.start are.1, front_closed k (s ∷ rows) (omega (arith, less)) are.2)

-- all, where the last one has
pub rows_closed : (k : ℕ) (rows : List Interval) (last : Interval) → k + 1 ≡ length rows → last ≡ get_or rows k last → AreRows rows → IsClosed last → AllByRecursion IsClosed rows
rows_closed k [] last len is are closed = tt
rows_closed zero (r ∷ []) last len is are closed = (subst IsClosed is closed, tt)
rows_closed zero (r ∷ s ∷ rows) last len is are closed = absurd (omega (arith, len))
rows_closed (suc k) (r ∷ []) last len is are closed = absurd (omega (arith, len))
rows_closed (suc k) (r ∷ s ∷ rows) last len is are closed = (ends r.end s.start are.1, rows_closed k (s ∷ rows) last (omega (arith, len)) is are.2 closed)
