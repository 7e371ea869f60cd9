-- Intervals that do not overlap the one that is placed stay whole.
use Rattle.std.specs.Prelude.{cond, if◌then◌else◌}
use Rattle.std.proofs.Common.{◌≡◌, ℕ, Bool, true, false, List, [], ◌∷◌, ◌++◌, Option, Some, None, refl, ap, ◌∙◌}
use Rattle.std.specs.List.{flat_map}
use Rattle.timew_interval.specs.declared.interval.Interval.{Interval}
use Rattle.timew_interval.specs.Interval.{overlaps}
use Rattle.timew_interval.specs.Placing.{front_of, back_of, left_outside, inserted, placed}
use Rattle.timew_cmd.specs.Numbers.{Numbered, rows_in}
use Rattle.timew_cmd.specs.Placing.{later_of, overlapped}

none_later : (o p : Option ℕ) → later_of o p ≡ None → (o ≡ None) × (p ≡ None)
none_later None p is = (refl, is)
none_later (Some id) None is = absurd (cc)
none_later (Some id) (Some other) is = absurd (cc)

free_whole : (new : Interval) (rows : Numbered) → overlapped new rows ≡ None → flat_map (left_outside new) (rows_in rows) ≡ rows_in rows
free_whole new [] is = refl
free_whole new (r ∷ rows) is =
    let parts = none_later (overlapped new rows) (if overlaps r.1 new then Some r.0 else None) is in
    by_case (overlaps r.1 new) refl parts.1 (free_whole new rows parts.0)
  where
    by_case : (b : Bool) → overlaps r.1 new ≡ b → cond b (Some r.0) None ≡ None → flat_map (left_outside new) (rows_in rows) ≡ rows_in rows → flat_map (left_outside new) (r.1 ∷ rows_in rows) ≡ r.1 ∷ rows_in rows
    by_case true here none rest = absurd (cc)
    by_case false here none rest = ap (λ (b : Bool). cond b (front_of new.start r.1 ++ back_of new.end r.1) (r.1 ∷ []) ++ flat_map (left_outside new) (rows_in rows)) here ∙ ap (λ (l : List Interval). r.1 ∷ l) rest

-- where none overlaps it, an interval is placed by putting it among the others
pub placed_free : (new : Interval) (rows : Numbered) → overlapped new rows ≡ None → placed new (rows_in rows) ≡ inserted new (rows_in rows)
placed_free new rows is = ap (inserted new) (free_whole new rows is)
