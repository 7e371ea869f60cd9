-- Gaps between intervals that are passed by.
use Rattle.std.specs.Prelude.{max, min, nat_lt, nat_le, not, is_some}
use Rattle.std.proofs.Common.{◌≡◌, ◌⊎◌, inl, inr, ℕ, ◌+◌, ◌-◌, ◌<◌, ◌≤◌, Bool, true, false, cond, ◌&&◌, List, [], ◌∷◌, ◌++◌, map, length, drop, get_or, Some, refl, sym, ap, subst, ◌∙◌, append_assoc, arith}
use Rattle.std.proofs.lemmas.Bool.{ltb-true, ltb-false, lt-leb, le-leb, lt-ltb, le-ltb, cases_lt}
use Rattle.std.proofs.lemmas.List.{map-append, drop_more}
use Rattle.std.specs.List.{AllByRecursion}
use Rattle.timew_interval.specs.declared.interval.Interval.{Interval}
use Rattle.timew_interval.specs.Interval.{content, AreRows}
use Rattle.timew_cmd.specs.Ranges.{measured}
use Rattle.timew_report.specs.declared.gaps.Stretch.{Stretch as HeldStretch}
use Rattle.timew_report.specs.Time.{at_now, is_tracked}
use Rattle.timew_report.specs.Gaps.{stretches, is_free, gaps}
use Rattle.timew_report.specs.Held.{stretch_of, IsGap, stretch_if, passed, gap_before}
use Rattle.timew_report.proofs.Stretches.{stretches_skip, stretches_block}
use Rattle.timew_report.proofs.Seconds.{none_before, none_said, drop_rows}

-- an interval has none of the seconds from where it is measured on
has_not : (now : ℕ) (r : Interval) (rows : List Interval) (s : ℕ) → measured now r ≤ s → at_now (r ∷ rows) now s ≡ at_now rows now s
has_not now r rows s le = by_start (nat_le r.start s) (nat_lt s (measured now r)) (le-ltb s (measured now r) le)
  where
    by_start : (a b : Bool) → b ≡ false → cond (a && b) (Some (content r)) (at_now rows now s) ≡ at_now rows now s
    by_start true true e = absurd (cc)
    by_start true false e = refl
    by_start false b e = refl

has_it : (now : ℕ) (r : Interval) (rows : List Interval) (s : ℕ) → r.start ≤ s → s < measured now r → is_tracked (r ∷ rows) now s ≡ true
has_it now r rows s low high =
    ap (λ b. is_some (cond (b && nat_lt s (measured now r)) (Some (content r)) (at_now rows now s))) (le-leb r.start s low)
    ∙ ap (λ b. is_some (cond b (Some (content r)) (at_now rows now s))) (lt-ltb s (measured now r) high)

-- the others are known from a second on
abbrev pub AreOthers : List Interval → (now at : ℕ) → List Interval → Type 0
AreOthers all now at rows = (s : ℕ) → at ≤ s → is_tracked all now s ≡ is_tracked rows now s

module _ (all : List Interval) (to now at : ℕ) (r : Interval) (rows : List Interval) (are : AreRows (r ∷ rows)) (others : (s : ℕ) → at ≤ s → is_tracked all now s ≡ is_tracked (r ∷ rows) now s) where
  pub others_behind : (b : Bool) → nat_lt r.start (measured now r) ≡ b → (s : ℕ) → cond b (max at (measured now r)) at ≤ s → is_tracked all now s ≡ is_tracked rows now s
  others_behind true is s le = others s (omega (arith, le)) ∙ ap is_some (has_not now r rows s (omega (arith, le)))
  others_behind false is s le = others s le ∙ by_start (cases_lt s r.start)
    where
      by_start : (s < r.start) ⊎ (r.start ≤ s) → is_tracked (r ∷ rows) now s ≡ is_tracked rows now s
      by_start (inl early) = ap (λ b. is_some (cond (b && nat_lt s (measured now r)) (Some (content r)) (at_now rows now s))) (lt-leb r.start s early)
      by_start (inr late) = ap is_some (has_not now r rows s (let h : measured now r ≤ r.start = ltb-false r.start (measured now r) is in omega (arith, h, late)))

  free_before : (s : ℕ) → at ≤ s → s < r.start → is_free all now s ≡ true
  free_before s low early = ap not (others s low ∙ none_said (at_now (r ∷ rows) now s) (none_before now s r.start (r ∷ rows) are (omega arith) early))

  taken : (s : ℕ) → at ≤ s → r.start ≤ s → s < measured now r → is_free all now s ≡ false
  taken s low from high = ap not (others s low ∙ has_it now r rows s from high)

  none_at : (x y : ℕ) → to ≤ x → to ≤ y → stretches (is_free all now) x (to - x) ≡ stretches (is_free all now) y (to - y)
  none_at x y late later =
      (let e : to - x ≡ 0 = omega (arith, late) in ap (λ n. stretches (is_free all now) x n) e)
      ∙ (let e : 0 ≡ to - y = omega (arith, later) in ap (λ n. stretches (is_free all now) y n) e)

  -- an interval with a second
  behind : (n : ℕ) → n ≡ min r.start to → at ≤ n → r.start < measured now r → stretches (is_free all now) n (to - n) ≡ stretches (is_free all now) (max at (measured now r)) (to - max at (measured now r))
  behind n n_is low more = elim (cases_lt r.start to) [
    | inl inside ↦ stretches_skip (is_free all now) n (max at (measured now r)) to (omega (arith, n_is, low, more, inside)) (λ s from high early. taken s (omega (arith, from, low)) (omega (arith, n_is, from, inside)) (omega (arith, n_is, from, low, high, inside, more)))
    | inr past ↦ none_at n (max at (measured now r)) (omega (arith, n_is, past)) (omega (arith, past, more))
  ]

  pub some_seconds : r.start < measured now r → stretches (is_free all now) at (to - at) ≡ map stretch_of (stretch_if at (min r.start to)) ++ stretches (is_free all now) (max at (measured now r)) (to - max at (measured now r))
  some_seconds more = elim (cases_lt at (min r.start to)) [
    | inl early ↦
        stretches_block (is_free all now) at (min r.start to) to early (omega arith) (λ s low high. free_before s low (omega (arith, high))) (ends early (cases_lt r.start to))
        ∙ ap (λ l. (at, min r.start to) ∷ l) (behind (min r.start to) refl (omega (arith, early)) more)
        ∙ ap (λ b. map stretch_of (cond b (record { start = at; end = min r.start to } ∷ []) []) ++ stretches (is_free all now) (max at (measured now r)) (to - max at (measured now r))) (sym (lt-ltb at (min r.start to) early))
    | inr late ↦
        not_before late
        ∙ ap (λ b. map stretch_of (cond b (record { start = at; end = min r.start to } ∷ []) []) ++ stretches (is_free all now) (max at (measured now r)) (to - max at (measured now r))) (sym (le-ltb at (min r.start to) late))
  ]
    where
      ends : at < min r.start to → (r.start < to) ⊎ (to ≤ r.start) → (to - min r.start to ≡ 0) ⊎ (is_free all now (min r.start to) ≡ false)
      ends early (inl inside) = inr (let same : r.start ≡ min r.start to = omega (arith, inside) in subst (λ x. is_free all now x ≡ false) same (taken r.start (omega (arith, early)) (omega arith) more))
      ends early (inr past) = inl (omega (arith, past))

      not_before : min r.start to ≤ at → stretches (is_free all now) at (to - at) ≡ stretches (is_free all now) (max at (measured now r)) (to - max at (measured now r))
      not_before late = elim (cases_lt at to) [
        | inl inside ↦ stretches_skip (is_free all now) at (max at (measured now r)) to (omega arith) (λ s low high early. taken s low (omega (arith, late, inside, low)) (omega (arith, low, high)))
        | inr past ↦ none_at at (max at (measured now r)) past (omega (arith, past))
      ]

  pub passes : (b : Bool) → nat_lt r.start (measured now r) ≡ b
      → stretches (is_free all now) at (to - at) ≡ map stretch_of (cond b (stretch_if at (min r.start to)) []) ++ stretches (is_free all now) (cond b (max at (measured now r)) at) (to - cond b (max at (measured now r)) at)
  passes true is = some_seconds (ltb-true r.start (measured now r) is)
  passes false is = refl

-- one interval more
pub gaps_more : (all : List Interval) (from to now at next : ℕ) (r : Interval) (rows : List Interval) (old new : List HeldStretch)
    → AreRows (r ∷ rows) → ((s : ℕ) → at ≤ s → is_tracked all now s ≡ is_tracked (r ∷ rows) now s) → next ≡ passed now at r → new ≡ old ++ gap_before to now at r
    → map stretch_of old ++ stretches (is_free all now) at (to - at) ≡ gaps all from to now
    → map stretch_of new ++ stretches (is_free all now) next (to - next) ≡ gaps all from to now
gaps_more all from to now at next r rows old new are others next_is new_is sum =
    ap (λ x. map stretch_of new ++ stretches (is_free all now) x (to - x)) next_is
    ∙ ap (λ l. map stretch_of l ++ stretches (is_free all now) (passed now at r) (to - passed now at r)) new_is
    ∙ ap (λ l. l ++ stretches (is_free all now) (passed now at r) (to - passed now at r)) (map-append stretch_of old (gap_before to now at r))
    ∙ append_assoc (map stretch_of old) (map stretch_of (gap_before to now at r)) (stretches (is_free all now) (passed now at r) (to - passed now at r))
    ∙ ap (λ l. map stretch_of old ++ l) (sym (passes all to now at r rows are others (nat_lt r.start (measured now r)) refl))
    ∙ sum

-- what is free behind all intervals
pub gaps_end : (all : List Interval) (from to now at : ℕ) (old new : List HeldStretch)
    → ((s : ℕ) → at ≤ s → is_tracked all now s ≡ is_tracked [] now s) → new ≡ old ++ stretch_if at to
    → map stretch_of old ++ stretches (is_free all now) at (to - at) ≡ gaps all from to now
    → map stretch_of new ≡ gaps all from to now
gaps_end all from to now at old new others new_is sum =
    ap (map stretch_of) new_is ∙ map-append stretch_of old (stretch_if at to) ∙ ap (λ l. map stretch_of old ++ l) (sym (last (cases_lt at to))) ∙ sum
  where
    last : (at < to) ⊎ (to ≤ at) → stretches (is_free all now) at (to - at) ≡ map stretch_of (stretch_if at to)
    last (inl some) =
        stretches_block (is_free all now) at to to some (omega arith) (λ s low high. ap not (others s low)) (inl (omega arith))
        ∙ (let e : to - to ≡ 0 = omega arith in ap (λ n. (at, to) ∷ stretches (is_free all now) to n) e)
        ∙ ap (λ b. map stretch_of (cond b (record { start = at; end = to } ∷ []) [])) (sym (lt-ltb at to some))
    last (inr late) =
        (let e : to - at ≡ 0 = omega (arith, late) in ap (λ n. stretches (is_free all now) at n) e)
        ∙ ap (λ b. map stretch_of (cond b (record { start = at; end = to } ∷ []) [])) (sym (le-ltb at to late))

-- ---- gaps are stretches with a second

all_append : {X : Type 0} (P : X → Type 0) (xs ys : List X) → AllByRecursion P xs → AllByRecursion P ys → AllByRecursion P (xs ++ ys)
all_append P [] ys p q = q
all_append P (x ∷ xs) ys p q = (p.0, all_append P xs ys p.1 q)

stretch_good : (to a b : ℕ) → b ≤ to → (t : Bool) → nat_lt a b ≡ t → AllByRecursion (IsGap to) (cond t (record { start = a; end = b } ∷ []) [])
stretch_good to a b le true is = (record { order = ltb-true a b is; inside = le }, tt)
stretch_good to a b le false is = tt

pub end_good : (to at : ℕ) (old new : List HeldStretch) → new ≡ old ++ stretch_if at to → AllByRecursion (IsGap to) old → AllByRecursion (IsGap to) new
end_good to at old new new_is good = subst (AllByRecursion (IsGap to)) (sym new_is) (all_append (IsGap to) old (stretch_if at to) good (stretch_good to at to (omega arith) (nat_lt at to) refl))

pub more_good : (to now at : ℕ) (r : Interval) (old new : List HeldStretch) → new ≡ old ++ gap_before to now at r → AllByRecursion (IsGap to) old → AllByRecursion (IsGap to) new
more_good to now at r old new new_is good = subst (AllByRecursion (IsGap to)) (sym new_is) (all_append (IsGap to) old (gap_before to now at r) good (by_case (nat_lt r.start (measured now r))))
  where
    by_case : (b : Bool) → AllByRecursion (IsGap to) (cond b (stretch_if at (min r.start to)) [])
    by_case true = stretch_good to at (min r.start to) (omega arith) (nat_lt at (min r.start to)) refl
    by_case false = tt

-- a turn of the walk over the intervals
pub gaps_step : (all : List Interval) (from to now at next i : ℕ) (r : Interval) (old new : List HeldStretch)
    → AreRows all → i < length all → r ≡ get_or all i r → ((s : ℕ) → at ≤ s → is_tracked all now s ≡ is_tracked (drop i all) now s) → next ≡ passed now at r → new ≡ old ++ gap_before to now at r
    → map stretch_of old ++ stretches (is_free all now) at (to - at) ≡ gaps all from to now → AllByRecursion (IsGap to) old
    → (map stretch_of new ++ stretches (is_free all now) next (to - next) ≡ gaps all from to now) × ((s : ℕ) → next ≤ s → is_tracked all now s ≡ is_tracked (drop (i + 1) all) now s) × AllByRecursion (IsGap to) new
gaps_step all from to now at next i r old new are lt is others next_is new_is sum good =
    let rest : drop i all ≡ r ∷ drop (i + 1) all = drop_more all i r lt ∙ ap (λ (q : Interval). q ∷ drop (i + 1) all) (sym is) in
    let these : AreRows (r ∷ drop (i + 1) all) = subst AreRows rest (drop_rows i all are) in
    let known = λ (s : ℕ) (le : at ≤ s). others s le ∙ ap (λ l. is_tracked l now s) rest in (
      gaps_more all from to now at next r (drop (i + 1) all) old new these known next_is new_is sum,
      (λ s le. others_behind all to now at r (drop (i + 1) all) these known (nat_lt r.start (measured now r)) refl s (subst (λ x. x ≤ s) next_is le)),
      more_good to now at r old new new_is good,
    )
