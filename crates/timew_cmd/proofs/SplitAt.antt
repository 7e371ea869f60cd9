-- A split leaves each second what it had, and the first part has half the length, rounded down.
use Rattle.std.specs.Prelude.{nat_le, nat_lt}
use Rattle.std.proofs.Common.{◌≡◌, ℕ, ◌+◌, ◌-◌, ◌/◌, ◌≤◌, Bool, true, false, cond, ◌&&◌, ◌||◌, List, [], ◌∷◌, ◌++◌, Option, Some, None, Ok, Err, refl, sym, ap, subst, ◌∙◌, arith}
use Rattle.std.proofs.lemmas.Bool.Decides.{nat_tests}
use Rattle.std.specs.List.{flat_map}
use Rattle.timew_interval.specs.declared.interval.Interval.{Interval}
use Rattle.timew_interval.specs.Interval.{Content, content, goes_past, has, at, IsEnd, AreRows}
use Rattle.timew_cmd.specs.declared.error.TimewError.TheVariants.{Range}
use Rattle.timew_cmd.specs.Numbers.{Numbered, numbered, is_among, rows_in}
use Rattle.timew_cmd.specs.Commands.Split.{split, some_ahead, halves, middle}
use Rattle.timew_cmd.specs.Open.{moment_or}

one_or_two : (a b c : Bool) (x : Content) (rest : Option Content) → (a || b) ≡ c → cond a (Some x) (cond b (Some x) rest) ≡ cond c (Some x) rest
one_or_two true b c x rest is = ap (λ (t : Bool). cond t (Some x) rest) is
one_or_two false b c x rest is = ap (λ (t : Bool). cond t (Some x) rest) is

seconds : (start m : ℕ) (end : Option ℕ) (s : ℕ) → start ≤ m → IsEnd m end → ((nat_le start s && nat_lt s m) || (nat_le m s && goes_past end s)) ≡ (nat_le start s && goes_past end s)
seconds start m None s low high = grind (arith, nat_tests)
seconds start m (Some e) s low high = grind (arith, nat_tests)

middle_in : (now start : ℕ) (end : Option ℕ) → IsEnd start end → IsEnd (start + (moment_or now end - start) / 2) end
middle_in now start None is = tt
middle_in now start (Some e) is = (omega (arith, is), is.1)

at-halves : (now : ℕ) (r : Interval) (rest : List Interval) (s : ℕ) → IsEnd r.start r.end → at (halves now r ++ rest) s ≡ at (r ∷ rest) s
at-halves now r rest s is = one_or_two _ _ (has r s) (content r) (at rest s) (seconds r.start (middle now r) r.end s (omega arith) (middle_in now r.start r.end is))

pub at-split : (ids : List ℕ) (now : ℕ) (rows : Numbered) (s : ℕ) → AreRows (rows_in rows) → at (flat_map (λ r. cond (is_among ids r.0) (halves now r.1) (r.1 ∷ [])) rows) s ≡ at (rows_in rows) s
at-split ids now [] s are = refl
at-split ids now (r ∷ rows) s are = by_case (is_among ids r.0) (at-split ids now rows s are.2)
  where
    by_case : (b : Bool) → at (flat_map (λ r. cond (is_among ids r.0) (halves now r.1) (r.1 ∷ [])) rows) s ≡ at (rows_in rows) s
        → at (cond b (halves now r.1) (r.1 ∷ []) ++ flat_map (λ r. cond (is_among ids r.0) (halves now r.1) (r.1 ∷ [])) rows) s ≡ at (r.1 ∷ rows_in rows) s
    by_case true rest = at-halves now r.1 (flat_map (λ r. cond (is_among ids r.0) (halves now r.1) (r.1 ∷ [])) rows) s are.0.end ∙ ap (λ (o : Option Content). cond (has r.1 s) (Some (content r.1)) o) rest
    by_case false rest = ap (λ (o : Option Content). cond (has r.1 s) (Some (content r.1)) o) rest

-- the first part of a closed interval has half the length, rounded down, and the second the rest
pub half_of : (now start end : ℕ) → start ≤ end → ((start + (moment_or now (Some end) - start) / 2) - start ≡ (end - start) / 2) × (end - (start + (moment_or now (Some end) - start) / 2) ≡ (end - start) - (end - start) / 2)
half_of now start end le = (omega arith, omega (arith, le))

rows_numbered : (rows : List Interval) → rows_in (numbered rows) ≡ rows
rows_numbered [] = refl
rows_numbered (r ∷ rows) = ap (λ (l : List Interval). r ∷ l) (rows_numbered rows)

-- after a split each second has what it had
pub split_at : (ids : List ℕ) (rows next : List Interval) (now second : ℕ) → AreRows rows → split ids rows now ≡ Ok next → at next second ≡ at rows second
split_at ids rows next now second are is = by_case (some_ahead ids rows now) is
  where
    cut : List Interval
    cut = flat_map (λ r. cond (is_among ids r.0) (halves now r.1) (r.1 ∷ [])) (numbered rows)

    by_case : (b : Bool) → cond b (Err (Range 0)) (Ok cut) ≡ Ok next → at next second ≡ at rows second
    by_case true e = absurd (cc)
    by_case false e =
        let same : cut ≡ next = cc in
        ap (λ (l : List Interval). at l second) (sym same) ∙ at-split ids now (numbered rows) second (subst AreRows (sym (rows_numbered rows)) are) ∙ ap (λ (l : List Interval). at l second) (rows_numbered rows)

-- the first part has half the length, rounded down, and the second the rest
pub odd_second : (now end : ℕ) (r : Interval) → r.end ≡ Some end → r.start ≤ end → (middle now r - r.start ≡ (end - r.start) / 2) × (end - middle now r ≡ (end - r.start) - (end - r.start) / 2)
odd_second now end r is le = subst (λ (o : Option ℕ). ((r.start + (moment_or now o - r.start) / 2) - r.start ≡ (end - r.start) / 2) × (end - (r.start + (moment_or now o - r.start) / 2) ≡ (end - r.start) - (end - r.start) / 2)) (sym is) (half_of now r.start end le)
