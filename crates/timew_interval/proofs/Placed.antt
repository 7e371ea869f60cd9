-- A placed interval has its own seconds, all other seconds are as before, and the intervals are still in order.
use Rattle.std.specs.Prelude.{nat_lt, nat_le, ◌==◌, not}
use Rattle.std.proofs.Common.{◌≡◌, ◌⊎◌, inl, inr, ⊎_elim, ℕ, ◌<◌, ◌≤◌, Bool, true, false, cond, ◌&&◌, ◌||◌, List, [], ◌∷◌, ◌++◌, Option, Some, None, refl, sym, ap, subst, ◌∙◌, arith, append_assoc}
use Rattle.std.specs.List.{flat_map}
use Rattle.std.proofs.lemmas.List.{append-nil}
use Rattle.std.proofs.lemmas.Bool.{ltb-true, ltb-false, le-ltb}
use Rattle.std.proofs.lemmas.Bool.Decides.{nat_tests}
use Rattle.timew_interval.specs.declared.interval.Interval.{Interval}
use Rattle.timew_interval.specs.Interval.{Content, content, goes_past, has, at, overlaps, limit, IsEnd, IsRow, EndsBy, StartsFrom, IsBefore, AreRows}
use Rattle.timew_interval.specs.Placing.{spanning, front_of, back_of, left_outside, end_le, is_not_after, inserted, placed}

-- ---- seconds

pub at-append : (xs ys : List Interval) (s : ℕ) → at xs s ≡ None → at (xs ++ ys) s ≡ at ys s
at-append [] ys s none = refl
at-append (x ∷ xs) ys s none = elim (has x s) as (λ b. cond b (Some (content x)) (at xs s) ≡ None → cond b (Some (content x)) (at (xs ++ ys) s) ≡ at ys s) [
  | true ↦ λ is. absurd (cc)
  | false ↦ λ is. at-append xs ys s is
] none

at-first : (xs ys : List Interval) (s : ℕ) (c : Content) → at xs s ≡ Some c → at (xs ++ ys) s ≡ Some c
at-first [] ys s c some = absurd (cc)
at-first (x ∷ xs) ys s c some = elim (has x s) as (λ b. cond b (Some (content x)) (at xs s) ≡ Some c → cond b (Some (content x)) (at (xs ++ ys) s) ≡ Some c) [
  | true ↦ λ is. is
  | false ↦ λ is. at-first xs ys s c is
] some

-- what is left of an interval in front of a placed one, and after it
one_at : (b : Bool) (r : Interval) (s : ℕ) → at (cond b (r ∷ []) []) s ≡ cond (b && has r s) (Some (content r)) None
one_at true r s = refl
one_at false r s = refl

two_at : (a b : Bool) (x y : Interval) (s : ℕ) (c : Content) → content x ≡ c → content y ≡ c → at (cond a (x ∷ []) [] ++ cond b (y ∷ []) []) s ≡ cond ((a && has x s) || (b && has y s)) (Some c) None
two_at true true x y s c p q = grind (arith, nat_tests)
two_at true false x y s c p q = grind (arith, nat_tests)
two_at false true x y s c p q = grind (arith, nat_tests)
two_at false false x y s c p q = refl

chosen : (o p q t : Bool) (c : Content) → cond o p q ≡ t → cond o (cond p (Some c) None) (cond q (Some c) None) ≡ cond t (Some c) None
chosen true p q t c e = ap (λ b. cond b (Some c) None) e
chosen false p q t c e = ap (λ b. cond b (Some c) None) e

at_choice : (o : Bool) (xs ys : List Interval) (s : ℕ) → at (cond o xs ys) s ≡ cond o (at xs s) (at ys s)
at_choice true xs ys s = refl
at_choice false xs ys s = refl

-- which seconds are left outside an interval that ends, and one that does not
ended : (ns e rs s : ℕ) (re : Option ℕ)
    → cond (goes_past re ns && nat_lt rs e) ((nat_lt rs ns && (nat_le rs s && nat_lt s ns)) || (goes_past re e && (nat_le e s && goes_past re s))) (nat_le rs s && goes_past re s)
    ≡ (not (nat_le ns s && nat_lt s e) && (nat_le rs s && goes_past re s))
ended ns e rs s None = grind (arith, nat_tests)
ended ns e rs s (Some d) = grind (arith, nat_tests)

open_ended : (ns rs s : ℕ) (re : Option ℕ)
    → cond (goes_past re ns && true) (nat_lt rs ns && (nat_le rs s && nat_lt s ns)) (nat_le rs s && goes_past re s)
    ≡ (not (nat_le ns s && true) && (nat_le rs s && goes_past re s))
open_ended ns rs s None = grind (arith, nat_tests)
open_ended ns rs s (Some d) = grind (arith, nat_tests)

left_of : (ns : ℕ) (ne : Option ℕ) (r : Interval) (s : ℕ) → at (cond (goes_past r.end ns && goes_past ne r.start) (front_of ns r ++ back_of ne r) (r ∷ [])) s ≡ cond (not (nat_le ns s && goes_past ne s) && has r s) (Some (content r)) None
left_of ns None r s =
    at_choice (goes_past r.end ns && true) (front_of ns r ++ []) (r ∷ []) s
    ∙ ap (λ (o : Option Content). cond (goes_past r.end ns && true) o (cond (has r s) (Some (content r)) None)) (ap (λ (l : List Interval). at l s) (append-nil (front_of ns r)) ∙ one_at (nat_lt r.start ns) (spanning r.start (Some ns) r) s)
    ∙ chosen (goes_past r.end ns && true) _ _ _ (content r) (open_ended ns r.start s r.end)
left_of ns (Some e) r s =
    at_choice (goes_past r.end ns && nat_lt r.start e) (front_of ns r ++ back_of (Some e) r) (r ∷ []) s
    ∙ ap (λ (o : Option Content). cond (goes_past r.end ns && nat_lt r.start e) o (cond (has r s) (Some (content r)) None)) (two_at (nat_lt r.start ns) (goes_past r.end e) (spanning r.start (Some ns) r) (spanning e r.end r) s (content r) refl refl)
    ∙ chosen (goes_past r.end ns && nat_lt r.start e) _ _ _ (content r) (ended ns e r.start s r.end)

outside : (new r : Interval) (s : ℕ) → at (left_outside new r) s ≡ cond (not (has new s) && has r s) (Some (content r)) None
outside new r s = left_of new.start new.end r s

either_at : (b h : Bool) (r : Interval) (xs rest : List Interval) (s : ℕ) → at xs s ≡ cond (not b && h) (Some (content r)) None → at (xs ++ rest) s ≡ cond b (at rest s) (cond h (Some (content r)) (at rest s))
either_at true h r xs rest s is = at-append xs rest s is
either_at false true r xs rest s is = at-first xs rest s (content r) is
either_at false false r xs rest s is = at-append xs rest s is

-- the seconds of others, outside the placed one
all_outside : (new : Interval) (rows : List Interval) (s : ℕ) → at (flat_map (left_outside new) rows) s ≡ cond (has new s) None (at rows s)
all_outside new [] s = nothing (has new s)
  where
    nothing : (b : Bool) → at [] s ≡ cond b None (at [] s)
    nothing true = refl
    nothing false = refl
all_outside new (r ∷ rows) s =
    either_at (has new s) (has r s) r (left_outside new r) (flat_map (left_outside new) rows) s (outside new r s)
    ∙ ap (λ (o : Option Content). cond (has new s) o (cond (has r s) (Some (content r)) o)) (all_outside new rows s) ∙ settled (has new s) (has r s) (Some (content r)) (at rows s)
  where
    settled : (b h : Bool) (c o : Option Content) → cond b (cond b None o) (cond h c (cond b None o)) ≡ cond b None (cond h c o)
    settled true h c o = refl
    settled false h c o = refl

rest_none : (h : Bool) (c : Content) (o : Option Content) → cond h (Some c) o ≡ None → o ≡ None
rest_none true c o is = absurd (cc)
rest_none false c o is = is

one_behind : (h n : Bool) (c d : Content) (o i : Option Content) → (n ≡ true → cond h (Some c) o ≡ None) → i ≡ cond n (Some d) o → cond h (Some c) i ≡ cond n (Some d) (cond h (Some c) o)
one_behind true true c d o i none is = let n = none refl in absurd (cc)
one_behind true false c d o i none is = refl
one_behind false n c d o i none is = is

at-inserted : (new : Interval) (rows : List Interval) (s : ℕ) → (has new s ≡ true → at rows s ≡ None) → at (inserted new rows) s ≡ cond (has new s) (Some (content new)) (at rows s)
at-inserted new [] s none = refl
at-inserted new (r ∷ rows) s none =
    let behind = one_behind (has r s) (has new s) (content r) (content new) (at rows s) (at (inserted new rows) s) none (at-inserted new rows s (λ inside. rest_none (has r s) (content r) (at rows s) (none inside))) in
    elim (is_not_after r new) as (λ b. at (cond b (r ∷ inserted new rows) (new ∷ r ∷ rows)) s ≡ cond (has new s) (Some (content new)) (cond (has r s) (Some (content r)) (at rows s))) [
      | true ↦ behind
      | false ↦ refl
    ]

-- a placed interval has its own seconds, and every other second has what it had
pub at-placed : (new : Interval) (rows : List Interval) (s : ℕ) → at (placed new rows) s ≡ cond (has new s) (Some (content new)) (at rows s)
at-placed new rows s =
    at-inserted new (flat_map (left_outside new) rows) s (λ inside. all_outside new rows s ∙ ap (λ b. cond b None (at rows s)) inside)
    ∙ ap (cond (has new s) (Some (content new))) (all_outside new rows s) ∙ same (has new s) (Some (content new)) (at rows s)
  where
    same : (b : Bool) (x y : Option Content) → cond b x (cond b None y) ≡ cond b x y
    same true x y = refl
    same false x y = refl

-- ---- order

pub true_or_false : (b : Bool) → (b ≡ true) ⊎ (b ≡ false)
true_or_false true = inl refl
true_or_false false = inr refl

-- rows after an interval start after its end
pub behind_end : (end : Option ℕ) (d : ℕ) (rows : List Interval) → end ≡ Some d → IsBefore end rows → StartsFrom d rows
behind_end end d [] is before = tt
behind_end end d (r ∷ rows) is before = let b : EndsBy (Some d) r.start = subst (λ (e : Option ℕ). EndsBy e r.start) is before in b

pub before_start : (end : Option ℕ) (d : ℕ) (rows : List Interval) → end ≡ Some d → StartsFrom d rows → IsBefore end rows
before_start end d [] is from = tt
before_start end d (r ∷ rows) is from = subst (λ (e : Option ℕ). EndsBy e r.start) (sym is) from

pub from_earlier : (t u : ℕ) (rows : List Interval) → t ≤ u → StartsFrom u rows → StartsFrom t rows
from_earlier t u [] le from = tt
from_earlier t u (r ∷ rows) le from = omega (arith, le, from)

-- if an interval that goes past a second is first, the others start after that second
pub past_start : (end : Option ℕ) (t : ℕ) (rows : List Interval) → goes_past end t ≡ true → IsBefore end rows → StartsFrom t rows
past_start end t [] past before = tt
past_start None t (r ∷ rows) past before = absurd before
past_start (Some d) t (r ∷ rows) past before = omega (arith, ltb-true t d past, before)

pub own_start : (end : Option ℕ) (start : ℕ) (rows : List Interval) → IsEnd start end → IsBefore end rows → StartsFrom start rows
own_start end start [] is before = tt
own_start None start (r ∷ rows) is before = absurd before
own_start (Some d) start (r ∷ rows) is before = omega (arith, is.0, before)

not_overlapped : (new r : Interval) → overlaps r new ≡ false → left_outside new r ≡ r ∷ []
not_overlapped new r none = ap (λ b. cond b (front_of new.start r ++ back_of new.end r) (r ∷ [])) none

-- what starts after the placed interval stays
untouched : (new : Interval) (e : ℕ) (rows : List Interval) → new.end ≡ Some e → AreRows rows → StartsFrom e rows → flat_map (left_outside new) rows ≡ rows
untouched new e [] is are from = refl
untouched new e (r ∷ rows) is are from =
    let past : goes_past new.end r.start ≡ false = ap (λ o. goes_past o r.start) is ∙ le-ltb r.start e from in
    let none : overlaps r new ≡ false = ap (λ b. goes_past r.end new.start && b) past ∙ and_false (goes_past r.end new.start) in
    ap (λ (l : List Interval). l ++ flat_map (left_outside new) rows) (not_overlapped new r none) ∙ ap (λ (l : List Interval). r ∷ l) (untouched new e rows is are.2 (from_earlier e r.start rows from (own_start r.end r.start rows are.0.end are.1)))
  where
    and_false : (b : Bool) → b && false ≡ false
    and_false true = refl
    and_false false = refl

-- intervals in order, which start from a second on
abbrev pub AreRowsFrom : ℕ → List Interval → Type 0
AreRowsFrom t rows = AreRows rows × StartsFrom t rows

inserted_behind : (new r : Interval) (rows : List Interval) → is_not_after r new ≡ true → inserted new (r ∷ rows) ≡ r ∷ inserted new rows
inserted_behind new r rows is = ap (λ b. cond b (r ∷ inserted new rows) (new ∷ r ∷ rows)) is

inserted_before : (new r : Interval) (rows : List Interval) → is_not_after r new ≡ false → inserted new (r ∷ rows) ≡ new ∷ r ∷ rows
inserted_before new r rows is = ap (λ b. cond b (r ∷ inserted new rows) (new ∷ r ∷ rows)) is

abbrev span_row : (start : ℕ) (end : Option ℕ) (r : Interval) → IsRow r → start < limit → IsEnd start end → IsRow (spanning start end r)
span_row start end r is s e = record { start = s; end = e; tags = is.tags; rise = is.rise; annotation = is.annotation }

-- if a row is before the placed one, after it
pub early_first : (r new : Interval) (d : ℕ) → r.end ≡ Some d → IsEnd r.start r.end → IsEnd new.start new.end → d ≤ new.start → is_not_after r new ≡ true
early_first r new d is own other le = first_of_two r.start r.end new.start new.end d is own other le
  where
    first_of_two : (rs : ℕ) (re : Option ℕ) (ns : ℕ) (ne : Option ℕ) (d : ℕ) → re ≡ Some d → IsEnd rs re → IsEnd ns ne → d ≤ ns → (nat_lt rs ns || ((rs == ns) && end_le re ne)) ≡ true
    first_of_two rs None ns ne d is own other le = absurd (cc)
    first_of_two rs (Some f) ns None d is own other le = let same : f ≡ d = cc in grind (arith, nat_tests)
    first_of_two rs (Some f) ns (Some e) d is own other le = let same : f ≡ d = cc in grind (arith, nat_tests)

late_last : (rs : ℕ) (re : Option ℕ) (ns : ℕ) (ne : Option ℕ) (e : ℕ) → ne ≡ Some e → IsEnd ns ne → e ≤ rs → goes_past re ns ≡ true → (nat_lt rs ns || ((rs == ns) && end_le re ne)) ≡ false
late_last rs re ns None e is other le past = absurd (cc)
late_last rs None ns (Some g) e is other le past = let same : g ≡ e = cc in grind (arith, nat_tests)
late_last rs (Some f) ns (Some g) e is other le past = let same : g ≡ e = cc in grind (arith, nat_tests)

end_in_range : (start : ℕ) (end : Option ℕ) (e : ℕ) → end ≡ Some e → IsEnd start end → e < limit
end_in_range start None e is end = absurd (cc)
end_in_range start (Some f) e is end = let same : f ≡ e = cc in omega (arith, end.1, same)

later_end : (start : ℕ) (end : Option ℕ) (e : ℕ) → IsEnd start end → goes_past end e ≡ true → IsEnd e end
later_end start None e is past = tt
later_end start (Some d) e is past = (omega (arith, ltb-true e d past), is.1)

ended_by : (end : Option ℕ) (t : ℕ) → goes_past end t ≡ false → (d : ℕ) × (end ≡ Some d) × (d ≤ t)
ended_by None t short = absurd (cc)
ended_by (Some d) t short = (d, refl, ltb-false t d short)

from_zero : (rows : List Interval) → StartsFrom 0 rows
from_zero [] = tt
from_zero (r ∷ rows) = omega arith

module _ (new : Interval) (is_row : IsRow new) where
  -- the placed interval before others that start at its end or after it
  placed_first : (e : ℕ) (r : Interval) (rows : List Interval) → new.end ≡ Some e → e ≤ r.start → goes_past r.end new.start ≡ true → AreRows (r ∷ rows) → AreRowsFrom new.start (inserted new (r ∷ rows))
  placed_first e r rows is le past are =
      subst (AreRowsFrom new.start) (sym (inserted_before new r rows (late_last r.start r.end new.start new.end e is is_row.end le past)))
      ((is_row, before_start new.end e (r ∷ rows) is le, are), omega arith)

  -- what is left in front of it
  with_front : (t : ℕ) (r : Interval) (pieces : List Interval) → IsRow r → t ≤ r.start → t ≤ new.start → AreRowsFrom new.start (inserted new pieces) → AreRowsFrom t (inserted new (front_of new.start r ++ pieces))
  with_front t r pieces is from early rest = ⊎_elim
      (λ lt. subst (λ (l : List Interval). AreRowsFrom t (inserted new (l ++ pieces))) (sym (ap (λ b. cond b (spanning r.start (Some new.start) r ∷ []) []) lt))
      (subst (AreRowsFrom t) (sym (inserted_behind new (spanning r.start (Some new.start) r) pieces (ap (λ b. b || ((r.start == new.start) && end_le (Some new.start) new.end)) lt)))
      ((span_row r.start (Some new.start) r is is.start (omega (arith, ltb-true r.start new.start lt), is_row.start), before_start (Some new.start) new.start (inserted new pieces) refl rest.1, rest.0), from)))
      (λ ge. subst (λ (l : List Interval). AreRowsFrom t (inserted new (l ++ pieces))) (sym (ap (λ b. cond b (spanning r.start (Some new.start) r ∷ []) []) ge)) (rest.0, from_earlier t new.start (inserted new pieces) early rest.1))
      (true_or_false (nat_lt r.start new.start))

  -- if it overlaps the first
  module _ (r : Interval) (rows : List Interval) (are : AreRows (r ∷ rows)) (past : goes_past r.end new.start ≡ true) (so_far : AreRowsFrom new.start (placed new rows)) where
    with_back : (end : Option ℕ) → new.end ≡ end → AreRowsFrom new.start (inserted new (back_of end r ++ flat_map (left_outside new) rows))
    with_back None is = so_far
    with_back (Some e) is = ⊎_elim
        (λ beyond. subst (λ (l : List Interval). AreRowsFrom new.start (inserted new (l ++ flat_map (left_outside new) rows))) (sym (ap (λ b. cond b (spanning e r.end r ∷ []) []) beyond))
        (subst (λ (l : List Interval). AreRowsFrom new.start (inserted new (spanning e r.end r ∷ l))) (sym (untouched new e rows is are.2 (past_start r.end e rows beyond are.1)))
        (placed_first e (spanning e r.end r) rows is (omega arith) past (span_row e r.end r are.0 (end_in_range new.start new.end e is is_row.end) (later_end r.start r.end e are.0.end beyond), are.1, are.2))))
        (λ none. subst (λ (l : List Interval). AreRowsFrom new.start (inserted new (l ++ flat_map (left_outside new) rows))) (sym (ap (λ b. cond b (spanning e r.end r ∷ []) []) none)) so_far)
        (true_or_false (goes_past r.end e))

  overlapped : (t : ℕ) (r : Interval) (rows : List Interval) → AreRowsFrom t (r ∷ rows) → t ≤ new.start → goes_past r.end new.start ≡ true → goes_past new.end r.start ≡ true → AreRowsFrom new.start (placed new rows) → AreRowsFrom t (placed new (r ∷ rows))
  overlapped t r rows are early past reaches so_far =
      let both : overlaps r new ≡ true = ap (λ b. b && goes_past new.end r.start) past ∙ reaches in
      subst (λ (l : List Interval). AreRowsFrom t (inserted new (l ++ flat_map (left_outside new) rows))) (sym (ap (λ b. cond b (front_of new.start r ++ back_of new.end r) (r ∷ [])) both))
      (subst (λ (l : List Interval). AreRowsFrom t (inserted new l)) (sym (append_assoc (front_of new.start r) (back_of new.end r) (flat_map (left_outside new) rows)))
      (with_front t r (back_of new.end r ++ flat_map (left_outside new) rows) are.0.0 are.1 early (with_back r rows are.0 past so_far new.end refl)))

  before_all : (t d : ℕ) (r : Interval) (rows : List Interval) → AreRowsFrom t (r ∷ rows) → r.end ≡ Some d → d ≤ new.start → goes_past r.end new.start ≡ false → AreRowsFrom d (placed new rows) → AreRowsFrom t (placed new (r ∷ rows))
  before_all t d r rows are is le short so_far =
      let none : overlaps r new ≡ false = ap (λ b. b && goes_past new.end r.start) short in
      subst (λ (l : List Interval). AreRowsFrom t (inserted new (l ++ flat_map (left_outside new) rows))) (sym (not_overlapped new r none))
      (subst (AreRowsFrom t) (sym (inserted_behind new r (flat_map (left_outside new) rows) (early_first r new d is are.0.0.end is_row.end le)))
      ((are.0.0, before_start r.end d (placed new rows) is so_far.1, so_far.0), are.1))

  behind_all : (t e : ℕ) (r : Interval) (rows : List Interval) → AreRowsFrom t (r ∷ rows) → t ≤ new.start → new.end ≡ Some e → e ≤ r.start → goes_past r.end new.start ≡ true → AreRowsFrom t (placed new (r ∷ rows))
  behind_all t e r rows are early is le past =
      subst (λ (l : List Interval). AreRowsFrom t (inserted new l)) (sym (untouched new e (r ∷ rows) is are.0 le))
      (let here = placed_first e r rows is le past are.0 in (here.0, from_earlier t new.start (inserted new (r ∷ rows)) early here.1))

  pub placed_from : (t : ℕ) (rows : List Interval) → AreRowsFrom t rows → t ≤ new.start → AreRowsFrom t (placed new rows)
  placed_from t [] are early = ((is_row, tt, tt), early)
  placed_from t (r ∷ rows) are early = ⊎_elim
      (λ past. ⊎_elim
      (λ reaches. overlapped t r rows are early past reaches (placed_from new.start rows (are.0.2, past_start r.end new.start rows past are.0.1) (omega arith)))
      (λ late. let e = ended_by new.end r.start late in behind_all t e.0 r rows are early e.1 e.2 past)
      (true_or_false (goes_past new.end r.start)))
      (λ short. let d = ended_by r.end new.start short in before_all t d.0 r rows are d.1 d.2 short (placed_from d.0 rows (are.0.2, behind_end r.end d.0 rows d.1 are.0.1) d.2))
      (true_or_false (goes_past r.end new.start))

  -- the intervals are still in order
  pub are_rows-placed : (rows : List Interval) → AreRows rows → AreRows (placed new rows)
  are_rows-placed rows are = (placed_from 0 rows (are, from_zero rows) (omega arith)).0
