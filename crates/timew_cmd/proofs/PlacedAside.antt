-- What stands before an interval that is placed, or behind it, stays.
use Rattle.std.specs.Prelude.{not, ◌&&◌, Err}
use Rattle.std.proofs.Common.{◌≡◌, ℕ, ◌+◌, ◌-◌, ◌<◌, ◌≤◌, Bool, true, false, cond, List, [], ◌∷◌, ◌++◌, length, get_or, take, drop, Option, Some, None, Result, Ok, refl, sym, ap, subst, ◌∙◌, arith, append-nil, append_assoc, length-append}
use Rattle.std.proofs.Math.Seq.{take-append_seam, drop-append-add}
use Rattle.std.proofs.lemmas.List.{take-append-drop, take-take, drop_all, drop_more}
use Rattle.std.specs.List.{flat_map}
use Rattle.std.proofs.lemmas.List.Concat.{flat_map-append}
use Rattle.timew_interval.specs.declared.interval.Interval.{Interval}
use Rattle.timew_interval.specs.Edit.{spliced}
use Rattle.timew_interval.specs.Interval.{overlaps}
use Rattle.timew_interval.specs.Placing.{front_of, back_of, left_outside, is_not_after, inserted, placed}
use Rattle.timew_cmd.specs.declared.error.TimewError.{TimewError}
use Rattle.timew_cmd.specs.declared.error.TimewError.TheVariants as plan
use Rattle.timew_cmd.specs.Placing.{stands_before, stands_behind, AllBefore, AllBehind, overlapped, later_of, unless_overlapped, place}
use Rattle.timew_cmd.specs.Numbers.{numbered, without, rows_in}
use Rattle.timew_cmd.specs.Planned.{Fails}
use Rattle.timew_cmd.proofs.AllRows.{all_rows}
use Rattle.timew_interval.proofs.RowsByIndex.{all_take_more}

-- the two tests of one on a side
both : (a b : Bool) → (not a && b) ≡ true → (a ≡ false) × (b ≡ true)
both true b is = absurd (cc)
both false b is = (refl, is)

not_so : (b : Bool) → not b ≡ true → b ≡ false
not_so true is = absurd (cc)
not_so false is = refl

-- ---- before

outside_before : (new : Interval) (front rows : List Interval) → AllBefore new front → flat_map (left_outside new) (front ++ rows) ≡ front ++ flat_map (left_outside new) rows
outside_before new [] rows all = refl
outside_before new (r ∷ front) rows all =
    ap (λ (b : Bool). cond b (front_of new.start r ++ back_of new.end r) (r ∷ []) ++ flat_map (left_outside new) (front ++ rows)) (both (overlaps r new) (is_not_after r new) all.0).0
    ∙ ap (λ (l : List Interval). r ∷ l) (outside_before new front rows all.1)

inserted_before : (new : Interval) (front rows : List Interval) → AllBefore new front → inserted new (front ++ rows) ≡ front ++ inserted new rows
inserted_before new [] rows all = refl
inserted_before new (r ∷ front) rows all =
    ap (λ (b : Bool). cond b (r ∷ inserted new (front ++ rows)) (new ∷ r ∷ front ++ rows)) (both (overlaps r new) (is_not_after r new) all.0).1
    ∙ ap (λ (l : List Interval). r ∷ l) (inserted_before new front rows all.1)

placed_before : (new : Interval) (front rows : List Interval) → AllBefore new front → placed new (front ++ rows) ≡ front ++ placed new rows
placed_before new front rows all = ap (inserted new) (outside_before new front rows all) ∙ inserted_before new front (flat_map (left_outside new) rows) all

-- ---- behind

outside_behind : (new : Interval) (back : List Interval) → AllBehind new back → flat_map (left_outside new) back ≡ back
outside_behind new [] all = refl
outside_behind new (r ∷ back) all =
    ap (λ (b : Bool). cond b (front_of new.start r ++ back_of new.end r) (r ∷ []) ++ flat_map (left_outside new) back) (both (overlaps r new) (not (is_not_after r new)) all.0).0
    ∙ ap (λ (l : List Interval). r ∷ l) (outside_behind new back all.1)

inserted_behind : (new : Interval) (rows back : List Interval) → AllBehind new back → inserted new (rows ++ back) ≡ inserted new rows ++ back
inserted_behind new [] [] all = refl
inserted_behind new [] (r ∷ back) all = ap (λ (b : Bool). cond b (r ∷ inserted new back) (new ∷ r ∷ back)) (not_so (is_not_after r new) (both (overlaps r new) (not (is_not_after r new)) all.0).1)
inserted_behind new (r ∷ rows) back all = by_case (is_not_after r new) (inserted_behind new rows back all)
  where
    by_case : (b : Bool) → inserted new (rows ++ back) ≡ inserted new rows ++ back → cond b (r ∷ inserted new (rows ++ back)) (new ∷ r ∷ rows ++ back) ≡ cond b (r ∷ inserted new rows) (new ∷ r ∷ rows) ++ back
    by_case true is = ap (λ (l : List Interval). r ∷ l) is
    by_case false is = refl

placed_behind : (new : Interval) (rows back : List Interval) → AllBehind new back → placed new (rows ++ back) ≡ placed new rows ++ back
placed_behind new rows back all =
    ap (inserted new) (flat_map-append (left_outside new) rows back ∙ ap (λ (l : List Interval). flat_map (left_outside new) rows ++ l) (outside_behind new back all))
    ∙ inserted_behind new (flat_map (left_outside new) rows) back all

-- ---- one row more on a side

pub before_more : (new : Interval) (rows : List Interval) (count : ℕ) (r : Interval) → count < length rows → r ≡ get_or rows count r → stands_before new r ≡ true → AllBefore new (take count rows) → AllBefore new (take (count + 1) rows)
before_more new rows count r less here test all = all_take_more (λ (x : Interval). stands_before new x ≡ true) rows count r less here all test

pub behind_more : (new : Interval) (rows : List Interval) (at : ℕ) (r : Interval) → 0 < at → at ≤ length rows → r ≡ get_or rows (at - 1) r → stands_behind new r ≡ true → AllBehind new (drop at rows) → AllBehind new (drop (at - 1) rows)
behind_more new rows at r some inside here test all =
    let back : at ≡ at - 1 + 1 = omega (arith, some) in
    subst (AllBehind new) (sym (drop_more rows (at - 1) r (omega (arith, some, inside)) ∙ ap (λ (x : Interval). x ∷ drop (at - 1 + 1) rows) (sym here)))
    (test, subst (λ (n : ℕ). AllBehind new (drop n rows)) back all)

-- one that is placed between rows that stay
pub placed_within : (new : Interval) (front rows back : List Interval) → AllBefore new front → AllBehind new back → placed new (front ++ (rows ++ back)) ≡ front ++ (placed new rows ++ back)
placed_within new front rows back before behind = placed_before new front (rows ++ back) before ∙ ap (λ (l : List Interval). front ++ l) (placed_behind new rows back behind)

-- ---- placing behind rows that stay

-- behind other rows
abbrev pub with_front : List Interval → Result (List Interval) TimewError → Result (List Interval) TimewError
with_front front (Ok rows) = Ok (front ++ rows)
with_front front (Err e) = Err e

overlapped_behind : (new : Interval) (front rows : List Interval) → AllBefore new front → overlapped new (without [] (numbered (front ++ rows))) ≡ overlapped new (without [] (numbered rows))
overlapped_behind new [] rows all = refl
overlapped_behind new (r ∷ front) rows all =
    ap (λ (b : Bool). later_of (overlapped new (without [] (numbered (front ++ rows)))) (cond b (Some (length (front ++ rows) + 1)) None)) (both (overlaps r new) (is_not_after r new) all.0).0
    ∙ kept (overlapped new (without [] (numbered (front ++ rows)))) ∙ overlapped_behind new front rows all.1
  where
    kept : (o : Option ℕ) → later_of o None ≡ o
    kept None = refl
    kept (Some id) = refl

pub place_front : (adjust : Bool) (new : Interval) (front rows : List Interval) → AllBefore new front → place adjust new [] (front ++ rows) ≡ with_front front (place adjust new [] rows)
place_front true new front rows all =
    ap (λ (l : List Interval). Ok (placed new l)) (all_rows (front ++ rows)) ∙ ap (λ (l : List Interval). Ok l) (placed_before new front rows all) ∙ sym (ap (λ (l : List Interval). Ok (front ++ placed new l)) (all_rows rows))
place_front false new front rows all =
    ap (λ (o : Option ℕ). unless_overlapped o (placed new (rows_in (without [] (numbered (front ++ rows)))))) (overlapped_behind new front rows all)
    ∙ ap (unless_overlapped (overlapped new (without [] (numbered rows))))
    (ap (placed new) (all_rows (front ++ rows)) ∙ placed_before new front rows all ∙ sym (ap (λ (l : List Interval). front ++ placed new l) (all_rows rows)))
    ∙ by_case (overlapped new (without [] (numbered rows)))
  where
    by_case : (o : Option ℕ) → unless_overlapped o (front ++ placed new (rows_in (without [] (numbered rows)))) ≡ with_front front (unless_overlapped o (placed new (rows_in (without [] (numbered rows)))))
    by_case None = refl
    by_case (Some id) = refl

-- ---- edits

-- the last row gives way to others
pub instead : (front rows new : List Interval) (last : Interval) → rows ≡ front ++ last ∷ [] → spliced (length front) 1 new rows ≡ front ++ new
instead front rows new last is =
    ap (spliced (length front) 1 new) is ∙ ap (λ (l : List Interval). l ++ (new ++ drop (length front + 1) (front ++ last ∷ []))) (take-append_seam front (last ∷ []))
    ∙ ap (λ (l : List Interval). front ++ (new ++ l)) (drop-append-add front (last ∷ []) 1) ∙ ap (λ (l : List Interval). front ++ l) (append-nil new)

pub front_is : (front rows : List Interval) (last : Interval) → rows ≡ front ++ last ∷ [] → take (length front) rows ≡ front
front_is front rows last is = ap (take (length front)) is ∙ take-append_seam front (last ∷ [])

pub has_last : (front rows : List Interval) (last : Interval) → rows ≡ front ++ last ∷ [] → length front + 1 ≡ length rows
has_last front rows last is = sym (length-append front (last ∷ [])) ∙ ap (λ (l : List Interval). length l) (sym is)

apart : (rows last : List Interval) (at : ℕ) → rows ++ last ≡ take at rows ++ (drop at rows ++ last)
apart rows last at = ap (λ (l : List Interval). l ++ last) (sym (take-append-drop at rows)) ∙ append_assoc (take at rows) (drop at rows) last

-- one that is placed behind rows that stay
pub behind_front : (adjust : Bool) (new : Interval) (rows front last next : List Interval) (kept at : ℕ) → front ≡ take kept rows → at ≤ kept → AllBefore new (take at front) → place adjust new [] (drop at front ++ last) ≡ Ok next
    → place adjust new [] (take kept rows ++ last) ≡ Ok (spliced at (length rows - at) next rows)
behind_front adjust new rows front last next kept at is few before placed_is =
    ap (λ (l : List Interval). place adjust new [] (l ++ last)) (sym is)
    ∙ ap (place adjust new []) (apart front last at) ∙ place_front adjust new (take at front) (drop at front ++ last) before ∙ ap (with_front (take at front)) placed_is
    ∙ ap (λ (l : List Interval). Ok (l ++ next)) (ap (take at) is ∙ take-take at kept rows few)
    ∙ ap (λ (l : List Interval). Ok (take at rows ++ l)) (sym (ap (λ (l : List Interval). next ++ l) (drop_all (at + (length rows - at)) rows (omega arith)) ∙ append-nil next))

fails_front : (e : TimewError) (front : List Interval) (r : Result (List Interval) TimewError) → Fails e r → Fails e (with_front front r)
fails_front (plan.Overlap id) front r is = ap (with_front front) is
fails_front plan.NoOpen front r is = ap (with_front front) is
fails_front (plan.AlreadyOpen id) front r is = ap (with_front front) is
fails_front (plan.NoInterval id) front r is = ap (with_front front) is
fails_front (plan.Range word) front r is = ap (with_front front) is
fails_front plan.Memory front r is = tt

pub behind_fails : (e : TimewError) (adjust : Bool) (new : Interval) (rows front last : List Interval) (kept at : ℕ) → front ≡ take kept rows → AllBefore new (take at front) → Fails e (place adjust new [] (drop at front ++ last))
    → Fails e (place adjust new [] (take kept rows ++ last))
behind_fails e adjust new rows front last kept at is before fails =
    subst (Fails e) (sym (ap (λ (l : List Interval). place adjust new [] (l ++ last)) (sym is) ∙ ap (place adjust new []) (apart front last at) ∙ place_front adjust new (take at front) (drop at front ++ last) before))
    (fails_front e (take at front) (place adjust new [] (drop at front ++ last)) fails)
