-- What commands make of seconds.
use Rattle.std.specs.Prelude.{nat_le, nat_lt, unwrap_or}
use Rattle.std.proofs.Common.{◌≡◌, ℕ, ◌≤◌, Bool, true, false, cond, ◌&&◌, List, [], ◌∷◌, ◌++◌, Option, Some, None, Result, Ok, Err, refl, sym, ap, subst, ◌∙◌, arith}
use Rattle.std.proofs.lemmas.Bool.{leb-true, ltb-false}
use Rattle.std.proofs.lemmas.Bool.Decides.{nat_tests}
use Rattle.timew_interval.specs.declared.interval.Interval.{Interval}
use Rattle.timew_interval.specs.Interval.{Content, content, goes_past, has, at, IsEnd, EndsBy, AreRows}
use Rattle.timew_interval.specs.Placing.{placed, spanning}
use Rattle.timew_interval.proofs.Placed.{at-placed}
use Rattle.timew_cmd.specs.declared.error.TimewError.{TimewError}
use Rattle.timew_cmd.specs.declared.error.TimewError.TheVariants.{Range}
use Rattle.timew_cmd.specs.Commands.Cancel.{cancelled}
use Rattle.timew_cmd.specs.Commands.Continue.{continued}
use Rattle.timew_cmd.specs.Commands.Start.{begun, open_from, is_past, begins_after}
use Rattle.timew_cmd.specs.Commands.Stop.{stopped}
use Rattle.timew_cmd.specs.Commands.Track.{tracked}
use Rattle.timew_cmd.specs.Numbers.{numbered, without, rows_in, row_at}
use Rattle.timew_cmd.specs.Open.{open_of, open_or, open_from_rows, moment_or, with_ended}
use Rattle.timew_cmd.specs.Placing.{place, overlapped, unless_overlapped}
use Rattle.timew_cmd.specs.Seconds.{Takes, BeginsAt, EndsAt}
use Rattle.timew_cmd.proofs.AllRows.{all_rows}
use Rattle.timew_cmd.proofs.OpenRow.{open_last}
use Rattle.timew_cmd.proofs.PlannedRows.{if_so, if_not, and_then}
use Rattle.timew_cmd.proofs.RowsInOrder.{open_is}

pub is_same : {A : Type 0} (first : Result A TimewError) (x y : A) → first ≡ Ok x → first ≡ Ok y → x ≡ y
is_same first x y is other = cc

-- ---- one that is placed

placed_is : (adjust : Bool) (new : Interval) (ids : List ℕ) (rows next : List Interval) → place adjust new ids rows ≡ Ok next → placed new (rows_in (without ids (numbered rows))) ≡ next
placed_is true new ids rows next is = cc
placed_is false new ids rows next is = by_case (overlapped new (without ids (numbered rows))) is
  where
    by_case : (o : Option ℕ) → unless_overlapped o (placed new (rows_in (without ids (numbered rows)))) ≡ Ok next → placed new (rows_in (without ids (numbered rows))) ≡ next
    by_case None e = cc
    by_case (Some id) e = absurd (cc)

pub others_take : (adjust : Bool) (new : Interval) (ids : List ℕ) (rows next : List Interval) → place adjust new ids rows ≡ Ok next → Takes new (rows_in (without ids (numbered rows))) next
others_take adjust new ids rows next is = λ second.
    ap (λ (l : List Interval). at l second) (sym (placed_is adjust new ids rows next is)) ∙ at-placed new (rows_in (without ids (numbered rows))) second

place_takes : (adjust : Bool) (new : Interval) (rows next : List Interval) → place adjust new [] rows ≡ Ok next → Takes new rows next
place_takes adjust new rows next is = subst (λ (l : List Interval). Takes new l next) (all_rows rows) (others_take adjust new [] rows next is)

pub track_takes : (word start end : ℕ) (tags : List (List ℕ)) (adjust : Bool) (rows next : List Interval) → tracked word start end tags adjust rows ≡ Ok next
    → Takes (record { start = start; end = Some end; tags = tags; annotation = [] }) rows next
track_takes word start end tags adjust rows next is =
    let new : Interval = record { start = start; end = Some end; tags = tags; annotation = [] } in
    place_takes adjust new rows next (if_so (nat_lt start end) (Range word) (place adjust new [] rows) next is).1

-- ---- the open interval

end_is_none : (rows : List Interval) (o : List Interval × Interval) → open_of rows ≡ Some o → o.1.end ≡ None
end_is_none rows o is = by_end o.1.end refl (sym (open_last o.0 o.1) ∙ ap open_of (sym (open_is rows o is)) ∙ is)
  where
    by_end : (e : Option ℕ) → o.1.end ≡ e → open_from_rows o.0 (open_or e o.1) ≡ Some o → o.1.end ≡ None
    by_end None same p = same
    by_end (Some end) same p = absurd (cc)

-- the last of some rows alone differs
last_differs : (front : List Interval) (x y : Interval) (s : ℕ) → has x s ≡ has y s → content x ≡ content y → at (front ++ x ∷ []) s ≡ at (front ++ y ∷ []) s
last_differs [] x y s same text = ap (λ (b : Bool). cond b (Some (content x)) None) same ∙ ap (λ (c : Content). cond (has y s) (Some c) None) text
last_differs (r ∷ front) x y s same text = ap (λ (o : Option Content). cond (has r s) (Some (content r)) o) (last_differs front x y s same text)

last_has_not : (front : List Interval) (x : Interval) (s : ℕ) → has x s ≡ false → at (front ++ x ∷ []) s ≡ at front s
last_has_not [] x s is = ap (λ (b : Bool). cond b (Some (content x)) None) is
last_has_not (r ∷ front) x s is = ap (λ (o : Option Content). cond (has r s) (Some (content r)) o) (last_has_not front x s is)

through : (e : Option ℕ) (a : ℕ) (f : Option ℕ) (b : ℕ) → EndsBy e a → IsEnd a f → EndsBy f b → EndsBy e b
through None a f b p q r = absurd p
through (Some e) a None b p q r = absurd r
through (Some e) a (Some f) b p q r = omega (arith, p, q.0, r)

ends_by_next : (r : Interval) (front : List Interval) (x : Interval) (back : List Interval) → AreRows (r ∷ (front ++ x ∷ back)) → EndsBy r.end x.start
ends_by_next r [] x back are = are.1
ends_by_next r (t ∷ front) x back are = through r.end t.start t.end x.start are.1 are.2.0.end (ends_by_next t front x back are.2)

not_past : (e : Option ℕ) (b s : ℕ) → EndsBy e b → b ≤ s → goes_past e s ≡ false
not_past None b s by le = absurd by
not_past (Some e) b s by le = grind (arith, nat_tests)

and_false : (b : Bool) → (b && false) ≡ false
and_false true = refl
and_false false = refl

-- rows in front of one have ended where it has begun
pub front_free : (front : List Interval) (x : Interval) (back : List Interval) (s : ℕ) → AreRows (front ++ x ∷ back) → x.start ≤ s → at front s ≡ None
front_free [] x back s are le = refl
front_free (r ∷ front) x back s are le =
    ap (λ (b : Bool). cond b (Some (content r)) (at front s)) (ap (λ (b : Bool). nat_le r.start s && b) (not_past r.end x.start s (ends_by_next r front x back are) le) ∙ and_false (nat_le r.start s))
    ∙ front_free front x back s are.2 le

-- an open interval has a second before its end as one that ends there
open_has : (start m s : ℕ) (end : Option ℕ) → end ≡ None → nat_le m s ≡ false → (nat_le start s && nat_lt s m) ≡ (nat_le start s && goes_past end s)
open_has start m s None is before = grind (arith, nat_tests)
open_has start m s (Some end) is before = absurd (cc)

ended_before : (rows : List Interval) (o : List Interval × Interval) (m s : ℕ) → open_of rows ≡ Some o → nat_le m s ≡ false → at (o.0 ++ spanning o.1.start (Some m) o.1 ∷ []) s ≡ at rows s
ended_before rows o m s is before =
    last_differs o.0 (spanning o.1.start (Some m) o.1) o.1 s (open_has o.1.start m s o.1.end (end_is_none rows o is) before) refl ∙ ap (λ (l : List Interval). at l s) (sym (open_is rows o is))

-- ---- `stop` and `cancel`

has_ended : (start m s : ℕ) → m ≤ s → (nat_le start s && nat_lt s m) ≡ false
has_ended start m s le = grind (arith, nat_tests)

pub stop_ends : (word m : ℕ) (rows next : List Interval) → AreRows rows → stopped word m (open_of rows) ≡ Ok next → EndsAt m rows next
stop_ends word m rows next are is = by_open (open_of rows) refl is
  where
    done : (o : List Interval × Interval) → open_of rows ≡ Some o → nat_lt m o.1.start ≡ false → (s : ℕ) (b : Bool) → nat_le m s ≡ b
        → at (o.0 ++ spanning o.1.start (Some m) o.1 ∷ []) s ≡ cond b None (at rows s)
    done o here begun s true late =
        let le : m ≤ s = leb-true m s late in
        last_has_not o.0 (spanning o.1.start (Some m) o.1) s (has_ended o.1.start m s le)
        ∙ front_free o.0 o.1 [] s (subst AreRows (open_is rows o here) are) (omega (arith, le, ltb-false m o.1.start begun))
    done o here begun s false late = ended_before rows o m s here late

    by_open : (p : Option (List Interval × Interval)) → open_of rows ≡ p → stopped word m p ≡ Ok next → EndsAt m rows next
    by_open None here e = absurd (cc)
    by_open (Some o) here e = λ s.
        let parts = if_not (nat_lt m o.1.start) (Range word) (Ok (o.0 ++ spanning o.1.start (Some m) o.1 ∷ [])) next e in
        let same : o.0 ++ spanning o.1.start (Some m) o.1 ∷ [] ≡ next = let done_is = parts.1 in cc in
        ap (λ (l : List Interval). at l s) (sym same) ∙ done o here parts.0 s (nat_le m s) refl

begun_not : (start s : ℕ) (end : Option ℕ) → nat_le start s ≡ false → (nat_le start s && goes_past end s) ≡ false
begun_not start s end before = ap (λ (b : Bool). b && goes_past end s) before

pub cancel_frees : (rows next front : List Interval) (last : Interval) → AreRows rows → open_of rows ≡ Some (front, last) → cancelled (open_of rows) ≡ Ok next → EndsAt last.start rows next
cancel_frees rows next front last are here is = λ s.
    let all : rows ≡ front ++ last ∷ [] = open_is rows (front, last) here in
    let now_is : cancelled (Some (front, last)) ≡ Ok next = ap cancelled (sym here) ∙ is in
    let same : front ≡ next = cc in
    ap (λ (l : List Interval). at l s) (sym same) ∙ by_case all s (nat_le last.start s) refl
  where
    by_case : rows ≡ front ++ last ∷ [] → (s : ℕ) (b : Bool) → nat_le last.start s ≡ b → at front s ≡ cond b None (at rows s)
    by_case all s true late = front_free front last [] s (subst AreRows all are) (leb-true last.start s late)
    by_case all s false late = sym (last_has_not front last s (begun_not last.start s last.end late)) ∙ ap (λ (l : List Interval). at l s) (sym all)

-- ---- `start` and `continue`

with_ended_before : (m : ℕ) (rows : List Interval) (o : Option (List Interval × Interval)) (s : ℕ) → open_of rows ≡ o → nat_le m s ≡ false → at (with_ended m rows o) s ≡ at rows s
with_ended_before m rows None s is before = refl
with_ended_before m rows (Some o) s is before = by_case (nat_le o.1.start m)
  where
    by_case : (b : Bool) → at (cond b (o.0 ++ spanning o.1.start (Some m) o.1 ∷ []) rows) s ≡ at rows s
    by_case true = ended_before rows o m s is before
    by_case false = refl

pub start_begins : (word : ℕ) (moment : Option ℕ) (tags : List (List ℕ)) (adjust : Bool) (rows next : List Interval) (now : ℕ) → begun word moment tags adjust rows now ≡ Ok next → BeginsAt (moment_or now moment) tags rows next
start_begins word moment tags adjust rows next now is = λ s. takes s ∙ by_case s (nat_le m s) refl
  where
    m : ℕ
    m = moment_or now moment

    begins : place adjust (open_from m tags) [] (with_ended m rows (open_of rows)) ≡ Ok next
    begins =
        let late = (if_not (is_past now moment) (Range word) (cond (begins_after now (open_of rows)) (Err (Range 0)) (place adjust (open_from m tags) [] (with_ended m rows (open_of rows)))) next is).1 in
        (if_not (begins_after now (open_of rows)) (Range 0) (place adjust (open_from m tags) [] (with_ended m rows (open_of rows))) next late).1

    takes : Takes (open_from m tags) (with_ended m rows (open_of rows)) next
    takes = place_takes adjust (open_from m tags) (with_ended m rows (open_of rows)) next begins

    by_case : (s : ℕ) (b : Bool) → nat_le m s ≡ b
        → cond (nat_le m s && true) (Some (content (open_from m tags))) (at (with_ended m rows (open_of rows)) s) ≡ cond b (Some (content (open_from m tags))) (at rows s)
    by_case s true late = ap (λ (b : Bool). cond (b && true) (Some (content (open_from m tags))) (at (with_ended m rows (open_of rows)) s)) late
    by_case s false late =
        ap (λ (b : Bool). cond (b && true) (Some (content (open_from m tags))) (at (with_ended m rows (open_of rows)) s)) late
        ∙ with_ended_before m rows (open_of rows) s refl late

pub continue_begins : (id : Option ℕ) (adjust : Bool) (rows next : List Interval) (now : ℕ) (r : Interval) → continued id adjust rows now (open_of rows) ≡ Ok next → row_at (unwrap_or id 1) rows ≡ Ok r → BeginsAt now r.tags rows next
continue_begins None adjust rows next now r is row = by_open (open_of rows) is
  where
    by_open : (o : Option (List Interval × Interval)) → continued None adjust rows now o ≡ Ok next → BeginsAt now r.tags rows next
    by_open None e = and_then (row_at 1 rows) (λ x. begun 0 None x.tags adjust rows now) next (BeginsAt now r.tags rows next) e (λ x here went.
        let same : x ≡ r = is_same (row_at 1 rows) x r here row in
        subst (λ (y : Interval). BeginsAt now y.tags rows next) same (start_begins 0 None x.tags adjust rows next now went))
    by_open (Some o) e = absurd (cc)
continue_begins (Some id) adjust rows next now r is row = and_then (row_at id rows) (λ x. begun 0 None x.tags adjust rows now) next (BeginsAt now r.tags rows next) is (λ x here went.
    let same : x ≡ r = is_same (row_at id rows) x r here row in
    subst (λ (y : Interval). BeginsAt now y.tags rows next) same (start_begins 0 None x.tags adjust rows next now went))
