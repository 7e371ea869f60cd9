-- After a command the intervals are still in order.
use Rattle.std.specs.Prelude.{not, fold, filter}
use Rattle.std.proofs.Common.{◌≡◌, ℕ, ◌+◌, ◌-◌, ◌/◌, ◌<◌, ◌≤◌, Bool, true, false, cond, ◌&&◌, List, [], ◌∷◌, ◌++◌, Option, Some, None, Result, Ok, Err, refl, sym, ap, subst, ◌∙◌, arith}
use Rattle.std.proofs.lemmas.Cmp.{nat_list_cmp_total}
use Rattle.std.specs.List.{list_all, list_any, flat_map}
use Rattle.std.specs.Ordering.{is_lt}
use Rattle.std.specs.declared.cmp.Ordering.{Ordering}
use Rattle.std.specs.declared.cmp.Ordering.TheVariants.{Less, Equal, Greater}
use Rattle.tw_world.specs.Folder.{bytes_cmp, same_bytes, add_name as add_tag}
use Rattle.timew_interval.specs.declared.interval.Interval.{Interval}
use Rattle.timew_interval.specs.Interval.{limit, IsRow, IsEnd, EndsBy, IsBefore, AreRows, is_tag, is_printable, tags_rise, tags_rise_from}
use Rattle.timew_interval.specs.Placing.{spanning, placed}
use Rattle.timew_interval.proofs.Placed.{are_rows-placed}
use Rattle.timew_interval.proofs.InOrder.{tags_added}
use Rattle.timew_cmd.specs.Numbers.{Numbered, numbered, is_among, without, rows_in}
use Rattle.timew_cmd.specs.Open.{open_of, open_or, in_front, moment_or}
use Rattle.timew_cmd.specs.Labels.{each_from, each_of, with_tags, without_tags, with_annotation}
use Rattle.timew_cmd.specs.Commands.Split.{halves, some_ahead, split}
use Rattle.timew_cmd.specs.Placing.{place, unless_overlapped, overlapped}
use Rattle.timew_words.specs.Given.{AreTags}
use Rattle.timew_cmd.specs.declared.error.TimewError.{TimewError}
use Rattle.timew_cmd.specs.declared.error.TimewError.TheVariants.{Range}

-- ---- rows taken out

-- before a row, and so before those behind it
pub before_next : (end : Option ℕ) (s : Interval) (rows : List Interval) → EndsBy end s.start → IsEnd s.start s.end → IsBefore s.end rows → IsBefore end rows
before_next end s [] by is before = tt
before_next end s (r ∷ rows) by is before = of_ends end s.end by is before
  where
    of_ends : (e f : Option ℕ) → EndsBy e s.start → IsEnd s.start f → EndsBy f r.start → EndsBy e r.start
    of_ends None f by is before = by
    of_ends (Some d) None by is before = absurd before
    of_ends (Some d) (Some g) by is before = omega (arith, by, is.0, before)

rows_in-numbered : (rows : List Interval) → rows_in (numbered rows) ≡ rows
rows_in-numbered [] = refl
rows_in-numbered (r ∷ rows) = ap (λ (l : List Interval). r ∷ l) (rows_in-numbered rows)

filter_before : (p : ℕ × Interval → Bool) (end : Option ℕ) (rows : Numbered) → AreRows (rows_in rows) → IsBefore end (rows_in rows) → IsBefore end (rows_in (filter p rows))
filter_before p end [] are before = tt
filter_before p end (r ∷ rows) are before = by_case (p r) (filter_before p end rows are.2 (before_next end r.1 (rows_in rows) before are.0.end are.1))
  where
    by_case : (b : Bool) → IsBefore end (rows_in (filter p rows)) → IsBefore end (rows_in (cond b (r ∷ filter p rows) (filter p rows)))
    by_case true rest = before
    by_case false rest = rest

filter_rows : (p : ℕ × Interval → Bool) (rows : Numbered) → AreRows (rows_in rows) → AreRows (rows_in (filter p rows))
filter_rows p [] are = tt
filter_rows p (r ∷ rows) are = by_case (p r) (filter_rows p rows are.2)
  where
    by_case : (b : Bool) → AreRows (rows_in (filter p rows)) → AreRows (rows_in (cond b (r ∷ filter p rows) (filter p rows)))
    by_case true rest = (are.0, filter_before p r.1.end rows are.2 are.1, rest)
    by_case false rest = rest

pub without_rows : (ids : List ℕ) (rows : List Interval) → AreRows rows → AreRows (rows_in (without ids (numbered rows)))
without_rows ids rows are = filter_rows (λ r. not (is_among ids r.0)) (numbered rows) (subst AreRows (sym (rows_in-numbered rows)) are)

-- ---- placing

is_ok : {A : Type 0} (a b : A) → ◌≡◌ {A = Result A TimewError} (Ok a) (Ok b) → a ≡ b
is_ok a b e = cc

pub place_rows : (adjust : Bool) (new : Interval) (ids : List ℕ) (rows next : List Interval) → IsRow new → AreRows rows → place adjust new ids rows ≡ Ok next → AreRows next
place_rows adjust new ids rows next is are planned = of_adjust adjust planned
  where
    good : AreRows (placed new (rows_in (without ids (numbered rows))))
    good = are_rows-placed new is (rows_in (without ids (numbered rows))) (without_rows ids rows are)

    of_found : (o : Option ℕ) → unless_overlapped o (placed new (rows_in (without ids (numbered rows)))) ≡ Ok next → AreRows next
    of_found None planned = subst AreRows (is_ok (placed new (rows_in (without ids (numbered rows)))) next planned) good
    of_found (Some id) planned = absurd (cc)

    of_adjust : (b : Bool) → place b new ids rows ≡ Ok next → AreRows next
    of_adjust true planned = subst AreRows (is_ok (placed new (rows_in (without ids (numbered rows)))) next planned) good
    of_adjust false planned = of_found (overlapped new (without ids (numbered rows))) planned

-- ---- the open row

pub open_is : (rows : List Interval) (o : List Interval × Interval) → open_of rows ≡ Some o → rows ≡ o.0 ++ o.1 ∷ []
open_is [] o is = absurd (cc)
open_is (r ∷ []) o is = of_end r.end is
  where
    of_end : (e : Option ℕ) → open_or e r ≡ Some o → r ∷ [] ≡ o.0 ++ o.1 ∷ []
    of_end None is = let same : ([], r) ≡ o = cc in ap (λ (p : List Interval × Interval). p.0 ++ p.1 ∷ []) same
    of_end (Some e) is = absurd (cc)
open_is (r ∷ next ∷ rows) o is = of_rest (open_of (next ∷ rows)) refl is (open_is (next ∷ rows))
  where
    of_rest : (p : Option (List Interval × Interval)) → open_of (next ∷ rows) ≡ p → in_front r p ≡ Some o → ((q : List Interval × Interval) → open_of (next ∷ rows) ≡ Some q → next ∷ rows ≡ q.0 ++ q.1 ∷ []) → r ∷ next ∷ rows ≡ o.0 ++ o.1 ∷ []
    of_rest None here is later = absurd (cc)
    of_rest (Some q) here is later =
        let same : (r ∷ q.0, q.1) ≡ o = cc in
        ap (λ (l : List Interval). r ∷ l) (later q here) ∙ ap (λ (p : List Interval × Interval). p.0 ++ p.1 ∷ []) same

-- another last row with the same start
last_before : (end : Option ℕ) (front : List Interval) (x y : Interval) → y.start ≡ x.start → IsBefore end (front ++ x ∷ []) → IsBefore end (front ++ y ∷ [])
last_before end [] x y same before = subst (EndsBy end) (sym same) before
last_before end (r ∷ front) x y same before = before

last_rows : (front : List Interval) (x y : Interval) → y.start ≡ x.start → IsRow y → AreRows (front ++ x ∷ []) → AreRows (front ++ y ∷ [])
last_rows [] x y same is are = (is, tt, tt)
last_rows (r ∷ front) x y same is are = (are.0, last_before r.end front x y same are.1, last_rows front x y same is are.2)

front_before : (end : Option ℕ) (front : List Interval) (x : Interval) → IsBefore end (front ++ x ∷ []) → IsBefore end front
front_before end [] x before = tt
front_before end (r ∷ front) x before = before

front_rows : (front : List Interval) (x : Interval) → AreRows (front ++ x ∷ []) → AreRows front
front_rows [] x are = tt
front_rows (r ∷ front) x are = (are.0, front_before r.end front x are.1, front_rows front x are.2)

pub last_row : (front : List Interval) (x : Interval) → AreRows (front ++ x ∷ []) → IsRow x
last_row [] x are = are.0
last_row (r ∷ front) x are = last_row front x are.2

-- the open row ended
pub ended_rows : (rows : List Interval) (o : List Interval × Interval) (at : ℕ) → AreRows rows → open_of rows ≡ Some o → o.1.start ≤ at → at < limit → AreRows (o.0 ++ spanning o.1.start (Some at) o.1 ∷ [])
ended_rows rows o at are is le small =
    let all : AreRows (o.0 ++ o.1 ∷ []) = subst AreRows (open_is rows o is) are in
    let row = last_row o.0 o.1 all in
    last_rows o.0 o.1 (spanning o.1.start (Some at) o.1) refl (record { start = row.start; end = (le, small); tags = row.tags; rise = row.rise; annotation = row.annotation }) all

pub dropped_rows : (rows : List Interval) (o : List Interval × Interval) → AreRows rows → open_of rows ≡ Some o → AreRows o.0
dropped_rows rows o are is = front_rows o.0 o.1 (subst AreRows (open_is rows o is) are)

-- ---- rows that are changed where they stand

-- the same seconds
pub record KeepsSeconds (change : Interval → Interval) : Type 0 where
  pub start : (r : Interval) → (change r).start ≡ r.start
  pub end : (r : Interval) → (change r).end ≡ r.end
  pub row : (r : Interval) → IsRow r → IsRow (change r)

each_before : (end : Option ℕ) (ids : List ℕ) (change : Interval → Interval) (rows : Numbered) → KeepsSeconds change → IsBefore end (rows_in rows) → IsBefore end (each_from ids change rows)
each_before end ids change [] keeps before = tt
each_before end ids change (r ∷ rows) keeps before = by_case (is_among ids r.0)
  where
    by_case : (b : Bool) → EndsBy end (cond b (change r.1) r.1).start
    by_case true = subst (EndsBy end) (sym (keeps.start r.1)) before
    by_case false = before

each_rows_from : (ids : List ℕ) (change : Interval → Interval) (rows : Numbered) → KeepsSeconds change → AreRows (rows_in rows) → AreRows (each_from ids change rows)
each_rows_from ids change [] keeps are = tt
each_rows_from ids change (r ∷ rows) keeps are =
    (row_of (is_among ids r.0), end_of (is_among ids r.0), each_rows_from ids change rows keeps are.2)
  where
    row_of : (b : Bool) → IsRow (cond b (change r.1) r.1)
    row_of true = keeps.row r.1 are.0
    row_of false = are.0

    end_of : (b : Bool) → IsBefore (cond b (change r.1) r.1).end (each_from ids change rows)
    end_of true = subst (λ (e : Option ℕ). IsBefore e (each_from ids change rows)) (sym (keeps.end r.1)) (each_before r.1.end ids change rows keeps are.1)
    end_of false = each_before r.1.end ids change rows keeps are.1

pub each_rows : (ids : List ℕ) (change : Interval → Interval) (rows : List Interval) → KeepsSeconds change → AreRows rows → AreRows (each_of ids change rows)
each_rows ids change rows keeps are = each_rows_from ids change (numbered rows) keeps (subst AreRows (sym (rows_in-numbered rows)) are)

-- tags
parts : (a b : Bool) → a && b ≡ true → (a ≡ true) × (b ≡ true)
parts true b e = (refl, e)
parts false b e = absurd (cc)

pub all_tags_added : (tags had : List (List ℕ)) → list_all is_tag tags ≡ true → AreTags had → AreTags (fold (λ had tag. add_tag tag had) had tags)
all_tags_added [] had all are = are
all_tags_added (t ∷ tags) had all are = let p = parts (is_tag t) (list_all is_tag tags) all in all_tags_added tags (add_tag t had) p.1 (tags_added t had p.0 are)

filter_all : (p : List ℕ → Bool) (tags : List (List ℕ)) → list_all is_tag tags ≡ true → list_all is_tag (filter p tags) ≡ true
filter_all p [] all = refl
filter_all p (t ∷ tags) all = by_case (p t) (parts (is_tag t) (list_all is_tag tags) all) (filter_all p tags)
  where
    by_case : (b : Bool) → (is_tag t ≡ true) × (list_all is_tag tags ≡ true) → (list_all is_tag tags ≡ true → list_all is_tag (filter p tags) ≡ true) → list_all is_tag (cond b (t ∷ filter p tags) (filter p tags)) ≡ true
    by_case true q rest = ap (λ (b : Bool). b && list_all is_tag (filter p tags)) q.0 ∙ rest q.1
    by_case false q rest = rest q.1

less : (o : Ordering) → is_lt o ≡ true → o ≡ Less
less Less is = refl
less Equal is = absurd (cc)
less Greater is = absurd (cc)

rise_lower : (u v : List ℕ) (tags : List (List ℕ)) → bytes_cmp u v ≡ Less → tags_rise_from v tags ≡ true → tags_rise_from u tags ≡ true
rise_lower u v [] lower rise = refl
rise_lower u v (t ∷ tags) lower rise =
    let q = parts (is_lt (bytes_cmp v t)) (tags_rise_from t tags) rise in
    ap (λ (o : Ordering). is_lt o && tags_rise_from t tags) (nat_list_cmp_total.trans u v t lower (less (bytes_cmp v t) q.0)) ∙ q.1

filter_rise_from : (p : List ℕ → Bool) (u : List ℕ) (tags : List (List ℕ)) → tags_rise_from u tags ≡ true → tags_rise_from u (filter p tags) ≡ true
filter_rise_from p u [] rise = refl
filter_rise_from p u (t ∷ tags) rise = by_case (p t) (parts (is_lt (bytes_cmp u t)) (tags_rise_from t tags) rise) (filter_rise_from p t tags) (filter_rise_from p u tags)
  where
    by_case : (b : Bool) → (is_lt (bytes_cmp u t) ≡ true) × (tags_rise_from t tags ≡ true) → (tags_rise_from t tags ≡ true → tags_rise_from t (filter p tags) ≡ true) → (tags_rise_from u tags ≡ true → tags_rise_from u (filter p tags) ≡ true) → tags_rise_from u (cond b (t ∷ filter p tags) (filter p tags)) ≡ true
    by_case true q here there = ap (λ (b : Bool). b && tags_rise_from t (filter p tags)) q.0 ∙ here q.1
    by_case false q here there = there (rise_lower u t tags (less (bytes_cmp u t) q.0) q.1)

filter_rise : (p : List ℕ → Bool) (tags : List (List ℕ)) → tags_rise tags ≡ true → tags_rise (filter p tags) ≡ true
filter_rise p [] rise = refl
filter_rise p (t ∷ tags) rise = by_case (p t) (filter_rise_from p t tags) (filter_rise p tags)
  where
    tail_rise : (u : List ℕ) (tags : List (List ℕ)) → tags_rise_from u tags ≡ true → tags_rise tags ≡ true
    tail_rise u [] rise = refl
    tail_rise u (v ∷ tags) rise = (parts (is_lt (bytes_cmp u v)) (tags_rise_from v tags) rise).1

    by_case : (b : Bool) → (tags_rise_from t tags ≡ true → tags_rise_from t (filter p tags) ≡ true) → (tags_rise tags ≡ true → tags_rise (filter p tags) ≡ true) → tags_rise (cond b (t ∷ filter p tags) (filter p tags)) ≡ true
    by_case true here there = here rise
    by_case false here there = there (tail_rise t tags rise)

pub tags_keep : (tags : List (List ℕ)) → list_all is_tag tags ≡ true → KeepsSeconds (with_tags tags)
tags_keep tags all = record {
  start = λ r. refl;
  end = λ r. refl;
  row = λ r is. let t = all_tags_added tags r.tags all (is.tags, is.rise) in record { start = is.start; end = is.end; tags = t.0; rise = t.1; annotation = is.annotation };
}

pub untags_keep : (tags : List (List ℕ)) → KeepsSeconds (without_tags tags)
untags_keep tags = record {
  start = λ r. refl;
  end = λ r. refl;
  row = λ r is. record { start = is.start; end = is.end; tags = filter_all (λ tag. not (list_any (same_bytes tag) tags)) r.tags is.tags; rise = filter_rise (λ tag. not (list_any (same_bytes tag) tags)) r.tags is.rise; annotation = is.annotation };
}

pub note_keeps : (text : List ℕ) → is_printable text ≡ true → KeepsSeconds (with_annotation text)
note_keeps text is_text = record {
  start = λ r. refl;
  end = λ r. refl;
  row = λ r is. record { start = is.start; end = is.end; tags = is.tags; rise = is.rise; annotation = is_text };
}

-- ---- halves

middle_in : (now start : ℕ) (end : Option ℕ) → now < limit → start < limit → IsEnd start end → (start ≤ start + (moment_or now end - start) / 2) × (start + (moment_or now end - start) / 2 < limit) × IsEnd (start + (moment_or now end - start) / 2) end
middle_in now start None small from is = (omega arith, omega (arith, small, from), tt)
middle_in now start (Some e) small from is = (omega arith, omega (arith, is), (omega (arith, is), is.1))

halves_before : (end : Option ℕ) (ids : List ℕ) (now : ℕ) (rows : Numbered) → IsBefore end (rows_in rows) → IsBefore end (flat_map (λ r. cond (is_among ids r.0) (halves now r.1) (r.1 ∷ [])) rows)
halves_before end ids now [] before = tt
halves_before end ids now (r ∷ rows) before = by_case (is_among ids r.0)
  where
    by_case : (b : Bool) → IsBefore end (cond b (halves now r.1) (r.1 ∷ []) ++ flat_map (λ r. cond (is_among ids r.0) (halves now r.1) (r.1 ∷ [])) rows)
    by_case true = before
    by_case false = before

halves_rows : (ids : List ℕ) (now : ℕ) (rows : Numbered) → now < limit → AreRows (rows_in rows) → AreRows (flat_map (λ r. cond (is_among ids r.0) (halves now r.1) (r.1 ∷ [])) rows)
halves_rows ids now [] small are = tt
halves_rows ids now (r ∷ rows) small are = by_case (is_among ids r.0) (halves_before r.1.end ids now rows are.1) (halves_rows ids now rows small are.2)
  where
    by_case : (b : Bool) → IsBefore r.1.end (flat_map (λ r. cond (is_among ids r.0) (halves now r.1) (r.1 ∷ [])) rows) → AreRows (flat_map (λ r. cond (is_among ids r.0) (halves now r.1) (r.1 ∷ [])) rows)
        → AreRows (cond b (halves now r.1) (r.1 ∷ []) ++ flat_map (λ r. cond (is_among ids r.0) (halves now r.1) (r.1 ∷ [])) rows)
    by_case true before rest =
        let m = middle_in now r.1.start r.1.end small are.0.start are.0.end in (
          record { start = are.0.start; end = (m.0, m.1); tags = are.0.tags; rise = are.0.rise; annotation = are.0.annotation },
          omega arith,
          (record { start = m.1; end = m.2; tags = are.0.tags; rise = are.0.rise; annotation = are.0.annotation }, before, rest),
        )
    by_case false before rest = (are.0, before, rest)

pub split_rows : (ids : List ℕ) (rows next : List Interval) (now : ℕ) → now < limit → AreRows rows → split ids rows now ≡ Ok next → AreRows next
split_rows ids rows next now small are planned = of_ahead (some_ahead ids rows now) planned
  where
    of_ahead : (b : Bool) → cond b (Err (Range 0)) (Ok (flat_map (λ r. cond (is_among ids r.0) (halves now r.1) (r.1 ∷ [])) (numbered rows))) ≡ Ok next → AreRows next
    of_ahead true planned = absurd (cc)
    of_ahead false planned = subst AreRows (is_ok (flat_map (λ r. cond (is_among ids r.0) (halves now r.1) (r.1 ∷ [])) (numbered rows)) next planned) (halves_rows ids now (numbered rows) small (subst AreRows (sym (rows_in-numbered rows)) are))
