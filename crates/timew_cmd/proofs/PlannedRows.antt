-- After every command the intervals are in order.
use Rattle.std.specs.Prelude.{max, min, nat_lt, nat_le, ◌&&◌, slice_get, IfSome, IfOk}
use Rattle.std.proofs.Common.{◌≡◌, ℕ, zero, suc, ◌+◌, ◌-◌, ◌<◌, ◌≤◌, Bool, true, false, cond, List, [], ◌∷◌, ◌++◌, length, Option, Some, None, Result, Ok, Err, refl, ap, subst, arith}
use Rattle.std.proofs.lemmas.Bool.{ltb-true, ltb-false, leb-true}
use Rattle.tw_time.specs.declared.length.Length.{Length}
use Rattle.timew_interval.specs.declared.edit.Edit.{Edit}
use Rattle.timew_interval.specs.declared.interval.Interval.{Interval}
use Rattle.timew_interval.specs.Edit.{edited, IsEditOf}
use Rattle.timew_interval.specs.Interval.{limit, IsRow, IsEnd, IsBefore, AreRows, is_printable}
use Rattle.timew_interval.proofs.Placed.{own_start}
use Rattle.timew_interval.specs.Placing.{spanning}
use Rattle.timew_words.specs.declared.command.Changing.{Changing}
use Rattle.timew_words.specs.declared.command.Changing.TheVariants.{Start, Stop, Cancel, Continue, Track, Tag, Untag, Annotate, Delete, Split, Join, Move, Lengthen, Shorten}
use Rattle.timew_cmd.specs.declared.error.TimewError.{TimewError}
use Rattle.timew_cmd.specs.declared.error.TimewError.TheVariants.{Range}
use Rattle.timew_words.specs.Given.{AreTags, IsGivenChange}
use Rattle.timew_words.specs.Results.{◌>>=◌}
use Rattle.timew_cmd.specs.Planned.{planned, Answers}
use Rattle.timew_cmd.specs.Commands.Start.{begun, open_from, is_past, begins_after}
use Rattle.timew_cmd.specs.Commands.Stop.{stopped}
use Rattle.timew_cmd.specs.Commands.Cancel.{cancelled}
use Rattle.timew_cmd.specs.Commands.Continue.{continued}
use Rattle.timew_cmd.specs.Commands.Track.{tracked}
use Rattle.timew_cmd.specs.Commands.Delete.{deleted}
use Rattle.timew_cmd.specs.Commands.Split.{split, split_all}
use Rattle.timew_cmd.specs.Commands.Join.{joined, joined_both, later_end, first_text}
use Rattle.timew_cmd.specs.Commands.Move.{moved_to, moved_end}
use Rattle.timew_cmd.specs.Commands.Lengthen.{lengthened}
use Rattle.timew_cmd.specs.Commands.Shorten.{shortened, shorter}
use Rattle.timew_cmd.specs.Replacing.{replaced, is_in_range, closed_end, seconds_of}
use Rattle.timew_cmd.specs.Placing.{place}
use Rattle.timew_cmd.specs.Open.{with_ended, open_of, moment_or}
use Rattle.timew_cmd.specs.Labels.{with_tags, without_tags, with_annotation, each_of, targets}
use Rattle.timew_cmd.specs.Commands.Annotate.{as_ids}
use Rattle.timew_cmd.specs.Numbers.{checked, row_at, row_or, numbered, without, rows_in}
use Rattle.timew_cmd.proofs.RowAt.{row_of_id}
use Rattle.timew_cmd.proofs.RowsInOrder.{before_next, place_rows, ended_rows, dropped_rows, without_rows, each_rows, KeepsSeconds, tags_keep, untags_keep, note_keeps, split_rows, all_tags_added}

is_ok : {A : Type 0} (a b : A) → ◌≡◌ {A = Result A TimewError} (Ok a) (Ok b) → a ≡ b
is_ok a b e = cc

-- what comes first is Ok, and then the rest
pub and_then : {A B : Type 0} (first : Result A TimewError) (rest : A → Result B TimewError) (end : B) (P : Type 0) → (first >>= rest) ≡ Ok end → ((x : A) → first ≡ Ok x → rest x ≡ Ok end → P) → P
and_then (Err e) rest end P is later = absurd (cc)
and_then (Ok x) rest end P is later = later x refl is

-- the test fails, and then the rest
pub if_not : {A : Type 0} (b : Bool) (e : TimewError) (rest : Result A TimewError) (end : A) → cond b (Err e) rest ≡ Ok end → (b ≡ false) × (rest ≡ Ok end)
if_not true e rest end is = absurd (cc)
if_not false e rest end is = (refl, is)

pub if_so : {A : Type 0} (b : Bool) (e : TimewError) (rest : Result A TimewError) (end : A) → cond b rest (Err e) ≡ Ok end → (b ≡ true) × (rest ≡ Ok end)
if_so true e rest end is = (refl, is)
if_so false e rest end is = absurd (cc)

moment_small : (now : ℕ) (moment : Option ℕ) → now < limit → IfSome moment (λ at. at < limit) → moment_or now moment < limit
moment_small now None small given = small
moment_small now (Some at) small given = given

with_ended_rows : (at : ℕ) (rows : List Interval) (o : Option (List Interval × Interval)) → at < limit → AreRows rows → open_of rows ≡ o → AreRows (with_ended at rows o)
with_ended_rows at rows None small are is = are
with_ended_rows at rows (Some o) small are is = by_case (nat_le o.1.start at) refl
  where
    by_case : (b : Bool) → nat_le o.1.start at ≡ b → AreRows (cond b (o.0 ++ spanning o.1.start (Some at) o.1 ∷ []) rows)
    by_case true le = ended_rows rows o at are is (leb-true o.1.start at le) small
    by_case false le = are

begun_rows : (word : ℕ) (moment : Option ℕ) (tags : List (List ℕ)) (adjust : Bool) (rows next : List Interval) (now : ℕ) → now < limit → IfSome moment (λ at. at < limit) → AreTags tags → AreRows rows → begun word moment tags adjust rows now ≡ Ok next → AreRows next
begun_rows word moment tags adjust rows next now small given good are is =
    let past = if_not (is_past now moment) (Range word) _ next is in
    let ahead = if_not (begins_after now (open_of rows)) (Range 0) _ next past.1 in
    let at = moment_small now moment small given in
    place_rows adjust (open_from (moment_or now moment) tags) [] (with_ended (moment_or now moment) rows (open_of rows)) next
    (record { start = at; end = tt; tags = good.0; rise = good.1; annotation = refl })
    (with_ended_rows (moment_or now moment) rows (open_of rows) at are refl) ahead.1

stopped_rows : (word at : ℕ) (rows next : List Interval) (o : Option (List Interval × Interval)) → at < limit → AreRows rows → open_of rows ≡ o → stopped word at o ≡ Ok next → AreRows next
stopped_rows word at rows next None small are here is = absurd (cc)
stopped_rows word at rows next (Some o) small are here is =
    let early = if_not (nat_lt at o.1.start) (Range word) _ next is in
    subst AreRows (is_ok _ next early.1) (ended_rows rows o at are here (ltb-false at o.1.start early.0) small)

cancelled_rows : (rows next : List Interval) (o : Option (List Interval × Interval)) → AreRows rows → open_of rows ≡ o → cancelled o ≡ Ok next → AreRows next
cancelled_rows rows next None are here is = absurd (cc)
cancelled_rows rows next (Some o) are here is = subst AreRows (is_ok o.0 next is) (dropped_rows rows o are here)

continued_rows : (id : Option ℕ) (adjust : Bool) (rows next : List Interval) (now : ℕ) (o : Option (List Interval × Interval)) → now < limit → AreRows rows → continued id adjust rows now o ≡ Ok next → AreRows next
continued_rows None adjust rows next now (Some o) small are is = absurd (cc)
continued_rows None adjust rows next now None small are is =
    and_then (row_at 1 rows) (λ r. begun 0 None r.tags adjust rows now) next (AreRows next) is (λ r found rest.
    let row = row_of_id 1 rows r are found in begun_rows 0 None r.tags adjust rows next now small tt (row.tags, row.rise) are rest)
continued_rows (Some id) adjust rows next now o small are is =
    and_then (row_at id rows) (λ r. begun 0 None r.tags adjust rows now) next (AreRows next) is (λ r found rest.
    let row = row_of_id id rows r are found in begun_rows 0 None r.tags adjust rows next now small tt (row.tags, row.rise) are rest)

tracked_rows : (word start end : ℕ) (tags : List (List ℕ)) (adjust : Bool) (rows next : List Interval) → end < limit → AreTags tags → AreRows rows → tracked word start end tags adjust rows ≡ Ok next → AreRows next
tracked_rows word start end tags adjust rows next small good are is =
    let later = if_so (nat_lt start end) (Range word) _ next is in
    let lt = ltb-true start end later.0 in
    place_rows adjust (record { start = start; end = Some end; tags = tags; annotation = [] }) [] rows next
    (record { start = omega (arith, lt, small); end = (omega (arith, lt), small); tags = good.0; rise = good.1; annotation = refl }) are later.1

changed_rows : (ids : List ℕ) (change : Interval → Interval) (rows next : List Interval) → KeepsSeconds change → AreRows rows → (targets ids rows >>= λ those. Ok (each_of those change rows)) ≡ Ok next → AreRows next
changed_rows ids change rows next keeps are is =
    and_then (targets ids rows) (λ those. Ok (each_of those change rows)) next (AreRows next) is (λ those found rest.
    subst AreRows (is_ok (each_of those change rows) next rest) (each_rows those change rows keeps are))

deleted_rows : (ids : List ℕ) (rows next : List Interval) → AreRows rows → deleted ids rows ≡ Ok next → AreRows next
deleted_rows ids rows next are is =
    and_then (checked (length rows) ids) (λ n. Ok (rows_in (without ids (numbered rows)))) next (AreRows next) is (λ n found rest.
    subst AreRows (is_ok (rows_in (without ids (numbered rows))) next rest) (without_rows ids rows are))

later_end_in : (a b : ℕ) (e f : Option ℕ) → a ≤ b → IsEnd a e → IsEnd b f → IsEnd a (later_end e f)
later_end_in a b None f le is other = tt
later_end_in a b (Some d) None le is other = tt
later_end_in a b (Some d) (Some g) le is other = by_max d g is other
  where
    by_max : (d g : ℕ) → (a ≤ d) × (d < limit) → (b ≤ g) × (g < limit) → (a ≤ max d g) × (max d g < limit)
    by_max d g is other = (omega (arith, is.0, other.0, le), omega (arith, is.1, other.1))

first_printable : (a b : List ℕ) → is_printable a ≡ true → is_printable b ≡ true → is_printable (first_text a b) ≡ true
first_printable [] b p q = q
first_printable (x ∷ a) b p q = p

joined_row : (r s : Interval) → IsRow r → IsRow s → r.start ≤ s.start → IsRow (joined r s)
joined_row r s is other le =
    let t = all_tags_added s.tags r.tags other.tags (is.tags, is.rise) in
    record { start = is.start; end = later_end_in r.start s.start r.end s.end le is.end other.end; tags = t.0; rise = t.1; annotation = first_printable r.annotation s.annotation is.annotation other.annotation }

replaced_rows : (word id : ℕ) (adjust : Bool) (new : Interval) (rows next : List Interval) → (is_in_range new.end ≡ true → IsRow new) → AreRows rows → replaced word id adjust new rows ≡ Ok next → AreRows next
replaced_rows word id adjust new rows next row are is =
    let inside = if_so (is_in_range new.end) (Range word) _ next is in
    place_rows adjust new (id ∷ []) rows next (row inside.0) are inside.1

moved_in : (start from : ℕ) (end : Option ℕ) → is_in_range (moved_end start from end) ≡ true → IsEnd start (moved_end start from end)
moved_in start from None inside = tt
moved_in start from (Some e) inside = (omega arith, ltb-true (start + (e - from)) limit inside)

moved_rows : (id word start : ℕ) (adjust : Bool) (rows next : List Interval) → start < limit → AreRows rows → moved_to id word start adjust rows ≡ Ok next → AreRows next
moved_rows id word start adjust rows next small are is =
    and_then (row_at id rows) (λ r. replaced word id adjust (spanning start (moved_end start r.start r.end) r) rows) next (AreRows next) is (λ r found rest.
    let row = row_of_id id rows r are found in
    replaced_rows word id adjust (spanning start (moved_end start r.start r.end) r) rows next
    (λ inside. record { start = small; end = moved_in start r.start r.end inside; tags = row.tags; rise = row.rise; annotation = row.annotation }) are rest)

closed_is : (word : ℕ) (end : Option ℕ) (e : ℕ) → closed_end word end ≡ Ok e → end ≡ Some e
closed_is word None e is = absurd (cc)
closed_is word (Some d) e is = ap Some (is_ok d e is)

end_late : (start : ℕ) (end : Option ℕ) (e : ℕ) → end ≡ Some e → IsEnd start end → (start ≤ e) × (e < limit)
end_late start end e same is = subst (IsEnd start) same is

lengthened_rows : (id word : ℕ) (l : Length) (adjust : Bool) (rows next : List Interval) → AreRows rows → lengthened id word l adjust rows ≡ Ok next → AreRows next
lengthened_rows id word l adjust rows next are is =
    and_then (row_at id rows) (λ r. closed_end word r.end >>= λ end. seconds_of word l >>= λ seconds. replaced word id adjust (spanning r.start (Some (end + seconds)) r) rows) next (AreRows next) is (λ r found rest.
    and_then (closed_end word r.end) (λ end. seconds_of word l >>= λ seconds. replaced word id adjust (spanning r.start (Some (end + seconds)) r) rows) next (AreRows next) rest (λ end closed more.
    and_then (seconds_of word l) (λ seconds. replaced word id adjust (spanning r.start (Some (end + seconds)) r) rows) next (AreRows next) more (λ seconds counted last.
    let row = row_of_id id rows r are found in
    let late = end_late r.start r.end end (closed_is word r.end end closed) row.end in
    replaced_rows word id adjust (spanning r.start (Some (end + seconds)) r) rows next
    (λ inside. record { start = row.start; end = (omega (arith, late.0), ltb-true (end + seconds) limit inside); tags = row.tags; rise = row.rise; annotation = row.annotation }) are last)))

shorter_is : (word start end seconds : ℕ) (less : Option ℕ) → end < limit → shorter word start end seconds ≡ Ok less → IsEnd start less
shorter_is word start end seconds less small is =
    let fits = if_so (nat_le (start + seconds) end) (Range word) _ less is in
    subst (IsEnd start) (is_ok (Some (end - seconds)) less fits.1) (omega (arith, leb-true (start + seconds) end fits.0), omega (arith, small))

shortened_rows : (id word : ℕ) (l : Length) (adjust : Bool) (rows next : List Interval) → AreRows rows → shortened id word l adjust rows ≡ Ok next → AreRows next
shortened_rows id word l adjust rows next are is =
    and_then (row_at id rows) (λ r. closed_end word r.end >>= λ end. seconds_of word l >>= λ seconds. shorter word r.start end seconds >>= λ less. replaced word id adjust (spanning r.start less r) rows) next (AreRows next) is (λ r found rest.
    and_then (closed_end word r.end) (λ end. seconds_of word l >>= λ seconds. shorter word r.start end seconds >>= λ less. replaced word id adjust (spanning r.start less r) rows) next (AreRows next) rest (λ end closed more.
    and_then (seconds_of word l) (λ seconds. shorter word r.start end seconds >>= λ less. replaced word id adjust (spanning r.start less r) rows) next (AreRows next) more (λ seconds counted last.
    and_then (shorter word r.start end seconds) (λ less. replaced word id adjust (spanning r.start less r) rows) next (AreRows next) last (λ less cut final.
    let row = row_of_id id rows r are found in
    let late = end_late r.start r.end end (closed_is word r.end end closed) row.end in
    replaced_rows word id adjust (spanning r.start less r) rows next
    (λ inside. record { start = row.start; end = shorter_is word r.start end seconds less late.1 cut; tags = row.tags; rise = row.rise; annotation = row.annotation }) are final))))

-- ---- two rows by their numbers

start_late : (k : ℕ) (r : Interval) (rows : List Interval) (s : Interval) → IsRow r → IsBefore r.end rows → AreRows rows → slice_get rows k ≡ Some s → r.start ≤ s.start
start_late k r [] s is before are found = absurd (cc)
start_late zero r (x ∷ rows) s is before are found = subst (λ (y : Interval). r.start ≤ y.start) (some_is x s found) (own_start r.end r.start (x ∷ rows) is.end before)
  where
    some_is : (x s : Interval) → Some x ≡ Some s → x ≡ s
    some_is x s e = cc
start_late (suc k) r (x ∷ rows) s is before are found = start_late k r rows s is (before_next r.end x rows before are.0.end are.1) are.2 found

in_front_of : (k j : ℕ) (rows : List Interval) (r s : Interval) → AreRows rows → k ≤ j → slice_get rows k ≡ Some r → slice_get rows j ≡ Some s → r.start ≤ s.start
in_front_of k j [] r s are le is other = absurd (cc)
in_front_of zero zero (x ∷ rows) r s are le is other = let same : r ≡ s = cc in subst (λ (y : Interval). r.start ≤ y.start) same (omega arith)
in_front_of zero (suc j) (x ∷ rows) r s are le is other = subst (λ (y : Interval). y.start ≤ s.start) (some_is x r is) (start_late j x rows s are.0 are.1 are.2 other)
  where
    some_is : (x r : Interval) → Some x ≡ Some r → x ≡ r
    some_is x r e = cc
in_front_of (suc k) zero (x ∷ rows) r s are le is other = absurd (omega (arith, le))
in_front_of (suc k) (suc j) (x ∷ rows) r s are le is other = in_front_of k j rows r s are.2 (omega (arith, le)) is other

place_of_id : (id : ℕ) (rows : List Interval) (r : Interval) → row_at id rows ≡ Ok r → slice_get rows (length rows - id) ≡ Some r
place_of_id id rows r is = by_case (nat_le 1 id && nat_le id (length rows)) is
  where
    some_of : (o : Option Interval) → row_or id o ≡ Ok r → o ≡ Some r
    some_of None is = absurd (cc)
    some_of (Some x) is = cc

    by_case : (b : Bool) → row_or id (cond b (slice_get rows (length rows - id)) None) ≡ Ok r → slice_get rows (length rows - id) ≡ Some r
    by_case true is = some_of (slice_get rows (length rows - id)) is
    by_case false is = absurd (cc)

joined_rows : (first second : ℕ) (adjust : Bool) (rows next : List Interval) → AreRows rows → joined_both first second adjust rows ≡ Ok next → AreRows next
joined_rows first second adjust rows next are is =
    and_then (checked (length rows) (first ∷ second ∷ [])) (λ n. row_at (max first second) rows >>= λ earlier. row_at (min first second) rows >>= λ later. place adjust (joined earlier later) (first ∷ second ∷ []) rows) next (AreRows next) is (λ n tested rest.
    and_then (row_at (max first second) rows) (λ earlier. row_at (min first second) rows >>= λ later. place adjust (joined earlier later) (first ∷ second ∷ []) rows) next (AreRows next) rest (λ earlier found more.
    and_then (row_at (min first second) rows) (λ later. place adjust (joined earlier later) (first ∷ second ∷ []) rows) next (AreRows next) more (λ later found_too last.
    let order = in_front_of (length rows - max first second) (length rows - min first second) rows earlier later are (omega arith) (place_of_id (max first second) rows earlier found) (place_of_id (min first second) rows later found_too) in
    place_rows adjust (joined earlier later) (first ∷ second ∷ []) rows next (joined_row earlier later (row_of_id (max first second) rows earlier are found) (row_of_id (min first second) rows later are found_too) order) are last)))

split_all_rows : (ids : List ℕ) (rows next : List Interval) (now : ℕ) → now < limit → AreRows rows → split_all ids rows now ≡ Ok next → AreRows next
split_all_rows ids rows next now small are is =
    and_then (checked (length rows) ids) (λ n. split ids rows now) next (AreRows next) is (λ n tested rest. split_rows ids rows next now small are rest)

-- ---- every command

pub planned_rows : (c : Changing) (rows next : List Interval) (now : ℕ) → IsGivenChange c → now < limit → AreRows rows → planned c rows now ≡ Ok next → AreRows next
planned_rows (Start parts) rows next now given small are is = begun_rows parts.word parts.moment parts.tags parts.adjust rows next now small given.0 given.1 are is
planned_rows (Stop parts) rows next now given small are is = stopped_rows parts.word (moment_or now parts.moment) rows next (open_of rows) (moment_small now parts.moment small given) are refl is
planned_rows Cancel rows next now given small are is = cancelled_rows rows next (open_of rows) are refl is
planned_rows (Continue parts) rows next now given small are is = continued_rows parts.id parts.adjust rows next now (open_of rows) small are is
planned_rows (Track parts) rows next now given small are is = tracked_rows parts.word parts.start parts.end parts.tags parts.adjust rows next given.0 given.1 are is
planned_rows (Tag parts) rows next now given small are is = changed_rows parts.ids (with_tags parts.tags) rows next (tags_keep parts.tags given.0) are is
planned_rows (Untag parts) rows next now given small are is = changed_rows parts.ids (without_tags parts.tags) rows next (untags_keep parts.tags) are is
planned_rows (Annotate parts) rows next now given small are is = changed_rows (as_ids parts.id) (with_annotation parts.text) rows next (note_keeps parts.text given) are is
planned_rows (Delete ids) rows next now given small are is = deleted_rows ids rows next are is
planned_rows (Split ids) rows next now given small are is = split_all_rows ids rows next now small are is
planned_rows (Join parts) rows next now given small are is = joined_rows parts.first parts.second parts.adjust rows next are is
planned_rows (Move parts) rows next now given small are is = moved_rows parts.id parts.word parts.start parts.adjust rows next given are is
planned_rows (Lengthen parts) rows next now given small are is = lengthened_rows parts.id parts.word parts.length parts.adjust rows next are is
planned_rows (Shorten parts) rows next now given small are is = shortened_rows parts.id parts.word parts.length parts.adjust rows next are is

-- what is planned as an edit is one of intervals in order
pub planned_edit : (command : Changing) (rows : List Interval) (now : ℕ) (r : Result Edit TimewError) → IsGivenChange command → now < limit → AreRows rows → Answers (λ e. edited e rows) r (planned command rows now) → IfOk r (λ e. e.at + e.count ≤ length rows)
    → IfOk r (IsEditOf rows)
planned_edit command rows now (Err e) given small are is inside = tt
planned_edit command rows now (Ok e) given small are is inside = record { inside = inside; are = planned_rows command rows (edited e rows) now given small are is }
