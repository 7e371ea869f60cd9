-- The seconds of an interval that is placed in the stead of another.
use Rattle.std.specs.Prelude.{nat_le, slice_get, not, max, min, ◌==◌, ◌*◌}
use Rattle.std.proofs.Common.{◌≡◌, ℕ, zero, suc, ◌+◌, ◌-◌, Bool, true, false, cond, ◌&&◌, List, [], ◌∷◌, ◌++◌, length, Option, Some, None, Ok, Err, refl, sym, ap, subst, ◌∙◌, arith, length-append}
use Rattle.std.proofs.lemmas.Bool.{leb-true}
use Rattle.std.proofs.lemmas.Bool.Decides.{nat_tests}
use Rattle.tw_time.specs.declared.length.Length.{Length}
use Rattle.timew_interval.specs.declared.interval.Interval.{Interval}
use Rattle.timew_interval.specs.Interval.{Content, content, goes_past, has, at, EndsBy, IsBefore, AreRows}
use Rattle.timew_interval.specs.Placing.{spanning}
use Rattle.timew_interval.proofs.Placed.{at-append}
use Rattle.timew_cmd.specs.declared.error.TimewError.TheVariants.{Range}
use Rattle.timew_cmd.specs.Commands.Join.{joined, joined_both}
use Rattle.timew_cmd.specs.Commands.Lengthen.{lengthened}
use Rattle.timew_cmd.specs.Commands.Move.{moved_to, moved_end}
use Rattle.timew_cmd.specs.Commands.Shorten.{shortened, shorter}
use Rattle.timew_cmd.specs.Numbers.{numbered, is_among, without, rows_in, row_at, row_or, checked}
use Rattle.timew_cmd.specs.Placing.{place}
use Rattle.timew_cmd.specs.Replacing.{replaced, is_in_range, closed_end, seconds_of}
use Rattle.timew_words.specs.Results.{◌>>=◌}
use Rattle.timew_cmd.specs.Seconds.{Takes, Moves}
use Rattle.timew_cmd.proofs.PlannedRows.{if_so, and_then}
use Rattle.timew_cmd.proofs.RowsInOrder.{before_next}
use Rattle.timew_cmd.proofs.SecondsHad.{is_same, others_take, front_free}
use Rattle.timew_cmd.proofs.Window.{others_kept, others_back}

-- ---- one that is placed in the stead of another

-- where a row stands
record Stands (rows : List Interval) (r : Interval) (id : ℕ) : Type 0 where
  front : List Interval
  back : List Interval
  whole : rows ≡ front ++ r ∷ back
  number : length back + 1 ≡ id

stands_at : (rows : List Interval) (k : ℕ) (r : Interval) → slice_get rows k ≡ Some r → Stands rows r (length rows - k)
stands_at [] k r is = absurd (cc)
stands_at (x ∷ rows) zero r is = let same : x ≡ r = cc in record { front = []; back = rows; whole = ap (λ (y : Interval). y ∷ rows) same; number = omega arith }
stands_at (x ∷ rows) (suc k) r is =
    let rest = stands_at rows k r is in
    record { front = x ∷ rest.front; back = rest.back; whole = ap (λ (l : List Interval). x ∷ l) rest.whole; number = omega (arith, rest.number) }

stands_of : (id : ℕ) (rows : List Interval) (r : Interval) → row_at id rows ≡ Ok r → Stands rows r id
stands_of id rows r is = by_case (nat_le 1 id && nat_le id (length rows)) refl is
  where
    some_of : (o : Option Interval) → row_or id o ≡ Ok r → o ≡ Some r
    some_of None e = absurd (cc)
    some_of (Some x) e = cc

    back_to : nat_le 1 id && nat_le id (length rows) ≡ true → length rows - (length rows - id) ≡ id
    back_to inside = grind (arith, nat_tests)

    by_case : (b : Bool) → nat_le 1 id && nat_le id (length rows) ≡ b → row_or id (cond b (slice_get rows (length rows - id)) None) ≡ Ok r → Stands rows r id
    by_case false inside e = absurd (cc)
    by_case true inside e = subst (Stands rows r) (back_to inside) (stands_at rows (length rows - id) r (some_of (slice_get rows (length rows - id)) e))

same_number : (id n : ℕ) → id ≡ n → is_among (id ∷ []) n ≡ true
same_number id n same = grind (arith, nat_tests)

other_number : (id n : ℕ) → (id ≡ n → ⊥) → is_among (id ∷ []) n ≡ false
other_number id n other = grind (arith, nat_tests)

one_out : (id : ℕ) (front : List Interval) (r : Interval) (back : List Interval) → length back + 1 ≡ id → rows_in (without (id ∷ []) (numbered (front ++ r ∷ back))) ≡ front ++ back
one_out id [] r back number =
    ap (λ (b : Bool). rows_in (cond (not b) ((length back + 1, r) ∷ without (id ∷ []) (numbered back)) (without (id ∷ []) (numbered back)))) (same_number id (length back + 1) (sym number))
    ∙ others_back (id ∷ []) (λ rows. rows_in (without (id ∷ []) (numbered rows))) (others_kept (id ∷ [])) back (λ n low high. other_number id n (λ same. omega arith))
one_out id (x ∷ front) r back number =
    (others_kept (id ∷ [])).more x (front ++ r ∷ back) (other_number id (length (front ++ r ∷ back) + 1) (λ same. omega (arith, length-append front (r ∷ back))))
    ∙ ap (λ (l : List Interval). x ∷ l) (one_out id front r back number)

-- rows behind one have not begun before it ends
pub back_free : (end : Option ℕ) (back : List Interval) (s : ℕ) → goes_past end s ≡ true → IsBefore end back → AreRows back → at back s ≡ None
back_free end [] s past before are = refl
back_free end (r ∷ back) s past before are =
    ap (λ (b : Bool). cond b (Some (content r)) (at back s)) (ap (λ (b : Bool). b && goes_past r.end s) (not_begun end r.start s past before)) ∙ back_free end back s past (before_next end r back before are.0.end are.1) are.2
  where
    not_begun : (e : Option ℕ) (start s : ℕ) → goes_past e s ≡ true → EndsBy e start → nat_le start s ≡ false
    not_begun None start s past by = absurd by
    not_begun (Some e) start s past by = grind (arith, nat_tests)

are_behind : (front : List Interval) (r : Interval) (back : List Interval) → AreRows (front ++ r ∷ back) → AreRows (r ∷ back)
are_behind [] r back are = are
are_behind (x ∷ front) r back are = are_behind front r back are.2

without_it : (front : List Interval) (r : Interval) (back : List Interval) (s : ℕ) → has r s ≡ false → at (front ++ back) s ≡ at (front ++ r ∷ back) s
without_it [] r back s is = sym (ap (λ (b : Bool). cond b (Some (content r)) (at back s)) is)
without_it (x ∷ front) r back s is = ap (λ (o : Option Content). cond (has x s) (Some (content x)) o) (without_it front r back s is)

both : (a b : Bool) → (a && b) ≡ true → (a ≡ true) × (b ≡ true)
both true b is = (refl, is)
both false b is = absurd (cc)

one_free : (front : List Interval) (r : Interval) (back : List Interval) (s : ℕ) → AreRows (front ++ r ∷ back) → at (front ++ back) s ≡ cond (has r s) None (at (front ++ r ∷ back) s)
one_free front r back s are = by_case (has r s) refl
  where
    by_case : (b : Bool) → has r s ≡ b → at (front ++ back) s ≡ cond b None (at (front ++ r ∷ back) s)
    by_case true is =
        let parts = both (nat_le r.start s) (goes_past r.end s) is in
        let rest = are_behind front r back are in
        at-append front back s (front_free front r back s are (leb-true r.start s parts.0)) ∙ back_free r.end back s parts.1 rest.1 rest.2
    by_case false is = without_it front r back s is

pub replaced_moves : (word id : ℕ) (adjust : Bool) (new : Interval) (rows next : List Interval) (r : Interval) → AreRows rows → row_at id rows ≡ Ok r → replaced word id adjust new rows ≡ Ok next → Moves r new rows next
replaced_moves word id adjust new rows next r are row is = λ s.
    let here = stands_of id rows r row in
    let others : rows_in (without (id ∷ []) (numbered rows)) ≡ here.front ++ here.back = ap (λ (l : List Interval). rows_in (without (id ∷ []) (numbered l))) here.whole ∙ one_out id here.front r here.back here.number in
    others_take adjust new (id ∷ []) rows next (if_so (is_in_range new.end) (Range word) (place adjust new (id ∷ []) rows) next is).1 s
    ∙ ap (λ (o : Option Content). cond (has new s) (Some (content new)) o) (ap (λ (l : List Interval). at l s) others ∙ one_free here.front r here.back s (subst AreRows here.whole are) ∙ ap (λ (l : List Interval). cond (has r s) None (at l s)) (sym here.whole))

pub move_moves : (id word start : ℕ) (adjust : Bool) (rows next : List Interval) (r : Interval) → AreRows rows → row_at id rows ≡ Ok r → moved_to id word start adjust rows ≡ Ok next
    → Moves r (spanning start (moved_end start r.start r.end) r) rows next
move_moves id word start adjust rows next r are row is =
    and_then (row_at id rows) (λ x. replaced word id adjust (spanning start (moved_end start x.start x.end) x) rows) next (Moves r (spanning start (moved_end start r.start r.end) r) rows next) is (λ x here went.
    let same : x ≡ r = is_same (row_at id rows) x r here row in
    replaced_moves word id adjust (spanning start (moved_end start r.start r.end) r) rows next r are row
    (subst (λ (y : Interval). replaced word id adjust (spanning start (moved_end start y.start y.end) y) rows ≡ Ok next) same went))

-- a closed interval, and a length without months
closed_is : (word : ℕ) (end : Option ℕ) (e f : ℕ) → closed_end word end ≡ Ok f → end ≡ Some e → f ≡ e
closed_is word None e f is closed = absurd (cc)
closed_is word (Some g) e f is closed = cc

seconds_are : (word : ℕ) (length : Length) (n : ℕ) → seconds_of word length ≡ Ok n → n ≡ length.seconds + length.days * 86400
seconds_are word length n is = by_case (length.months == 0) is
  where
    by_case : (b : Bool) → cond b (Ok (length.seconds + length.days * 86400)) (Err (Range word)) ≡ Ok n → n ≡ length.seconds + length.days * 86400
    by_case true e = cc
    by_case false e = absurd (cc)

pub lengthen_moves : (id word : ℕ) (l : Length) (adjust : Bool) (rows next : List Interval) (end : ℕ) (r : Interval) → AreRows rows → row_at id rows ≡ Ok r → r.end ≡ Some end → lengthened id word l adjust rows ≡ Ok next
    → Moves r (spanning r.start (Some (end + (l.seconds + l.days * 86400))) r) rows next
lengthen_moves id word l adjust rows next end r are row closed is =
    and_then (row_at id rows) (λ x. closed_end word x.end >>= λ f. seconds_of word l >>= λ n. replaced word id adjust (spanning x.start (Some (f + n)) x) rows) next goal is (λ x here went.
    let same : x ≡ r = is_same (row_at id rows) x r here row in
    let now_is : (closed_end word r.end >>= λ f. seconds_of word l >>= λ n. replaced word id adjust (spanning r.start (Some (f + n)) r) rows) ≡ Ok next =
    subst (λ (y : Interval). (closed_end word y.end >>= λ f. seconds_of word l >>= λ n. replaced word id adjust (spanning y.start (Some (f + n)) y) rows) ≡ Ok next) same went in
    and_then (closed_end word r.end) (λ f. seconds_of word l >>= λ n. replaced word id adjust (spanning r.start (Some (f + n)) r) rows) next goal now_is (λ f ends more.
    and_then (seconds_of word l) (λ n. replaced word id adjust (spanning r.start (Some (f + n)) r) rows) next goal more (λ n so_many done.
    let long : f + n ≡ end + (l.seconds + l.days * 86400) = omega (arith, closed_is word r.end end f ends closed, seconds_are word l n so_many) in
    replaced_moves word id adjust (spanning r.start (Some (end + (l.seconds + l.days * 86400))) r) rows next r are row
    (subst (λ (k : ℕ). replaced word id adjust (spanning r.start (Some k) r) rows ≡ Ok next) long done))))
  where
    goal : Type 0
    goal = Moves r (spanning r.start (Some (end + (l.seconds + l.days * 86400))) r) rows next

shorter_is : (word start end n : ℕ) (less : Option ℕ) → shorter word start end n ≡ Ok less → less ≡ Some (end - n)
shorter_is word start end n less is = by_case (nat_le (start + n) end) is
  where
    by_case : (b : Bool) → cond b (Ok (Some (end - n))) (Err (Range word)) ≡ Ok less → less ≡ Some (end - n)
    by_case true e = cc
    by_case false e = absurd (cc)

pub shorten_moves : (id word : ℕ) (l : Length) (adjust : Bool) (rows next : List Interval) (end : ℕ) (r : Interval) → AreRows rows → row_at id rows ≡ Ok r → r.end ≡ Some end → shortened id word l adjust rows ≡ Ok next
    → Moves r (spanning r.start (Some (end - (l.seconds + l.days * 86400))) r) rows next
shorten_moves id word l adjust rows next end r are row closed is =
    and_then (row_at id rows) (λ x. closed_end word x.end >>= λ f. seconds_of word l >>= λ n. shorter word x.start f n >>= λ less. replaced word id adjust (spanning x.start less x) rows) next goal is (λ x here went.
    let same : x ≡ r = is_same (row_at id rows) x r here row in
    let now_is : (closed_end word r.end >>= λ f. seconds_of word l >>= λ n. shorter word r.start f n >>= λ less. replaced word id adjust (spanning r.start less r) rows) ≡ Ok next =
    subst (λ (y : Interval). (closed_end word y.end >>= λ f. seconds_of word l >>= λ n. shorter word y.start f n >>= λ less. replaced word id adjust (spanning y.start less y) rows) ≡ Ok next) same went in
    and_then (closed_end word r.end) (λ f. seconds_of word l >>= λ n. shorter word r.start f n >>= λ less. replaced word id adjust (spanning r.start less r) rows) next goal now_is (λ f ends more.
    and_then (seconds_of word l) (λ n. shorter word r.start f n >>= λ less. replaced word id adjust (spanning r.start less r) rows) next goal more (λ n so_many rest.
    and_then (shorter word r.start f n) (λ less. replaced word id adjust (spanning r.start less r) rows) next goal rest (λ less short done.
    let early : less ≡ Some (end - (l.seconds + l.days * 86400)) =
    shorter_is word r.start f n less short ∙ ap (λ (k : ℕ). Some k) (omega (arith, closed_is word r.end end f ends closed, seconds_are word l n so_many)) in
    replaced_moves word id adjust (spanning r.start (Some (end - (l.seconds + l.days * 86400))) r) rows next r are row
    (subst (λ (o : Option ℕ). replaced word id adjust (spanning r.start o r) rows ≡ Ok next) early done)))))
  where
    goal : Type 0
    goal = Moves r (spanning r.start (Some (end - (l.seconds + l.days * 86400))) r) rows next

pub join_takes : (first second : ℕ) (adjust : Bool) (rows next : List Interval) (earlier later : Interval) → row_at (max first second) rows ≡ Ok earlier → row_at (min first second) rows ≡ Ok later → joined_both first second adjust rows ≡ Ok next
    → Takes (joined earlier later) (rows_in (without (first ∷ second ∷ []) (numbered rows))) next
join_takes first second adjust rows next earlier later found found_too is =
    and_then (checked (length rows) (first ∷ second ∷ [])) (λ n. row_at (max first second) rows >>= λ x. row_at (min first second) rows >>= λ y. place adjust (joined x y) (first ∷ second ∷ []) rows) next goal is (λ n tested rest.
    and_then (row_at (max first second) rows) (λ x. row_at (min first second) rows >>= λ y. place adjust (joined x y) (first ∷ second ∷ []) rows) next goal rest (λ x here more.
    and_then (row_at (min first second) rows) (λ y. place adjust (joined x y) (first ∷ second ∷ []) rows) next goal more (λ y there last.
    let one : x ≡ earlier = is_same (row_at (max first second) rows) x earlier here found in
    let other : y ≡ later = is_same (row_at (min first second) rows) y later there found_too in
    others_take adjust (joined earlier later) (first ∷ second ∷ []) rows next
    (subst (λ (r : Interval). place adjust (joined r later) (first ∷ second ∷ []) rows ≡ Ok next) one (subst (λ (r : Interval). place adjust (joined x r) (first ∷ second ∷ []) rows ≡ Ok next) other last)))))
  where
    goal : Type 0
    goal = Takes (joined earlier later) (rows_in (without (first ∷ second ∷ []) (numbered rows))) next
