-- The tracked seconds of a range are those of its intervals.
use Rattle.std.specs.Prelude.{max, nat_lt, nat_le, not, unwrap_or, is_some, sum}
use Rattle.std.proofs.Common.{◌≡◌, ◌⊎◌, inl, inr, ℕ, zero, suc, ◌+◌, ◌-◌, ◌<◌, ◌≤◌, Bool, true, false, cond, ◌&&◌, List, [], ◌∷◌, map, take, drop, drop-cons, length, get_or, Option, Some, None, refl, sym, ap, subst, ◌∙◌, arith}
use Rattle.std.proofs.lemmas.Bool.{ltb-true, ltb-false, lt-leb, le-leb, le-ltb, cases_lt}
use Rattle.std.proofs.lemmas.List.{drop_all}
use Rattle.std.proofs.lemmas.List.Sums.{sum_by-cons}
use Rattle.timew_interval.specs.declared.interval.Interval.{Interval}
use Rattle.timew_interval.specs.Interval.{Content, content, at, IsRow, IsEnd, IsBefore, StartsFrom, AreRows}
use Rattle.timew_cmd.specs.Ranges.{measured, seconds_within, total}
use Rattle.timew_report.specs.Time.{one_if, count, at_now, is_tracked, time}
use Rattle.timew_report.specs.Walk.{has_more, AreSpent, IsNext}
use Rattle.timew_report.proofs.Counting.{count_same, count_none, count_either, count_span, count_all}

-- ---- intervals in order

-- those behind one start where it is measured or later
pub starts_behind : (now : ℕ) (r : Interval) (rows : List Interval) → AreRows (r ∷ rows) → StartsFrom (measured now r) rows
starts_behind now r rows are = of_end r.end rows are.1
  where
    of_end : (e : Option ℕ) (rows : List Interval) → IsBefore e rows → StartsFrom (unwrap_or e (max now r.start)) rows
    of_end e [] before = tt
    of_end None (q ∷ rows) before = absurd before
    of_end (Some e) (q ∷ rows) before = before

measured_from : (now start : ℕ) (e : Option ℕ) → IsEnd start e → start ≤ unwrap_or e (max now start)
measured_from now start None is = omega arith
measured_from now start (Some e) is = is.0

pub start_first : (now : ℕ) (r : Interval) → IsRow r → r.start ≤ measured now r
start_first now r is = measured_from now r.start r.end is.end

pub starts_later : (a b : ℕ) (rows : List Interval) → a ≤ b → StartsFrom b rows → StartsFrom a rows
starts_later a b [] le starts = tt
starts_later a b (r ∷ rows) le starts = omega (arith, le, starts)

-- nothing is tracked before they start
pub none_before : (now s b : ℕ) (rows : List Interval) → AreRows rows → StartsFrom b rows → s < b → at_now rows now s ≡ None
none_before now s b [] are starts lt = refl
none_before now s b (r ∷ rows) are starts lt =
    ap (λ t. cond (t && nat_lt s (measured now r)) (Some (content r)) (at_now rows now s)) (lt-leb r.start s (omega (arith, starts, lt)))
    ∙ none_before now s b rows are.2 (starts_later b (measured now r) rows (let h : r.start ≤ measured now r = start_first now r are.0 in omega (arith, h, starts)) (starts_behind now r rows are)) lt

-- ---- counting

-- what a content may be
abbrev pub says : (Content → Bool) → Option Content → Bool
says q None = false
says q (Some c) = q c

-- the seconds of intervals of a kind
abbrev pub sums : (Content → Bool) → (from to now : ℕ) → List Interval → ℕ
sums q from to now [] = 0
sums q from to now (r ∷ rows) = cond (q (content r)) (seconds_within from to now r) 0 + sums q from to now rows

module _ (q : Content → Bool) (now : ℕ) (r : Interval) (rows : List Interval) (are : AreRows (r ∷ rows)) where
  abbrev has_it : ℕ → Bool
  has_it s = nat_le r.start s && nat_lt s (measured now r)

  -- where the first one has a second, no other has it
  apart : (s : ℕ) → has_it s ≡ true → at_now rows now s ≡ None
  apart s is = none_before now s (measured now r) rows are.2 (starts_behind now r rows are) (of_parts (nat_le r.start s) (nat_lt s (measured now r)) refl is)
    where
      of_parts : (a b : Bool) → nat_lt s (measured now r) ≡ b → (a && b) ≡ true → s < measured now r
      of_parts true true e is = ltb-true s (measured now r) e
      of_parts true false e is = absurd (cc)
      of_parts false b e is = absurd (cc)

  kind_of_first : (s : ℕ) (h k : Bool) → has_it s ≡ h → q (content r) ≡ k → one_if (says q (cond h (Some (content r)) (at_now rows now s))) ≡ one_if (h && k) + one_if (says q (at_now rows now s))
  kind_of_first s true k is kind = ap one_if kind ∙ (let none : one_if (says q (at_now rows now s)) ≡ 0 = ap (λ o. one_if (says q o)) (apart s is) in omega (arith, none))
  kind_of_first s false k is kind = omega arith

  span_of : (k : Bool) (from to : ℕ) → count (λ s. has_it s && k) from (to - from) ≡ cond k (seconds_within from to now r) 0
  span_of true from to = count_same (λ s. (nat_le r.start s && nat_lt s (measured now r)) && true) (λ s. nat_le r.start s && nat_lt s (measured now r)) from (to - from) (λ s low high. and_true (nat_le r.start s && nat_lt s (measured now r))) ∙ count_span r.start (measured now r) from (to - from) ∙ omega arith
    where
      and_true : (b : Bool) → (b && true) ≡ b
      and_true true = refl
      and_true false = refl
  span_of false from to = count_same (λ s. (nat_le r.start s && nat_lt s (measured now r)) && false) (λ s. false) from (to - from) (λ s low high. and_false (nat_le r.start s && nat_lt s (measured now r))) ∙ count_none from (to - from)
    where
      and_false : (b : Bool) → (b && false) ≡ false
      and_false true = refl
      and_false false = refl

pub counted : (q : Content → Bool) (from to now : ℕ) (rows : List Interval) → AreRows rows → count (λ s. says q (at_now rows now s)) from (to - from) ≡ sums q from to now rows
counted q from to now [] are = count_none from (to - from)
counted q from to now (r ∷ rows) are =
    count_either (λ s. says q (at_now (r ∷ rows) now s)) (λ s. has_it q now r rows are s && q (content r)) (λ s. says q (at_now rows now s)) from (to - from)
    (λ s low high. kind_of_first q now r rows are s (has_it q now r rows are s) (q (content r)) refl refl)
    ∙ rw (span_of q now r rows are (q (content r)) from to, counted q from to now rows are.2) refl

-- ---- all tracked seconds

sums_all : (from to now : ℕ) (rows : List Interval) → sums (λ c. true) from to now rows ≡ total from to now rows
sums_all from to now [] = refl
sums_all from to now (r ∷ rows) = ap (λ k. seconds_within from to now r + k) (sums_all from to now rows) ∙ sym (sum_by-cons (λ n. n) (seconds_within from to now r) (map (seconds_within from to now) rows))

some_said : (o : Option Content) → is_some o ≡ says (λ c. true) o
some_said None = refl
some_said (Some c) = refl

pub time_total : (rows : List Interval) (from to now : ℕ) → AreRows rows → time rows from to now ≡ total from to now rows
time_total rows from to now are =
    count_same (is_tracked rows now) (λ s. says (λ c. true) (at_now rows now s)) from (to - from) (λ s low high. some_said (at_now rows now s))
    ∙ counted (λ c. true) from to now rows are ∙ sums_all from to now rows

tracked_or_free : (b : Bool) → one_if true ≡ one_if b + one_if (not b)
tracked_or_free true = refl
tracked_or_free false = refl

pub tracked_and_free : (rows : List Interval) (from to now : ℕ) → time rows from to now + count (λ s. not (is_tracked rows now s)) from (to - from) ≡ to - from
tracked_and_free rows from to now =
    sym (count_either (λ s. true) (is_tracked rows now) (λ s. not (is_tracked rows now s)) from (to - from) (λ s low high. tracked_or_free (is_tracked rows now s)))
    ∙ count_all from (to - from)

-- ---- intervals that were passed by

first_total : (from to now : ℕ) (r : Interval) (rows : List Interval) → total from to now (r ∷ rows) ≡ seconds_within from to now r + total from to now rows
first_total from to now r rows = sum_by-cons (λ n. n) (seconds_within from to now r) (map (seconds_within from to now) rows)

spent_ends : (at now : ℕ) (r : Interval) → has_more at now r ≡ false → measured now r ≤ max r.start at
spent_ends at now r is = ltb-false (max r.start at) (measured now r) is

pub still_spent : (at later now : ℕ) (rows : List Interval) → at ≤ later → AreSpent at now rows → AreSpent later now rows
still_spent at later now [] le are = tt
still_spent at later now (r ∷ rows) le are = (le-ltb (max r.start later) (measured now r) (let h : measured now r ≤ max r.start at = spent_ends at now r are.0 in omega (arith, h, le)), still_spent at later now rows le are.1)

spent_none : (from to now : ℕ) (r : Interval) → has_more from now r ≡ false → seconds_within from to now r ≡ 0
spent_none from to now r is = let h : measured now r ≤ max r.start from = spent_ends from now r is in omega (arith, h)

none_more : (n : ℕ) → 0 + n ≡ n
none_more n = omega arith

-- those behind them have the seconds
pub behind_spent : (from to now k : ℕ) (rows : List Interval) → AreSpent from now (take k rows) → total from to now (drop k rows) ≡ total from to now rows
behind_spent from to now zero rows are = refl
behind_spent from to now (suc k) [] are = refl
behind_spent from to now (suc k) (r ∷ rows) are =
    behind_spent from to now k rows are.1 ∙ sym (first_total from to now r rows ∙ ap (λ n. n + total from to now rows) (spent_none from to now r are.0) ∙ none_more (total from to now rows))

spent_has_not : (at now s : ℕ) (r : Interval) → has_more at now r ≡ false → at ≤ s → (nat_le r.start s && nat_lt s (measured now r)) ≡ false
spent_has_not at now s r is le = let h : measured now r ≤ max r.start at = spent_ends at now r is in by_start (cases_lt s r.start) h
  where
    by_start : (s < r.start) ⊎ (r.start ≤ s) → measured now r ≤ max r.start at → (nat_le r.start s && nat_lt s (measured now r)) ≡ false
    by_start (inl early) h = ap (λ b. b && nat_lt s (measured now r)) (lt-leb r.start s early)
    by_start (inr late) h = ap (λ b. b && nat_lt s (measured now r)) (le-leb r.start s late) ∙ le-ltb s (measured now r) (omega (arith, h, late, le))

pub same_behind : (at now s k : ℕ) (rows : List Interval) → AreSpent at now (take k rows) → at ≤ s → at_now rows now s ≡ at_now (drop k rows) now s
same_behind at now s zero rows are le = refl
same_behind at now s (suc k) [] are le = refl
same_behind at now s (suc k) (r ∷ rows) are le =
    ap (λ b. cond b (Some (content r)) (at_now rows now s)) (spent_has_not at now s r are.0 le) ∙ same_behind at now s k rows are.1 le

-- an interval that starts behind a range has none of its seconds
pub none_late : (from to now : ℕ) (rows : List Interval) → AreRows rows → StartsFrom to rows → total from to now rows ≡ 0
none_late from to now [] are starts = refl
none_late from to now (r ∷ rows) are starts =
    first_total from to now r rows
    ∙ (let rest : total from to now rows ≡ 0 = none_late from to now rows are.2 (starts_later to (measured now r) rows (let h : r.start ≤ measured now r = start_first now r are.0 in omega (arith, h, starts)) (starts_behind now r rows are)) in omega (arith, rest, starts))

pub drop_rows : (k : ℕ) (rows : List Interval) → AreRows rows → AreRows (drop k rows)
drop_rows zero rows are = are
drop_rows (suc k) [] are = tt
drop_rows (suc k) (r ∷ rows) are = drop_rows k rows are.2

-- ---- one more, and the next

pub spent_more : (at now k : ℕ) (rows : List Interval) (r : Interval) → k < length rows → r ≡ get_or rows k r → has_more at now r ≡ false → AreSpent at now (take k rows) → AreSpent at now (take (suc k) rows)
spent_more at now k [] r lt is fails are = absurd (omega (arith, lt))
spent_more at now zero (x ∷ rows) r lt is fails are = (subst (λ (q : Interval). has_more at now q ≡ false) is fails, tt)
spent_more at now (suc k) (x ∷ rows) r lt is fails are = (are.0, spent_more at now k rows r (omega (arith, lt)) is fails are.1)

pub next_is : (at now k : ℕ) (rows : List Interval) (r : Interval) → k < length rows → r ≡ get_or rows k r → has_more at now r ≡ true → IsNext at now (drop k rows)
next_is at now k [] r lt is more = absurd (omega (arith, lt))
next_is at now zero (x ∷ rows) r lt is more = subst (λ (q : Interval). has_more at now q ≡ true) is more
next_is at now (suc k) (x ∷ rows) r lt is more = next_is at now k rows r (omega (arith, lt)) is more

pub none_said : (o : Option Content) → o ≡ None → is_some o ≡ false
none_said None is = refl
none_said (Some c) is = absurd (cc)

-- nothing is tracked where all are passed by
pub none_left : (at to now k : ℕ) (rows : List Interval) → length rows ≤ k → AreSpent at now (take k rows) → (s : ℕ) → at ≤ s → s < to → is_tracked rows now s ≡ false
none_left at to now k rows all are s low high = none_said (at_now rows now s) (same_behind at now s k rows are low ∙ ap (λ l. at_now l now s) (drop_all k rows all))

-- nothing is tracked before the next one starts, and then its first second is
module _ (at now k : ℕ) (rows : List Interval) (r : Interval) (are : AreRows rows) (spent : AreSpent at now (take k rows)) (lt : k < length rows) (is : r ≡ get_or rows k r) where
  rest_is : drop k rows ≡ r ∷ drop (suc k) rows
  rest_is = drop-cons rows k r lt ∙ ap (λ (q : Interval). q ∷ drop (suc k) rows) (sym is)

  rest_are : AreRows (r ∷ drop (suc k) rows)
  rest_are = subst AreRows rest_is (drop_rows k rows are)

  pub none_yet : (s : ℕ) → at ≤ s → s < r.start → is_tracked rows now s ≡ false
  none_yet s low early = none_said (at_now rows now s) (same_behind at now s k rows spent low ∙ ap (λ l. at_now l now s) rest_is ∙ none_before now s r.start (r ∷ drop (suc k) rows) rest_are (omega arith) early)

  pub then_tracked : has_more at now r ≡ true → is_tracked rows now (max r.start at) ≡ true
  then_tracked more =
      ap is_some (same_behind at now (max r.start at) k rows spent (omega arith) ∙ ap (λ l. at_now l now (max r.start at)) rest_is
      ∙ ap (λ b. cond (b && nat_lt (max r.start at) (measured now r)) (Some (content r)) (at_now (drop (suc k) rows) now (max r.start at))) (le-leb r.start (max r.start at) (omega arith))
      ∙ ap (λ b. cond b (Some (content r)) (at_now (drop (suc k) rows) now (max r.start at))) more)

-- intervals that are late, behind those that were counted
pub late_rest : (from to now i : ℕ) (rows : List Interval) (r : Interval) (seconds : ℕ) → AreRows rows → i < length rows → r ≡ get_or rows i r → to ≤ r.start
    → seconds + total from to now (drop i rows) ≡ total from to now rows → seconds ≡ total from to now rows
late_rest from to now i rows r seconds are lt is late sum =
    let rest : drop i rows ≡ r ∷ drop (suc i) rows = drop-cons rows i r lt ∙ ap (λ (q : Interval). q ∷ drop (suc i) rows) (sym is) in
    let none : total from to now (drop i rows) ≡ 0 = none_late from to now (drop i rows) (drop_rows i rows are) (subst (StartsFrom to) (sym rest) late) in
    omega (arith, none, sum)

pub next_none : (at now k : ℕ) (rows : List Interval) → length rows ≤ k → IsNext at now (drop k rows)
next_none at now k rows all = subst (IsNext at now) (sym (drop_all k rows all)) tt

-- the first of those that are left has a second
pub next_has : (at now k : ℕ) (rows : List Interval) (r : Interval) → k < length rows → r ≡ get_or rows k r → IsNext at now (drop k rows) → has_more at now r ≡ true
next_has at now k [] r lt is next = absurd (omega (arith, lt))
next_has at now zero (x ∷ rows) r lt is next = subst (λ (q : Interval). has_more at now q ≡ true) (sym is) next
next_has at now (suc k) (x ∷ rows) r lt is next = next_has at now k rows r (omega (arith, lt)) is next

pub start_is : (rows : List Interval) (k : ℕ) (r : Interval) (at start : ℕ) → r ≡ get_or rows k r → start ≡ max (get_or rows k r).start at → start ≡ max r.start at
start_is rows k r at start is e = e ∙ ap (λ (q : Interval). max q.start at) (sym is)
