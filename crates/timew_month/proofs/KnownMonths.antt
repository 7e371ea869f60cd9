-- Month files that are known to be the text of intervals.
use Rattle.std.proofs.Common.{◌≡◌, ℕ, zero, suc, ◌+◌, ◌<◌, ◌≤◌, true, Option, List, [], ◌∷◌, ◌++◌, length, get_or, take, drop, sym, ap, subst, ◌∙◌, refl, arith, length-append, length-drop}
use Rattle.std.proofs.Math.Seq.{drop-append_seam}
use Rattle.std.proofs.lemmas.List.{take-append-le, drop-append-le, take_all, length-take, get_or-take}
use Rattle.std.proofs.lemmas.Cmp.{nat_list_cmp_total}
use Rattle.std.specs.Cmp.Lexicographic.{texts_ties}
use Rattle.std.specs.List.{AllByRecursion}
use Rattle.std.specs.Ordering.{is_eq, ordering_reverse}
use Rattle.std.specs.declared.cmp.Ordering.{Ordering}
use Rattle.std.specs.declared.cmp.Ordering.TheVariants.{Less, Equal, Greater}
use Rattle.tw_world.specs.Folder.{bytes_cmp, same_bytes}
use Rattle.timew_interval.specs.declared.interval.Interval.{Interval}
use Rattle.timew_month.specs.declared.months.MonthFile.{MonthFile}
use Rattle.timew_month.specs.declared.months.KnownText.{KnownText}
use Rattle.timew_month.specs.Exact.{IsText}
use Rattle.timew_interval.specs.Interval.{AreRows, IsBefore}
use Rattle.timew_month.specs.Known.{part, IsKnown, AreKnown, IsOfMonth, first_name}
use Rattle.timew_interval.specs.MonthName.{month_name}
use Rattle.timew_interval.specs.ReadBack.{IsWritable}
use Rattle.timew_interval.proofs.SameBytes.{tied, same_bytes_itself, same_bytes_exact}
use Rattle.timew_month.proofs.GroupedMonths.{NotBefore, MonthsRise}
use Rattle.timew_month.proofs.LaterMonths.{rows_months_rise}
use Rattle.timew_month.proofs.OneLine.{all_dated}

part_stays : (rows more : List Interval) (first count : ℕ) → first + count ≤ length rows → part first count (rows ++ more) ≡ part first count rows
part_stays rows more first count inside =
    ap (take count) (drop-append-le first rows more (omega arith)) ∙ take-append-le count (drop first rows) more (omega (arith, length-drop first rows))

part_behind : (rows more : List Interval) (first count : ℕ) → first ≡ length rows → count ≡ length more → part first count (rows ++ more) ≡ more
part_behind rows more first count is size =
    ap (λ (n : ℕ). take count (drop n (rows ++ more))) is ∙ ap (take count) (drop-append_seam rows more) ∙ take_all count more (omega (arith, size))

is_known_still : (files : List MonthFile) (rows more : List Interval) (k : KnownText) → IsKnown files rows k → IsKnown files (rows ++ more) k
is_known_still files rows more k is = record {
  inside = omega (arith, is.inside, length-append rows more);
  text = λ f lt at. subst (IsText f.bytes.items) (sym (part_stays rows more k.first k.count is.inside)) (is.text f lt at);
}

pub known_still : (files : List MonthFile) (rows more : List Interval) (known : List KnownText) → AreKnown files rows known → AreKnown files (rows ++ more) known
known_still files rows more [] are = tt
known_still files rows more (k ∷ known) are = (is_known_still files rows more k are.0, known_still files rows more known are.1)

known_push : (files : List MonthFile) (rows : List Interval) (known : List KnownText) (k : KnownText) → AreKnown files rows known → IsKnown files rows k → AreKnown files rows (known ++ k ∷ [])
known_push files rows [] k are is = (is, tt)
known_push files rows (j ∷ known) k are is = (are.0, known_push files rows known k are.1 is)

-- one file more that is the text of the intervals that were added
pub known_more : (files : List MonthFile) (rows more : List Interval) (known : List KnownText) (k : KnownText) → AreKnown files rows known → k.first ≡ length rows → k.count ≡ length more
    → ((f : MonthFile) → f ≡ get_or files k.file f → IsText f.bytes.items more) → AreKnown files (rows ++ more) (known ++ k ∷ [])
known_more files rows more known k are first count text = known_push files (rows ++ more) known k (known_still files rows more known are) (record {
  inside = omega (arith, first, count, length-append rows more);
  text = λ f lt at. subst (IsText f.bytes.items) (sym (part_behind rows more k.first k.count first count)) (text f at);
})

-- ---- what is known of one text

pub known_at : (files : List MonthFile) (rows : List Interval) (known : List KnownText) (n : ℕ) (k : KnownText) → AreKnown files rows known → n < length known → k ≡ get_or known n k → IsKnown files rows k
known_at files rows [] n k are lt at = absurd (omega arith)
known_at files rows (j ∷ known) zero k are lt at = subst (IsKnown files rows) (sym at) are.0
known_at files rows (j ∷ known) (suc n) k are lt at = known_at files rows known n k are.1 (omega arith) at

-- ---- one month

all_at : (P : Interval → Type 0) (rows : List Interval) (n : ℕ) (r : Interval) → AllByRecursion P rows → n < length rows → r ≡ get_or rows n r → P r
all_at P [] n r all lt at = absurd (omega arith)
all_at P (s ∷ rows) zero r all lt at = subst P (sym at) all.0
all_at P (s ∷ rows) (suc n) r all lt at = all_at P rows n r all.1 (omega arith) at

-- a name that is neither before another nor after it
same_name : (a b : List ℕ) → (bytes_cmp a b ≡ Less → ⊥) → (bytes_cmp b a ≡ Less → ⊥) → same_bytes a b ≡ true
same_name a b here there = by_case (bytes_cmp a b) refl
  where
    by_case : (o : Ordering) → bytes_cmp a b ≡ o → same_bytes a b ≡ true
    by_case Less is = absurd (here is)
    by_case Equal is = texts_ties a b ∙ ap is_eq is
    by_case Greater is = absurd (there (nat_list_cmp_total.antisymm b a ∙ ap ordering_reverse is))

between : (rows : List Interval) (name : List ℕ) (n : ℕ) (last : Interval) → MonthsRise rows → AllByRecursion (λ r. bytes_cmp (month_name r.start) name ≡ Less → ⊥) rows → n + 1 ≡ length rows → last ≡ get_or rows n last
    → same_bytes (month_name last.start) name ≡ true → AllByRecursion (IsOfMonth name) rows
between [] name n last rise all size at is = tt
between (r ∷ []) name n last rise all size at is =
    let none : n ≡ 0 = omega (arith, size) in
    let here : last ≡ r = at ∙ ap (λ (k : ℕ). get_or (r ∷ []) k last) none in
    (subst (IsOfMonth name) here is, tt)
between (r ∷ s ∷ rows) name zero last rise all size at is = absurd (omega (arith, size))
between (r ∷ s ∷ rows) name (suc n) last rise all size at is =
    let later : bytes_cmp (month_name last.start) (month_name r.start) ≡ Less → ⊥ = all_at (NotBefore r) (s ∷ rows) n last rise.0 (omega (arith, size)) at in
    let not_behind : bytes_cmp name (month_name r.start) ≡ Less → ⊥ = subst (λ (l : List ℕ). bytes_cmp l (month_name r.start) ≡ Less → ⊥) (same_bytes_exact (month_name last.start) name is) later in
    (same_name (month_name r.start) name all.0 not_behind, between (s ∷ rows) name n last rise.1 all.1 (omega (arith, size)) at is)

not_below_itself : (a : List ℕ) → bytes_cmp a a ≡ Less → ⊥
not_below_itself a is = absurd (let e : Less ≡ Equal = sym is ∙ tied (bytes_cmp a a) (sym (texts_ties a a) ∙ same_bytes_itself a) in cc)

pub are_take : (n : ℕ) (rows : List Interval) → AreRows rows → AreRows (take n rows)
are_take zero rows are = tt
are_take (suc n) [] are = tt
are_take (suc n) (r ∷ rows) are = (are.0, before n r.end rows are.1, are_take n rows are.2)
  where
    before : (n : ℕ) (end : Option ℕ) (rows : List Interval) → IsBefore end rows → IsBefore end (take n rows)
    before zero end rows is = tt
    before (suc n) end [] is = tt
    before (suc n) end (r ∷ rows) is = is

taken_last : (rows : List Interval) (count n : ℕ) (last : Interval) → n + 1 ≡ count → count ≤ length rows → last ≡ get_or rows n last → last ≡ get_or (take count rows) n last
taken_last rows count n last is inside at = at ∙ sym (get_or-take count rows n last (omega (arith, is)))

-- the intervals up to one that starts in the month of the first one
pub one_month : (rows : List Interval) (count n : ℕ) (first last : Interval) (name : List ℕ) → AreRows rows → 0 < count → count ≤ length rows → AllByRecursion IsWritable (take count rows) → first ≡ get_or rows 0 first → name ≡ month_name first.start → n + 1 ≡ count
    → last ≡ get_or rows n last → same_bytes (month_name last.start) name ≡ true → AllByRecursion (IsOfMonth (first_name rows)) (take count rows)
one_month [] count n first last name are some inside writable at named is at_last of = absurd (omega arith)
one_month (r ∷ rows) zero n first last name are some inside writable at named is at_last of = absurd (omega arith)
one_month (r ∷ rows) (suc count) n first last name are some inside writable at named is at_last of =
    let month : name ≡ month_name r.start = named ∙ ap (λ (s : Interval). month_name s.start) at in
    let front = take (suc count) (r ∷ rows) in
    let rise : MonthsRise front = rows_months_rise front (are_take (suc count) (r ∷ rows) are) (all_dated front writable) in
    between front (month_name r.start) n last rise (not_below_itself (month_name r.start), rise.0) (omega (arith, is, length-take (suc count) (r ∷ rows))) (taken_last (r ∷ rows) (suc count) n last is inside at_last)
    (subst (λ (l : List ℕ). same_bytes (month_name last.start) l ≡ true) month of)

pub first_name_is : (rows : List Interval) (r : Interval) → 0 < length rows → r ≡ get_or rows 0 r → first_name rows ≡ month_name r.start
first_name_is [] r some at = absurd (omega arith)
first_name_is (s ∷ rows) r some at = ap (λ (t : Interval). month_name t.start) (sym at)
