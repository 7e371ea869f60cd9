-- Times by tags.
use Rattle.std.specs.Prelude.{unwrap_or, nat_lt, slice_index_or}
use Rattle.std.proofs.Common.{◌≡◌, ℕ, zero, suc, ◌+◌, ◌<◌, Bool, true, false, cond, ◌&&◌, ◌||◌, List, [], ◌∷◌, ◌++◌, take, length, get_or, Option, Some, None, refl, sym, ap, subst, ◌∙◌, arith}
use Rattle.std.proofs.lemmas.Bool.{lt-ltb, and_parts}
use Rattle.std.proofs.lemmas.Cmp.{nat_list_cmp_total, tied_itself}
use Rattle.std.proofs.lemmas.List.Folds.{list_any-append}
use Rattle.std.proofs.lemmas.List.{take_more}
use Rattle.std.specs.List.{list_any}
use Rattle.std.specs.Ordering.{is_lt}
use Rattle.std.specs.declared.cmp.Ordering.{Ordering}
use Rattle.std.specs.declared.cmp.Ordering.TheVariants.{Less, Equal, Greater}
use Rattle.std.specs.FinMap.{get, insert}
use Rattle.tw_world.specs.Folder.{bytes_cmp, same_bytes}
use Rattle.tw_model.proofs.Maps.{same_bytes_exact, get-set_at}
use Rattle.timew_interval.specs.declared.interval.Interval.{Interval}
use Rattle.timew_interval.specs.Interval.{Content, content, tags_rise, tags_rise_from, AreRows}
use Rattle.timew_cmd.specs.Ranges.{seconds_within}
use Rattle.timew_report.specs.Time.{says_tag, at_now, tag_time}
use Rattle.timew_report.specs.Totals.{Times, unless_zero}
use Rattle.timew_report.proofs.Counting.{count_same}
use Rattle.timew_report.proofs.Seconds.{says, sums, counted}

-- ---- sums of a kind

pub sums_more : (q : Content → Bool) (from to now i : ℕ) (rows : List Interval) (r : Interval) → i < length rows → r ≡ get_or rows i r
    → sums q from to now (take (suc i) rows) ≡ sums q from to now (take i rows) + cond (q (content r)) (seconds_within from to now r) 0
sums_more q from to now i [] r lt is = absurd (omega (arith, lt))
sums_more q from to now zero (x ∷ rows) r lt is = (let e : cond (q (content x)) (seconds_within from to now x) 0 ≡ cond (q (content r)) (seconds_within from to now r) 0 = ap (λ (y : Interval). cond (q (content y)) (seconds_within from to now y) 0) (sym is) in omega (arith, e))
sums_more q from to now (suc i) (x ∷ rows) r lt is = (let e : sums q from to now (take (suc i) rows) ≡ sums q from to now (take i rows) + cond (q (content r)) (seconds_within from to now r) 0 = sums_more q from to now i rows r (omega (arith, lt)) is in omega (arith, e))

some_seconds : (s : ℕ) → nat_lt 0 (suc s) ≡ true
some_seconds s = lt-ltb 0 (suc s) (omega arith)

-- seconds of an interval, added where it has the tag and some
pub added : (n : ℕ) (b : Bool) (s : ℕ) → cond (b && nat_lt 0 s) (Some (unwrap_or (unless_zero n) 0 + s)) (unless_zero n) ≡ unless_zero (n + cond b s 0)
added n false s = ap unless_zero (let e : n ≡ n + 0 = omega arith in e)
added n true zero = ap unless_zero (let e : n ≡ n + 0 = omega arith in e)
added zero true (suc s) = ap (λ b. cond b (Some (0 + suc s)) None) (some_seconds s) ∙ (let e : 0 + suc s ≡ suc s = omega arith in ap (λ (k : ℕ). Some k) e ∙ ap unless_zero (sym e))
added (suc n) true (suc s) = ap (λ b. cond b (Some (suc n + suc s)) (Some (suc n))) (some_seconds s) ∙ (let e : suc n + suc s ≡ suc (n + suc s) = omega arith in ap (λ (k : ℕ). Some k) e ∙ ap unless_zero (sym e))

-- ---- the time of a tag is a sum

pub tag_sum : (tag : List ℕ) (rows : List Interval) (from to now : ℕ) → AreRows rows → tag_time tag rows from to now ≡ sums (λ c. list_any (same_bytes tag) c.tags) from to now rows
tag_sum tag rows from to now are =
    count_same (λ s. says_tag tag (at_now rows now s)) (λ s. says (λ c. list_any (same_bytes tag) c.tags) (at_now rows now s)) from _ (λ s low high. said (at_now rows now s))
    ∙ counted (λ c. list_any (same_bytes tag) c.tags) from to now rows are
  where
    said : (o : Option Content) → says_tag tag o ≡ says (λ c. list_any (same_bytes tag) c.tags) o
    said None = refl
    said (Some c) = refl

-- ---- tags of an interval

is_less : (o : Ordering) → is_lt o ≡ true → o ≡ Less
is_less Less e = refl
is_less Equal e = absurd (cc)
is_less Greater e = absurd (cc)

rise_next : (x y : List ℕ) (tags : List (List ℕ)) → tags_rise_from x (y ∷ tags) ≡ true → (bytes_cmp x y ≡ Less) × (tags_rise_from y tags ≡ true)
rise_next x y tags rise = (is_less (bytes_cmp x y) (and_parts (is_lt (bytes_cmp x y)) (tags_rise_from y tags) rise).0, (and_parts (is_lt (bytes_cmp x y)) (tags_rise_from y tags) rise).1)

-- a tag behind another is greater
behind_greater : (x : List ℕ) (tags : List (List ℕ)) (n : ℕ) (t : List ℕ) → tags_rise_from x tags ≡ true → n < length tags → t ≡ get_or tags n t → bytes_cmp x t ≡ Less
behind_greater x [] n t rise lt is = absurd (omega (arith, lt))
behind_greater x (y ∷ tags) zero t rise lt is = subst (λ z. bytes_cmp x z ≡ Less) (sym is) (rise_next x y tags rise).0
behind_greater x (y ∷ tags) (suc n) t rise lt is = nat_list_cmp_total.trans x y t (rise_next x y tags rise).0 (behind_greater y tags n t (rise_next x y tags rise).1 (omega (arith, lt)) is)

not_same : (x t : List ℕ) → bytes_cmp x t ≡ Less → same_bytes t x ≡ false
not_same x t less = by_case (same_bytes t x) refl
  where
    by_case : (b : Bool) → same_bytes t x ≡ b → b ≡ false
    by_case true e = absurd (let same : bytes_cmp x t ≡ Equal = ap (bytes_cmp x) (same_bytes_exact t x e) ∙ tied_itself nat_list_cmp_total x in let never : Less ≡ Equal = sym less ∙ same in cc)
    by_case false e = refl

pub first_time : (tags : List (List ℕ)) (n : ℕ) (t : List ℕ) → tags_rise tags ≡ true → n < length tags → t ≡ get_or tags n t → list_any (same_bytes t) (take n tags) ≡ false
first_time [] n t rise lt is = absurd (omega (arith, lt))
first_time (x ∷ tags) zero t rise lt is = refl
first_time (x ∷ tags) (suc n) t rise lt is =
    ap (λ b. b || list_any (same_bytes t) (take n tags)) (not_same x t (behind_greater x tags n t rise (omega (arith, lt)) is))
    ∙ first_time tags n t (rise_behind tags rise) (omega (arith, lt)) is
  where
    rise_behind : (tags : List (List ℕ)) → tags_rise_from x tags ≡ true → tags_rise tags ≡ true
    rise_behind [] rise = refl
    rise_behind (y ∷ tags) rise = (rise_next x y tags rise).1

-- the seconds are added to one tag more
pub each_more : (tags : List (List ℕ)) (n s : ℕ) (t : List ℕ) (old m new : Times) → tags_rise tags ≡ true → n < length tags → t ≡ get_or tags n t → new ≡ insert m t (unwrap_or (get m t) 0 + s)
    → ((tag : List ℕ) → get m tag ≡ cond (list_any (same_bytes tag) (take n tags)) (Some (unwrap_or (get old tag) 0 + s)) (get old tag))
    → (tag : List ℕ) → get new tag ≡ cond (list_any (same_bytes tag) (take (n + 1) tags)) (Some (unwrap_or (get old tag) 0 + s)) (get old tag)
each_more tags n s t old m new rise lt is new_is had tag =
    ap (λ k. get k tag) new_is ∙ get-set_at m t (Some (unwrap_or (get m t) 0 + s)) tag ∙ by_case (same_bytes tag t) refl
    ∙ ap (λ b. cond b (Some (unwrap_or (get old tag) 0 + s)) (get old tag)) (sym (ap (list_any (same_bytes tag)) (take_more tags n t lt ∙ ap (λ z. take n tags ++ z ∷ []) (sym is)) ∙ list_any-append (same_bytes tag) (take n tags) (t ∷ [])))
  where
    by_case : (b : Bool) → same_bytes tag t ≡ b → cond b (Some (unwrap_or (get m t) 0 + s)) (get m tag) ≡ cond (list_any (same_bytes tag) (take n tags) || (same_bytes tag t || false)) (Some (unwrap_or (get old tag) 0 + s)) (get old tag)
    by_case true e =
        ap (λ o. Some (unwrap_or o 0 + s)) (had t ∙ ap (λ b. cond b (Some (unwrap_or (get old t) 0 + s)) (get old t)) (first_time tags n t rise lt is))
        ∙ ap (λ z. Some (unwrap_or (get old z) 0 + s)) (sym (same_bytes_exact tag t e))
        ∙ sym (ap (λ b. cond b (Some (unwrap_or (get old tag) 0 + s)) (get old tag)) (or_last (list_any (same_bytes tag) (take n tags)) (same_bytes tag t) e))
      where
        or_last : (a b : Bool) → b ≡ true → (a || (b || false)) ≡ true
        or_last true b e = refl
        or_last false true e = refl
        or_last false false e = absurd (cc)
    by_case false e =
        had tag ∙ sym (ap (λ b. cond b (Some (unwrap_or (get old tag) 0 + s)) (get old tag)) (or_none (list_any (same_bytes tag) (take n tags)) (same_bytes tag t) e))
      where
        or_none : (a b : Bool) → b ≡ false → (a || (b || false)) ≡ a
        or_none true b e = refl
        or_none false true e = absurd (cc)
        or_none false false e = refl

-- an interval more
pub row_more : (tag : List ℕ) (from to now i : ℕ) (rows : List Interval) (r : Interval) (old new : Option ℕ) → i < length rows → r ≡ get_or rows i r
    → old ≡ unless_zero (sums (λ c. list_any (same_bytes tag) c.tags) from to now (take i rows))
    → new ≡ cond (list_any (same_bytes tag) r.tags && nat_lt 0 (seconds_within from to now r)) (Some (unwrap_or old 0 + seconds_within from to now r)) old
    → new ≡ unless_zero (sums (λ c. list_any (same_bytes tag) c.tags) from to now (take (i + 1) rows))
row_more tag from to now i rows r old new lt is old_is new_is =
    let q = λ (c : Content). list_any (same_bytes tag) c.tags in
    let s = seconds_within from to now r in
    let next : suc i ≡ i + 1 = omega arith in
    new_is ∙ ap (λ o. cond (list_any (same_bytes tag) r.tags && nat_lt 0 s) (Some (unwrap_or o 0 + s)) o) old_is
    ∙ added (sums q from to now (take i rows)) (list_any (same_bytes tag) r.tags) s
    ∙ ap unless_zero (sym (sums_more q from to now i rows r lt is))
    ∙ ap (λ k. unless_zero (sums q from to now (take k rows))) next

-- what a tag was read as
pub read_back : (tags : List (List ℕ)) (n : ℕ) (t : List ℕ) → n < length tags → t ≡ slice_index_or tags n [] → t ≡ get_or tags n t
read_back [] n t lt is = absurd (omega (arith, lt))
read_back (x ∷ tags) zero t lt is = is
read_back (x ∷ tags) (suc n) t lt is = read_back tags n t (omega (arith, lt)) is
