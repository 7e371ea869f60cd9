-- The texts of months, group by group.
use Rattle.std.proofs.Common.{◌≡◌, ℕ, ◌+◌, ◌<◌, ◌≤◌, Bool, true, false, cond, List, [], ◌∷◌, ◌++◌, length, get_or, take, drop, refl, sym, ap, subst, ◌∙◌, append_assoc, arith}
use Rattle.std.specs.Prelude.{filter}
use Rattle.std.specs.List.{AllByRecursion}
use Rattle.std.specs.Cmp.Lexicographic.{texts_ties}
use Rattle.std.specs.FinMap.Entries.{by_order}
use Rattle.std.specs.declared.cmp.Ordering.{Ordering}
use Rattle.std.specs.declared.cmp.Ordering.TheVariants.{Less, Equal, Greater}
use Rattle.std.proofs.lemmas.List.{append-nil, take-append-drop, take_more, length-take-le}
use Rattle.std.proofs.lemmas.List.Concat.{flat_map-append}
use Rattle.std.proofs.lemmas.List.Sums.{fold-append}
use Rattle.tw_world.specs.Folder.{bytes_cmp, same_bytes, add_name}
use Rattle.timew_interval.specs.declared.interval.Interval.{Interval}
use Rattle.timew_interval.specs.MonthName.{is_month_name, month_name, is_in_month, month_text}
use Rattle.timew_month.specs.Gathered.{NamedBytes}
use Rattle.timew_interval.specs.Interval.{AreRows}
use Rattle.timew_month.specs.NamedFiles.{text_in, with_names, with_months}
use Rattle.timew_month.specs.Known.{IsMonthOf}
use Rattle.timew_interval.specs.Line.{line_text, lines_text}
use Rattle.timew_month.specs.MonthTexts.{HaveNames, AddTexts}
use Rattle.timew_interval.specs.ReadBack.{IsWritable}
use Rattle.timew_interval.proofs.SameBytes.{tied, same_bytes_itself, same_bytes_exact}
use Rattle.timew_interval.proofs.RowsByIndex.{are_drop, all_take_more}

all_joined : (P : Interval → Type 0) (rows more : List Interval) → AllByRecursion P rows → AllByRecursion P more → AllByRecursion P (rows ++ more)
all_joined P [] more all other = other
all_joined P (r ∷ rows) more all other = (all.0, all_joined P rows more all.1 other)

pub all_parts : (P : Interval → Type 0) (rows : List Interval) (n : ℕ) → AllByRecursion P (take n rows) → AllByRecursion P (drop n rows) → AllByRecursion P rows
all_parts P rows n front back = subst (AllByRecursion P) (take-append-drop n rows) (all_joined P (take n rows) (drop n rows) front back)

-- ---- one group

abbrev pub AreOf : List ℕ → List Interval → Type 0
AreOf name rows = AllByRecursion (λ r. same_bytes (month_name r.start) name ≡ true) rows

pub text_take_more : (rows : List Interval) (i : ℕ) (x : Interval) (old new : List ℕ) → i < length rows → x ≡ get_or rows i x → old ≡ lines_text (take i rows) → new ≡ old ++ (line_text x ++ 10 ∷ []) → new ≡ lines_text (take (i + 1) rows)
text_take_more rows i x old new lt is so_far more =
    more ∙ ap (λ (l : List ℕ). l ++ (line_text x ++ 10 ∷ [])) so_far
    ∙ ap (λ (l : List ℕ). lines_text (take i rows) ++ l) (sym (append-nil (line_text x ++ 10 ∷ [])))
    ∙ sym (flat_map-append (λ (r : Interval). line_text r ++ 10 ∷ []) (take i rows) (x ∷ []))
    ∙ ap lines_text (sym (take_more rows i x lt ∙ ap (λ (r : Interval). take i rows ++ r ∷ []) (sym is)))

filter_of : (name q : List ℕ) (rows : List Interval) → AreOf name rows → filter (is_in_month q) rows ≡ cond (same_bytes name q) rows []
filter_of name q [] all = none_of (same_bytes name q)
  where
    none_of : (b : Bool) → (let none : List Interval = [] in none ≡ cond b none none)
    none_of true = refl
    none_of false = refl
filter_of name q (r ∷ rows) all =
    ap (λ (n : List ℕ). cond (same_bytes n q) (r ∷ filter (is_in_month q) rows) (filter (is_in_month q) rows)) (same_bytes_exact (month_name r.start) name all.0)
    ∙ by_case (same_bytes name q) (filter_of name q rows all.1)
  where
    by_case : (b : Bool) → filter (is_in_month q) rows ≡ cond b rows [] → cond b (r ∷ filter (is_in_month q) rows) (filter (is_in_month q) rows) ≡ cond b (r ∷ rows) []
    by_case true is = ap (λ (l : List Interval). r ∷ l) is
    by_case false is = is

pub group_text : (name bytes : List ℕ) (rows : List Interval) → AreOf name rows → bytes ≡ lines_text rows → (q : List ℕ) → text_in ((name, bytes) ∷ []) q ≡ month_text q rows
group_text name bytes rows all is q =
    append-nil (cond (same_bytes name q) bytes []) ∙ ap (λ (l : List ℕ). cond (same_bytes name q) l []) is ∙ by_case (same_bytes name q) ∙ sym (ap lines_text (filter_of name q rows all))
  where
    by_case : (b : Bool) → cond b (lines_text rows) [] ≡ lines_text (cond b rows [])
    by_case true = refl
    by_case false = refl

-- ---- names

itself : (k : List ℕ) → bytes_cmp k k ≡ Equal
itself k = tied (bytes_cmp k k) (sym (texts_ties k k) ∙ same_bytes_itself k)

pub add_again : (k : List ℕ) (names : List (List ℕ)) → add_name k (add_name k names) ≡ add_name k names
add_again k [] = ap (λ (o : Ordering). by_order o (k ∷ k ∷ []) (k ∷ []) (k ∷ k ∷ [])) (itself k)
add_again k (x ∷ names) = by_case (bytes_cmp k x) refl (add_again k names)
  where
    by_case : (o : Ordering) → bytes_cmp k x ≡ o → add_name k (add_name k names) ≡ add_name k names
        → add_name k (by_order o (k ∷ x ∷ names) (x ∷ names) (x ∷ add_name k names)) ≡ by_order o (k ∷ x ∷ names) (x ∷ names) (x ∷ add_name k names)
    by_case Less is later = ap (λ (o : Ordering). by_order o (k ∷ k ∷ x ∷ names) (k ∷ x ∷ names) (k ∷ add_name k (x ∷ names))) (itself k)
    by_case Equal is later = ap (λ (o : Ordering). by_order o (k ∷ x ∷ names) (x ∷ names) (x ∷ add_name k names)) is
    by_case Greater is later = ap (λ (o : Ordering). by_order o (k ∷ x ∷ add_name k names) (x ∷ add_name k names) (x ∷ add_name k (add_name k names))) is ∙ ap (λ (l : List (List ℕ)). x ∷ l) later

months_again : (name : List ℕ) (rows : List Interval) (names : List (List ℕ)) → AreOf name rows → with_months rows (add_name name names) ≡ add_name name names
months_again name [] names all = refl
months_again name (r ∷ rows) names all =
    ap (λ (n : List ℕ). with_months rows (add_name n (add_name name names))) (same_bytes_exact (month_name r.start) name all.0) ∙ ap (with_months rows) (add_again name names) ∙ months_again name rows names all.1

pub group_names : (name : List ℕ) (rows : List Interval) → 0 < length rows → AreOf name rows → (names : List (List ℕ)) → add_name name names ≡ with_months rows names
group_names name [] some all names = absurd (omega arith)
group_names name (r ∷ rows) some all names = sym (ap (λ (n : List ℕ). with_months rows (add_name n names)) (same_bytes_exact (month_name r.start) name all.0) ∙ months_again name rows names all.1)

-- ---- group by group

text-push : (files : List NamedBytes) (f : NamedBytes) (q : List ℕ) → text_in (files ++ f ∷ []) q ≡ text_in files q ++ text_in (f ∷ []) q
text-push [] f q = refl
text-push (g ∷ files) f q = ap (λ (l : List ℕ). cond (same_bytes g.0 q) g.1 [] ++ l) (text-push files f q) ∙ sym (append_assoc (cond (same_bytes g.0 q) g.1 []) (text_in files q) (text_in (f ∷ []) q))

filter-append : (P : Interval → Bool) (rows more : List Interval) → filter P (rows ++ more) ≡ filter P rows ++ filter P more
filter-append P [] more = refl
filter-append P (r ∷ rows) more = by_case (P r) (filter-append P rows more)
  where
    by_case : (b : Bool) → filter P (rows ++ more) ≡ filter P rows ++ filter P more → cond b (r ∷ filter P (rows ++ more)) (filter P (rows ++ more)) ≡ cond b (r ∷ filter P rows) (filter P rows) ++ filter P more
    by_case true is = ap (λ (l : List Interval). r ∷ l) is
    by_case false is = is

month-append : (q : List ℕ) (rows more : List Interval) → month_text q (rows ++ more) ≡ month_text q rows ++ month_text q more
month-append q rows more = ap lines_text (filter-append (is_in_month q) rows more) ∙ flat_map-append (λ (r : Interval). line_text r ++ 10 ∷ []) (filter (is_in_month q) rows) (filter (is_in_month q) more)

pub texts_go_on : (old : List NamedBytes) (f : NamedBytes) (rest : List Interval) (n : ℕ) (q total : List ℕ) → text_in (f ∷ []) q ≡ month_text q (take n rest)
    → text_in old q ++ month_text q rest ≡ total → text_in (old ++ f ∷ []) q ++ month_text q (drop n rest) ≡ total
texts_go_on old f rest n q total here so_far =
    ap (λ (l : List ℕ). l ++ month_text q (drop n rest)) (text-push old f q ∙ ap (λ (l : List ℕ). text_in old q ++ l) here)
    ∙ append_assoc (text_in old q) (month_text q (take n rest)) (month_text q (drop n rest))
    ∙ ap (λ (l : List ℕ). text_in old q ++ l) (sym (month-append q (take n rest) (drop n rest)) ∙ ap (month_text q) (take-append-drop n rest)) ∙ so_far

pub names_go_on : (old : List NamedBytes) (f : NamedBytes) (rest : List Interval) (n : ℕ) (names total : List (List ℕ)) → ((had : List (List ℕ)) → add_name f.0 had ≡ with_months (take n rest) had)
    → with_months rest (with_names old names) ≡ total → with_months (drop n rest) (with_names (old ++ f ∷ []) names) ≡ total
names_go_on old f rest n names total here so_far =
    let had = with_names old names in
    ap (with_months (drop n rest)) (fold-append (λ (had : List (List ℕ)) (g : NamedBytes). add_name g.0 had) names old (f ∷ []) ∙ here had)
    ∙ sym (fold-append (λ (had : List (List ℕ)) (r : Interval). add_name (month_name r.start) had) had (take n rest) (drop n rest)) ∙ ap (λ (l : List Interval). with_months l had) (take-append-drop n rest) ∙ so_far

-- ---- what the loops know

-- the first so many intervals start in this month, and these are their lines
abbrev pub IsMonth : List Interval → List ℕ → List ℕ → ℕ → Type 0
IsMonth rows name bytes count = (bytes ≡ lines_text (take count rows)) × AreOf name (take count rows) × AllByRecursion IsWritable (take count rows)

pub month_more : (rows : List Interval) (name old new : List ℕ) (count : ℕ) (x : Interval) → IsMonth rows name old count → count < length rows → x ≡ get_or rows count x → new ≡ old ++ (line_text x ++ 10 ∷ []) → same_bytes (month_name x.start) name ≡ true → IsWritable x
    → IsMonth rows name new (count + 1)
month_more rows name old new count x so_far lt is more of writable = (
  text_take_more rows count x old new lt is so_far.0 more,
  all_take_more (λ r. same_bytes (month_name r.start) name ≡ true) rows count x lt is so_far.1 of,
  all_take_more IsWritable rows count x lt is so_far.2 writable,
)

-- these are the first texts with those of the months of the intervals in front of the rest
abbrev pub AreTexts : List NamedBytes → List NamedBytes → List Interval → List Interval → Type 0
AreTexts first texts rest rows = ((name : List ℕ) → text_in texts name ++ month_text name rest ≡ text_in first name ++ month_text name rows)
    × ((names : List (List ℕ)) → with_months rest (with_names texts names) ≡ with_months rows (with_names first names))
    × (HaveNames first → HaveNames texts)
    × (AllByRecursion IsWritable rest → AllByRecursion IsWritable rows)
    × AreRows rest

pub texts_start : (first : List NamedBytes) (rows : List Interval) → AreRows rows → AreTexts first first rows rows
texts_start first rows are = (λ name. refl, λ names. refl, λ good. good, λ writable. writable, are)

names_push : (texts : List NamedBytes) (f : NamedBytes) → HaveNames texts → is_month_name f.0 ≡ true → HaveNames (texts ++ f ∷ [])
names_push [] f all here = (here, tt)
names_push (m ∷ texts) f all here = (all.0, names_push texts f all.1 here)

pub texts_more : (first old new : List NamedBytes) (f : NamedBytes) (rest rows : List Interval) (n : ℕ) → AreTexts first old rest rows → new ≡ old ++ f ∷ [] → 0 < n → n ≤ length rest → IsMonthOf f.0 f.1 (take n rest) → is_month_name f.0 ≡ true
    → AreTexts first new (drop n rest) rows
texts_more first old new f rest rows n so_far is some inside month good =
    let any : 0 < length (take n rest) = omega (arith, length-take-le n rest inside) in
    subst (λ (l : List NamedBytes). AreTexts first l (drop n rest) rows) (sym is) (
      λ q. texts_go_on old f rest n q (text_in first q ++ month_text q rows) (group_text f.0 f.1 (take n rest) month.of month.text q) (so_far.0 q),
      λ names. names_go_on old f rest n names (with_months rows (with_names first names)) (group_names f.0 (take n rest) any month.of) (so_far.1 names),
      λ had. names_push old f (so_far.2 had) good,
      λ others. so_far.3 (all_parts IsWritable rest n month.writable others),
      are_drop n rest so_far.4,
    )

pub texts_done : (first texts : List NamedBytes) (rest rows : List Interval) → AreTexts first texts rest rows → length rest ≡ 0 → AddTexts first texts rows
texts_done first texts [] rows are none = record {
  text = λ name. sym (append-nil (text_in texts name)) ∙ are.0 name;
  names = are.1;
  good = are.2;
  writable = are.3 tt;
}
texts_done first texts (r ∷ rest) rows are none = absurd (omega (arith, none))

pub texts_joined : (first next last : List NamedBytes) (rows more : List Interval) → AddTexts first next rows → AddTexts next last more → AddTexts first last (rows ++ more)
texts_joined first next last rows more one two = record {
  text = λ name. two.text name ∙ ap (λ (l : List ℕ). l ++ month_text name more) (one.text name) ∙ append_assoc (text_in first name) (month_text name rows) (month_text name more)
      ∙ ap (λ (l : List ℕ). text_in first name ++ l) (sym (month-append name rows more));
  names = λ names. two.names names ∙ ap (with_months more) (one.names names)
      ∙ sym (fold-append (λ (had : List (List ℕ)) (r : Interval). add_name (month_name r.start) had) (with_names first names) rows more);
  good = λ had. two.good (one.good had);
  writable = all_joined IsWritable rows more one.writable two.writable;
}
