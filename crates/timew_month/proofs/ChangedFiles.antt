-- The month files of intervals hold these intervals.
use Rattle.std.specs.Prelude.{filter, cond, is_some, unwrap_or, fold}
use Rattle.std.proofs.lemmas.Cmp.{nat_list_eq_equiv}
use Rattle.std.proofs.Common.{T, inl, inr, ◌≡◌, ◌⊎◌, ℕ, Bool, true, false, ◌&&◌, ◌||◌, List, [], ◌∷◌, ◌++◌, map, Option, Some, None, Ok, refl, sym, ap, subst, ◌∙◌, append_assoc}
use Rattle.std.specs.List.{list_any, flat_map, AllByRecursion}
use Rattle.std.specs.FinMap.{get, keys, entries, entries_sorted, contains_key-keys}
use Rattle.std.specs.FinMap.Entries.{by_order, is_sorted, below_all}
use Rattle.std.specs.Cmp.Lexicographic.{texts_ties}
use Rattle.std.specs.Ordering.{is_lt, eq_by_cmp}
use Rattle.std.specs.declared.cmp.Ordering.{Ordering}
use Rattle.std.specs.declared.cmp.Ordering.TheVariants.{Less, Equal, Greater}
use Rattle.tw_world.specs.Folder.{Files, bytes_cmp, same_bytes, add_name}
use Rattle.timew_interval.specs.declared.interval.Interval.{Interval}
use Rattle.timew_month.specs.Body.{FileChange}
use Rattle.timew_interval.specs.MonthName.{is_month_name, month_name, is_in_month, month_text}
use Rattle.timew_month.specs.Files.{bytes_of, with_new, replaced}
use Rattle.timew_interval.specs.Interval.{AreRows}
use Rattle.timew_interval.specs.Line.{lines_text}
use Rattle.timew_month.specs.Rows.{month_names, found_in, rows_of}
use Rattle.timew_month.specs.Changes.{all_names, month_change, changes_to}
use Rattle.timew_interval.proofs.SameBytes.{same_bytes_exact, same_bytes_itself, bytes_exact}
use Rattle.timew_month.proofs.ReplacedFiles.{get-new}
use Rattle.timew_month.proofs.LineReadBack.{IsBack}
use Rattle.timew_month.proofs.GoodLines.{judged_rows}
use Rattle.timew_interval.proofs.Tests.{both, is_less}
use Rattle.timew_month.proofs.GroupedMonths.{Rise, MonthsRise, AreNamed, grouped_all, found_grouped}

-- ---- the bytes after a change

bytes_after_one : (b : Bool) (files now : Files) (rows : List Interval) (n q : List ℕ) → same_bytes (bytes_of files n) (month_text n rows) ≡ b
    → (bytes_of now q ≡ bytes_of files q) ⊎ (bytes_of now q ≡ month_text q rows)
    → bytes_of (replaced now (month_change files rows n)) q ≡ cond (same_bytes q n) (month_text q rows) (bytes_of now q)
bytes_after_one true files now rows n q is either =
    ap (λ (b : Bool). bytes_of (replaced now (cond b [] (record { name = n; old = bytes_of files n; new = month_text n rows } ∷ []))) q) is ∙ same_text (same_bytes q n) refl either
  where
    same_text : (b : Bool) → same_bytes q n ≡ b → (bytes_of now q ≡ bytes_of files q) ⊎ (bytes_of now q ≡ month_text q rows) → bytes_of now q ≡ cond b (month_text q rows) (bytes_of now q)
    same_text false here either = refl
    same_text true here (inr new) = new
    same_text true here (inl old) = old ∙ subst (λ (m : List ℕ). bytes_of files m ≡ month_text m rows) (sym (same_bytes_exact q n here)) (same_bytes_exact (bytes_of files n) (month_text n rows) is)
bytes_after_one false files now rows n q is either =
    ap (λ (b : Bool). bytes_of (replaced now (cond b [] (record { name = n; old = bytes_of files n; new = month_text n rows } ∷ []))) q) is
    ∙ ap (λ (o : Option (List ℕ)). unwrap_or o []) (get-new now (record { name = n; old = bytes_of files n; new = month_text n rows }) q)
    ∙ of_case (same_bytes q n) refl
  where
    of_case : (b : Bool) → same_bytes q n ≡ b → unwrap_or (cond b (Some (month_text n rows)) (get now q)) [] ≡ cond b (month_text q rows) (bytes_of now q)
    of_case true here = ap (λ (m : List ℕ). month_text m rows) (sym (same_bytes_exact q n here))
    of_case false here = refl

replaced-append : (files : Files) (f g : List FileChange) → replaced files (f ++ g) ≡ replaced (replaced files f) g
replaced-append files [] g = refl
replaced-append files (x ∷ f) g = replaced-append (with_new files x) f g

bytes_after_from : (files : Files) (rows : List Interval) (names : List (List ℕ)) (now : Files) (q : List ℕ)
    → (bytes_of now q ≡ bytes_of files q) ⊎ (bytes_of now q ≡ month_text q rows)
    → bytes_of (replaced now (flat_map (month_change files rows) names)) q ≡ cond (list_any (same_bytes q) names) (month_text q rows) (bytes_of now q)
bytes_after_from files rows [] now q either = refl
bytes_after_from files rows (n ∷ names) now q either =
    let next = replaced now (month_change files rows n) in
    let here : bytes_of next q ≡ cond (same_bytes q n) (month_text q rows) (bytes_of now q) = bytes_after_one (same_bytes (bytes_of files n) (month_text n rows)) files now rows n q refl either in
    ap (λ (s : Files). bytes_of s q) (replaced-append now (month_change files rows n) (flat_map (month_change files rows) names))
    ∙ bytes_after_from files rows names next q (still (same_bytes q n) (bytes_of next q) here either)
    ∙ ap (cond (list_any (same_bytes q) names) (month_text q rows)) here
    ∙ joined (same_bytes q n) (list_any (same_bytes q) names)
  where
    still : (b : Bool) (x : List ℕ) → x ≡ cond b (month_text q rows) (bytes_of now q) → (bytes_of now q ≡ bytes_of files q) ⊎ (bytes_of now q ≡ month_text q rows) → (x ≡ bytes_of files q) ⊎ (x ≡ month_text q rows)
    still true x is either = inr is
    still false x is (inl old) = inl (is ∙ old)
    still false x is (inr new) = inr (is ∙ new)

    joined : (a b : Bool) → cond b (month_text q rows) (cond a (month_text q rows) (bytes_of now q)) ≡ cond (a || b) (month_text q rows) (bytes_of now q)
    joined true true = refl
    joined true false = refl
    joined false true = refl
    joined false false = refl

-- ---- names

any_added : (q k : List ℕ) (names : List (List ℕ)) → list_any (same_bytes q) (add_name k names) ≡ (same_bytes q k || list_any (same_bytes q) names)
any_added q k [] = refl
any_added q k (x ∷ names) = by_case (bytes_cmp k x) refl (any_added q k names)
  where
    by_case : (o : Ordering) → bytes_cmp k x ≡ o → list_any (same_bytes q) (add_name k names) ≡ (same_bytes q k || list_any (same_bytes q) names)
        → list_any (same_bytes q) (by_order o (k ∷ x ∷ names) (x ∷ names) (x ∷ add_name k names)) ≡ (same_bytes q k || (same_bytes q x || list_any (same_bytes q) names))
    by_case Less is later = refl
    by_case Equal is later = ap (λ (b : Bool). b || list_any (same_bytes q) names) (sym (twice (same_bytes q x))) ∙ or_assoc (same_bytes q x) (same_bytes q x) (list_any (same_bytes q) names) ∙ ap (λ (y : List ℕ). same_bytes q y || (same_bytes q x || list_any (same_bytes q) names)) (sym (bytes_exact k x is))
      where
        twice : (b : Bool) → (b || b) ≡ b
        twice true = refl
        twice false = refl

        or_assoc : (a b c : Bool) → ((a || b) || c) ≡ (a || (b || c))
        or_assoc true b c = refl
        or_assoc false b c = refl
    by_case Greater is later = ap (λ (b : Bool). same_bytes q x || b) later ∙ swapped (same_bytes q x) (same_bytes q k) (list_any (same_bytes q) names)
      where
        swapped : (a b c : Bool) → (a || (b || c)) ≡ (b || (a || c))
        swapped true true c = refl
        swapped true false c = refl
        swapped false b c = refl

abbrev pub is_of_row : List ℕ → List Interval → Bool
is_of_row q rows = list_any (λ r. same_bytes q (month_name r.start)) rows

any_all : (q : List ℕ) (names : List (List ℕ)) (rows : List Interval) → list_any (same_bytes q) (fold (λ had r. add_name (month_name r.start) had) names rows) ≡ (list_any (same_bytes q) names || is_of_row q rows)
any_all q names [] = sym (or_false (list_any (same_bytes q) names))
  where
    or_false : (b : Bool) → (b || false) ≡ b
    or_false true = refl
    or_false false = refl
any_all q names (r ∷ rows) = any_all q (add_name (month_name r.start) names) rows ∙ ap (λ (b : Bool). b || is_of_row q rows) (any_added q (month_name r.start) names) ∙ turned (same_bytes q (month_name r.start)) (list_any (same_bytes q) names) (is_of_row q rows)
  where
    turned : (a b c : Bool) → ((a || b) || c) ≡ (b || (a || c))
    turned true true c = refl
    turned true false c = refl
    turned false b c = refl

-- a name with its test
pub any_filter : (q : List ℕ) (names : List (List ℕ)) → list_any (same_bytes q) (filter is_month_name names) ≡ (is_month_name q && list_any (same_bytes q) names)
any_filter q [] = sym (and_false (is_month_name q))
  where
    and_false : (b : Bool) → (b && false) ≡ false
    and_false true = refl
    and_false false = refl
any_filter q (n ∷ names) = by_case (is_month_name n) (same_bytes q n) refl refl (any_filter q names)
  where
    by_case : (m s : Bool) → is_month_name n ≡ m → same_bytes q n ≡ s → list_any (same_bytes q) (filter is_month_name names) ≡ (is_month_name q && list_any (same_bytes q) names)
        → list_any (same_bytes q) (cond m (n ∷ filter is_month_name names) (filter is_month_name names)) ≡ (is_month_name q && (s || list_any (same_bytes q) names))
    by_case true true im is rest =
        let good : is_month_name q ≡ true = ap is_month_name (same_bytes_exact q n is) ∙ im in
        ap (λ (b : Bool). b || list_any (same_bytes q) (filter is_month_name names)) is ∙ sym (ap (λ (b : Bool). b && true) good)
    by_case true false im is rest = ap (λ (b : Bool). b || list_any (same_bytes q) (filter is_month_name names)) is ∙ rest
    by_case false true im is rest =
        let bad : is_month_name q ≡ false = ap is_month_name (same_bytes_exact q n is) ∙ im in
        rest ∙ ap (λ (b : Bool). b && list_any (same_bytes q) names) bad ∙ sym (ap (λ (b : Bool). b && true) bad)
    by_case false false im is rest = rest

-- a file is there if its name is among the names
pub any_keys : (files : Files) (q : List ℕ) → is_some (get files q) ≡ list_any (same_bytes q) (keys files)
any_keys files q = contains_key-keys files q ∙ tests (keys files)
  where
    tests : (names : List (List ℕ)) → list_any (eq_by_cmp bytes_cmp q) names ≡ list_any (same_bytes q) names
    tests [] = refl
    tests (n ∷ names) = ap (λ (b : Bool). b || list_any (eq_by_cmp bytes_cmp q) names) (sym (texts_ties q n)) ∙ ap (λ (b : Bool). same_bytes q n || b) (tests names)

-- names rise
below_names : (x : List ℕ) (es : List (List ℕ × List ℕ)) → below_all bytes_cmp x es ≡ true → AllByRecursion (λ m. bytes_cmp x m ≡ Less) (filter is_month_name (map (λ e. e.0) es))
below_names x [] is = tt
below_names x (e ∷ es) is = by_case (is_month_name e.0) (both (is_lt (bytes_cmp x e.0)) (below_all bytes_cmp x es) is) (below_names x es)
  where
    by_case : (b : Bool) → (is_lt (bytes_cmp x e.0) ≡ true) × (below_all bytes_cmp x es ≡ true) → (below_all bytes_cmp x es ≡ true → AllByRecursion (λ m. bytes_cmp x m ≡ Less) (filter is_month_name (map (λ e. e.0) es)))
        → AllByRecursion (λ m. bytes_cmp x m ≡ Less) (cond b (e.0 ∷ filter is_month_name (map (λ e. e.0) es)) (filter is_month_name (map (λ e. e.0) es)))
    by_case true parts rest = (is_less (bytes_cmp x e.0) parts.0, rest parts.1)
    by_case false parts rest = rest parts.1

names_rise : (es : List (List ℕ × List ℕ)) → is_sorted bytes_cmp es ≡ true → Rise (filter is_month_name (map (λ e. e.0) es))
names_rise [] is = tt
names_rise (e ∷ es) is = by_case (is_month_name e.0) (both (below_all bytes_cmp e.0 es) (is_sorted bytes_cmp es) is) (names_rise es)
  where
    by_case : (b : Bool) → (below_all bytes_cmp e.0 es ≡ true) × (is_sorted bytes_cmp es ≡ true) → (is_sorted bytes_cmp es ≡ true → Rise (filter is_month_name (map (λ e. e.0) es)))
        → Rise (cond b (e.0 ∷ filter is_month_name (map (λ e. e.0) es)) (filter is_month_name (map (λ e. e.0) es)))
    by_case true parts rest = (below_names e.0 es parts.0, rest parts.1)
    by_case false parts rest = rest parts.1

is_told : (b : Bool) → T b → b ≡ true
is_told true t = refl
is_told false t = absurd t

pub month_names_rise : (files : Files) → Rise (month_names files)
month_names_rise files = names_rise (entries files) (is_told (is_sorted bytes_cmp (entries files)) (entries_sorted files))

-- ---- after a change to these rows

none_of_row : (q : List ℕ) (rows : List Interval) → is_of_row q rows ≡ false → filter (is_in_month q) rows ≡ []
none_of_row q [] none = refl
none_of_row q (r ∷ rows) none = by_case (same_bytes q (month_name r.start)) (same_bytes (month_name r.start) q) (same_back q (month_name r.start)) none (none_of_row q rows)
  where
    same_back : (a b : List ℕ) → same_bytes a b ≡ same_bytes b a
    same_back a b = nat_list_eq_equiv.symm a b

    by_case : (s t : Bool) → s ≡ t → (s || is_of_row q rows) ≡ false → (is_of_row q rows ≡ false → filter (is_in_month q) rows ≡ []) → cond t (r ∷ filter (is_in_month q) rows) (filter (is_in_month q) rows) ≡ []
    by_case true t same none rest = absurd (cc)
    by_case false true same none rest = absurd (cc)
    by_case false false same none rest = rest none

module _ (files : Files) (rows : List Interval) where
  abbrev pub afterwards : Files
  afterwards = replaced files (changes_to files rows)

  text_or_not : (q : List ℕ) → is_month_name q ≡ true → (b : Bool) → list_any (same_bytes q) (all_names files rows) ≡ b → cond b (month_text q rows) (bytes_of files q) ≡ month_text q rows
  text_or_not q good true is = refl
  text_or_not q good false is =
      let parts = neither (list_any (same_bytes q) (month_names files)) (is_of_row q rows) (sym (any_all q (month_names files) rows) ∙ is) in
      let no_key : list_any (same_bytes q) (keys files) ≡ false = sym (ap (λ (b : Bool). b && list_any (same_bytes q) (keys files)) good) ∙ sym (any_filter q (keys files)) ∙ parts.0 in
      of_none (get files q) (any_keys files q ∙ no_key) ∙ sym (ap lines_text (none_of_row q rows parts.1))
    where
      neither : (a b : Bool) → (a || b) ≡ false → (a ≡ false) × (b ≡ false)
      neither true b e = absurd (cc)
      neither false b e = (refl, e)

      of_none : (o : Option (List ℕ)) → is_some o ≡ false → unwrap_or o [] ≡ []
      of_none None is = refl
      of_none (Some x) is = absurd (cc)

  -- each month file has the text of its month
  pub month_texts : (q : List ℕ) → is_month_name q ≡ true → bytes_of afterwards q ≡ month_text q rows
  month_texts q good = bytes_after_from files rows (all_names files rows) files q (inl refl) ∙ text_or_not q good (list_any (same_bytes q) (all_names files rows)) refl

  all_texts : (names : List (List ℕ)) → AllByRecursion (λ n. bytes_of afterwards n ≡ month_text n rows) (filter is_month_name names)
  all_texts [] = tt
  all_texts (n ∷ names) = by_case (is_month_name n) refl (all_texts names)
    where
      by_case : (b : Bool) → is_month_name n ≡ b → AllByRecursion (λ n. bytes_of afterwards n ≡ month_text n rows) (filter is_month_name names) → AllByRecursion (λ n. bytes_of afterwards n ≡ month_text n rows) (cond b (n ∷ filter is_month_name names) (filter is_month_name names))
      by_case true good rest = (month_texts n good, rest)
      by_case false bad rest = rest

  -- the month file of a row is there
  there : (q : List ℕ) → is_month_name q ≡ true → (month_text q rows ≡ [] → ⊥) → list_any (same_bytes q) (month_names afterwards) ≡ true
  there q good some = any_filter q (keys afterwards) ∙ ap (λ (b : Bool). b && list_any (same_bytes q) (keys afterwards)) good ∙ sym (any_keys afterwards q) ∙ of_some (get afterwards q) (month_texts q good)
    where
      of_some : (o : Option (List ℕ)) → unwrap_or o [] ≡ month_text q rows → is_some o ≡ true
      of_some (Some x) is = refl
      of_some None is = absurd (some (sym is))

  all_there : (those : List Interval) → AllByRecursion (λ r. is_month_name (month_name r.start) ≡ true) those → AllByRecursion (λ r. month_text (month_name r.start) rows ≡ [] → ⊥) those → AreNamed (month_names afterwards) those
  all_there [] good some = tt
  all_there (r ∷ those) good some = (there (month_name r.start) good.0 some.0, all_there those good.1 some.1)

  -- the files hold the rows
  pub rows_stored : AreRows rows → AllByRecursion IsBack rows → MonthsRise rows → AllByRecursion (λ r. is_month_name (month_name r.start) ≡ true) rows → AllByRecursion (λ r. month_text (month_name r.start) rows ≡ [] → ⊥) rows → rows_of afterwards ≡ Ok rows
  rows_stored are back rise good some =
      judged_rows (found_in afterwards (month_names afterwards)) rows
      (found_grouped afterwards rows (month_names afterwards) (all_texts (keys afterwards)) back ∙ ap (map Some) (grouped_all (month_names afterwards) (month_names_rise afterwards) rows rise (all_there rows good some)))
      are

-- ---- no row's month is empty

-- the text of a month with a row has a byte
kept_text : (q : List ℕ) (rows : List Interval) → list_any (is_in_month q) rows ≡ true → month_text q rows ≡ [] → ⊥
kept_text q [] is none = absurd (cc)
kept_text q (r ∷ rows) is none = by_case (is_in_month q r) is none (kept_text q rows)
  where
    by_case : (b : Bool) → (b || list_any (is_in_month q) rows) ≡ true → lines_text (cond b (r ∷ filter (is_in_month q) rows) (filter (is_in_month q) rows)) ≡ [] → (list_any (is_in_month q) rows ≡ true → month_text q rows ≡ [] → ⊥) → ⊥
    by_case true is none rest = absurd (cc)
    by_case false is none rest = rest is none

in_own : (before : List Interval) (r : Interval) (rows : List Interval) → list_any (is_in_month (month_name r.start)) (before ++ r ∷ rows) ≡ true
in_own [] r rows = ap (λ (b : Bool). b || list_any (is_in_month (month_name r.start)) rows) (same_bytes_itself (month_name r.start))
in_own (x ∷ before) r rows = ap (λ (b : Bool). is_in_month (month_name r.start) x || b) (in_own before r rows) ∙ or_true (is_in_month (month_name r.start) x)
  where
    or_true : (b : Bool) → (b || true) ≡ true
    or_true true = refl
    or_true false = refl

pub none_empty : (before rows : List Interval) → AllByRecursion (λ r. month_text (month_name r.start) (before ++ rows) ≡ [] → ⊥) rows
none_empty before [] = tt
none_empty before (r ∷ rows) = (kept_text (month_name r.start) (before ++ r ∷ rows) (in_own before r rows), subst (λ (l : List Interval). AllByRecursion (λ s. month_text (month_name s.start) l ≡ [] → ⊥) rows) (append_assoc before (r ∷ []) rows) (none_empty (before ++ r ∷ []) rows))
