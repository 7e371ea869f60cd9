-- The names of month files rise, and so do those of a change.
use Rattle.std.specs.Prelude.{filter, cond, fold}
use Rattle.std.proofs.Common.{◌≡◌, ℕ, Bool, true, false, ◌&&◌, List, [], ◌∷◌, ◌++◌, map, refl, sym, ap, subst, ◌∙◌}
use Rattle.std.proofs.lemmas.List.Concat.{flat_map-cons}
use Rattle.std.specs.List.{flat_map, AllByRecursion}
use Rattle.std.specs.FinMap.{keys, entries, entries_sorted, insert, entries-insert}
use Rattle.std.specs.FinMap.Entries.{put, by_order, is_sorted, below_all}
use Rattle.std.specs.Cmp.Lexicographic.{nat_list_cmp_total}
use Rattle.std.specs.Ordering.{is_lt, ordering_reverse}
use Rattle.std.specs.declared.cmp.Ordering.{Ordering}
use Rattle.std.specs.declared.cmp.Ordering.TheVariants.{Less, Equal, Greater}
use Rattle.tw_world.specs.Folder.{Files, bytes_cmp, same_bytes, add_name}
use Rattle.timew_interval.specs.declared.interval.Interval.{Interval}
use Rattle.timew_month.specs.Body.{FileChange, rises_from, names_rise}
use Rattle.timew_interval.specs.MonthName.{is_month_name, month_name, month_text}
use Rattle.timew_month.specs.Files.{bytes_of}
use Rattle.timew_month.specs.Changes.{month_change, all_names, changes_to}
use Rattle.timew_month.specs.Rows.{month_names}
use Rattle.timew_interval.proofs.SameBytes.{bytes_exact}
use Rattle.timew_interval.proofs.Tests.{both, is_less, is_true}
use Rattle.timew_month.proofs.GroupedMonths.{Rise}
use Rattle.timew_month.proofs.ChangedFiles.{month_names_rise}

-- ---- names

-- a name below each of these
abbrev pub IsBelow : List ℕ → List (List ℕ) → Type 0
IsBelow low names = AllByRecursion (λ m. bytes_cmp low m ≡ Less) names

pub below_lower : (low k : List ℕ) (names : List (List ℕ)) → bytes_cmp low k ≡ Less → IsBelow k names → IsBelow low names
below_lower low k [] less below = tt
below_lower low k (n ∷ names) less below = (nat_list_cmp_total.trans low k n less below.0, below_lower low k names less below.1)

below_added : (low k : List ℕ) (names : List (List ℕ)) → bytes_cmp low k ≡ Less → IsBelow low names → IsBelow low (add_name k names)
below_added low k [] less below = (less, tt)
below_added low k (n ∷ names) less below = by_case (bytes_cmp k n) (below_added low k names less below.1)
  where
    by_case : (o : Ordering) → IsBelow low (add_name k names) → IsBelow low (by_order o (k ∷ n ∷ names) (n ∷ names) (n ∷ add_name k names))
    by_case Less more = (less, below)
    by_case Equal more = below
    by_case Greater more = (below.0, more)

above : (k n : List ℕ) → bytes_cmp k n ≡ Greater → bytes_cmp n k ≡ Less
above k n more = nat_list_cmp_total.antisymm n k ∙ ap ordering_reverse more

pub rise_added : (k : List ℕ) (names : List (List ℕ)) → Rise names → Rise (add_name k names)
rise_added k [] rise = (tt, tt)
rise_added k (n ∷ names) rise = by_case (bytes_cmp k n) refl (rise_added k names rise.1)
  where
    by_case : (o : Ordering) → bytes_cmp k n ≡ o → Rise (add_name k names) → Rise (by_order o (k ∷ n ∷ names) (n ∷ names) (n ∷ add_name k names))
    by_case Less is more = ((is, below_lower k n names is rise.0), rise)
    by_case Equal is more = rise
    by_case Greater is more = (below_added n k names (above k n is) rise.0, more)

with_rows_rise : (names : List (List ℕ)) (rows : List Interval) → Rise names → Rise (fold (λ had r. add_name (month_name r.start) had) names rows)
with_rows_rise names [] rise = rise
with_rows_rise names (r ∷ rows) rise = with_rows_rise (add_name (month_name r.start) names) rows (rise_added (month_name r.start) names rise)

-- ---- the files of a change

module _ (files : Files) (rows : List Interval) where
  one_below : (low n : List ℕ) (more : List FileChange) → bytes_cmp low n ≡ Less → rises_from n more ≡ true → rises_from low more ≡ true → rises_from low (month_change files rows n ++ more) ≡ true
  one_below low n more less above below = by_case (same_bytes (bytes_of files n) (month_text n rows))
    where
      here : (is_lt (bytes_cmp low n) && rises_from n more) ≡ true
      here = ap (λ (o : Ordering). is_lt o && rises_from n more) less ∙ above

      by_case : (b : Bool) → rises_from low (cond b [] (record { name = n; old = bytes_of files n; new = month_text n rows } ∷ []) ++ more) ≡ true
      by_case true = below
      by_case false = here

  each_below : (low : List ℕ) (names : List (List ℕ)) → IsBelow low names → Rise names → rises_from low (flat_map (month_change files rows) names) ≡ true
  each_below low [] below rise = refl
  each_below low (n ∷ names) below rise =
      ap (rises_from low) (flat_map-cons (month_change files rows) n names)
      ∙ one_below low n (flat_map (month_change files rows) names) below.0 (each_below n names rise.0 rise.1) (each_below low names below.1 rise.1)

  each_rises : (names : List (List ℕ)) → Rise names → names_rise (flat_map (month_change files rows) names) ≡ true
  each_rises [] rise = refl
  each_rises (n ∷ names) rise =
      ap names_rise (flat_map-cons (month_change files rows) n names)
      ∙ by_case (same_bytes (bytes_of files n) (month_text n rows)) (each_below n names rise.0 rise.1) (each_rises names rise.1)
    where
      by_case : (b : Bool) → rises_from n (flat_map (month_change files rows) names) ≡ true → names_rise (flat_map (month_change files rows) names) ≡ true
          → names_rise (cond b [] (record { name = n; old = bytes_of files n; new = month_text n rows } ∷ []) ++ flat_map (month_change files rows) names) ≡ true
      by_case true above rest = rest
      by_case false above rest = above

  -- the names of a change to these intervals rise
  pub changes_rise : names_rise (changes_to files rows) ≡ true
  changes_rise = each_rises (all_names files rows) (with_rows_rise (month_names files) rows (month_names_rise files))

-- ---- the names of a folder, with one more

entries_below : (x : List ℕ) (es : List (List ℕ × List ℕ)) → below_all bytes_cmp x es ≡ true → IsBelow x (map (λ e. e.0) es)
entries_below x [] is = tt
entries_below x (e ∷ es) is =
    let parts = both (is_lt (bytes_cmp x e.0)) (below_all bytes_cmp x es) is in
    (is_less (bytes_cmp x e.0) parts.0, entries_below x es parts.1)

entries_rise : (es : List (List ℕ × List ℕ)) → is_sorted bytes_cmp es ≡ true → Rise (map (λ e. e.0) es)
entries_rise [] is = tt
entries_rise (e ∷ es) is =
    let parts = both (below_all bytes_cmp e.0 es) (is_sorted bytes_cmp es) is in
    (entries_below e.0 es parts.0, entries_rise es parts.1)

keys_rise : (files : Files) → Rise (keys files)
keys_rise files = entries_rise (entries files) (is_true (is_sorted bytes_cmp (entries files)) (entries_sorted files))

put_keys : (k v : List ℕ) (es : List (List ℕ × List ℕ)) → map (λ e. e.0) (put bytes_cmp k v es) ≡ add_name k (map (λ e. e.0) es)
put_keys k v [] = refl
put_keys k v (e ∷ es) = by_case (bytes_cmp k e.0) (put_keys k v es)
  where
    by_case : (o : Ordering) → map (λ e. e.0) (put bytes_cmp k v es) ≡ add_name k (map (λ e. e.0) es)
        → map (λ e. e.0) (by_order o ((k, v) ∷ e ∷ es) ((e.0, v) ∷ es) (e ∷ put bytes_cmp k v es)) ≡ by_order o (k ∷ e.0 ∷ map (λ e. e.0) es) (e.0 ∷ map (λ e. e.0) es) (e.0 ∷ add_name k (map (λ e. e.0) es))
    by_case Less rest = refl
    by_case Equal rest = refl
    by_case Greater rest = ap (λ ks. e.0 ∷ ks) rest

keys_put : (files : Files) (name bytes : List ℕ) → keys (insert files name bytes) ≡ add_name name (keys files)
keys_put files name bytes = ap (map (λ e. e.0)) (entries-insert nat_list_cmp_total files name bytes) ∙ put_keys name bytes (entries files)

-- months among names, after a lower name
below_months : (low : List ℕ) (names : List (List ℕ)) → IsBelow low names → IsBelow low (filter is_month_name names)
below_months low [] below = tt
below_months low (n ∷ names) below = by_case (is_month_name n) (below_months low names below.1)
  where
    by_case : (b : Bool) → IsBelow low (filter is_month_name names) → IsBelow low (cond b (n ∷ filter is_month_name names) (filter is_month_name names))
    by_case true more = (below.0, more)
    by_case false more = more

first_added : (k : List ℕ) (names : List (List ℕ)) → IsBelow k names → add_name k names ≡ k ∷ names
first_added k [] below = refl
first_added k (n ∷ names) below = ap (λ (o : Ordering). by_order o (k ∷ n ∷ names) (n ∷ names) (n ∷ add_name k names)) below.0

months_added : (k : List ℕ) (names : List (List ℕ)) → is_month_name k ≡ true → Rise names → filter is_month_name (add_name k names) ≡ add_name k (filter is_month_name names)
months_added k [] good rise = ap (λ (b : Bool). cond b (k ∷ []) []) good
months_added k (n ∷ names) good rise = by_case (bytes_cmp k n) refl (months_added k names good rise.1)
  where
    kept : (m : Bool) → bytes_cmp k n ≡ Greater → filter is_month_name (add_name k names) ≡ add_name k (filter is_month_name names)
        → cond m (n ∷ filter is_month_name (add_name k names)) (filter is_month_name (add_name k names)) ≡ add_name k (cond m (n ∷ filter is_month_name names) (filter is_month_name names))
    kept true is rest = ap (λ (l : List (List ℕ)). n ∷ l) rest ∙ sym (ap (λ (o : Ordering). by_order o (k ∷ n ∷ filter is_month_name names) (n ∷ filter is_month_name names) (n ∷ add_name k (filter is_month_name names))) is)
    kept false is rest = rest

    by_case : (o : Ordering) → bytes_cmp k n ≡ o → filter is_month_name (add_name k names) ≡ add_name k (filter is_month_name names)
        → filter is_month_name (by_order o (k ∷ n ∷ names) (n ∷ names) (n ∷ add_name k names)) ≡ add_name k (filter is_month_name (n ∷ names))
    by_case Less is rest =
        ap (λ (b : Bool). cond b (k ∷ filter is_month_name (n ∷ names)) (filter is_month_name (n ∷ names))) good
        ∙ sym (first_added k (filter is_month_name (n ∷ names)) (below_months k (n ∷ names) (is, below_lower k n names is rise.0)))
    by_case Equal is rest =
        let same : k ≡ n = bytes_exact k n is in
        let good_n : is_month_name n ≡ true = subst (λ (m : List ℕ). is_month_name m ≡ true) same good in
        let here : filter is_month_name (n ∷ names) ≡ n ∷ filter is_month_name names = ap (λ (b : Bool). cond b (n ∷ filter is_month_name names) (filter is_month_name names)) good_n in
        here ∙ sym (ap (add_name k) here ∙ ap (λ (o : Ordering). by_order o (k ∷ n ∷ filter is_month_name names) (n ∷ filter is_month_name names) (n ∷ add_name k (filter is_month_name names))) is)
    by_case Greater is rest = kept (is_month_name n) is rest

-- the names of the month files, with one more
pub month_names_put : (files : Files) (name bytes : List ℕ) → is_month_name name ≡ true → month_names (insert files name bytes) ≡ add_name name (month_names files)
month_names_put files name bytes good = ap (filter is_month_name) (keys_put files name bytes) ∙ months_added name (keys files) good (keys_rise files)
