-- What becomes of month files, name by name.
use Rattle.std.proofs.Common.{◌≡◌, ℕ, ◌≤◌, Bool, true, false, cond, ◌&&◌, ◌||◌, List, [], ◌∷◌, ◌++◌, map, length, drop, Option, Some, None, refl, sym, ap, subst, ◌∙◌, append_assoc}
use Rattle.std.specs.Prelude.{filter, is_some, unwrap_or, option_map, IfSome}
use Rattle.std.proofs.lemmas.List.{append-nil, drop_all}
use Rattle.std.proofs.lemmas.List.Concat.{flat_map-cons}
use Rattle.std.specs.List.{flat_map, list_any, AllByRecursion}
use Rattle.std.specs.FinMap.{get, keys}
use Rattle.std.specs.FinMap.Entries.{by_order}
use Rattle.std.specs.declared.cmp.Ordering.{Ordering}
use Rattle.std.specs.declared.cmp.Ordering.TheVariants.{Less, Equal, Greater}
use Rattle.tw_world.specs.Folder.{Files, bytes_cmp, same_bytes, add_name}
use Rattle.timew_interval.specs.declared.interval.Interval.{Interval}
use Rattle.timew_month.specs.Body.{FileChange, AreMonths}
use Rattle.timew_interval.specs.MonthName.{is_month_name, month_text}
use Rattle.timew_month.specs.Gathered.{NamedBytes, months_in}
use Rattle.timew_month.specs.Files.{bytes_of}
use Rattle.timew_month.specs.NamedFiles.{bytes_in, text_in, names_in, with_names, one_change}
use Rattle.timew_month.specs.Line.{after}
use Rattle.timew_month.specs.Changes.{month_change, changes_to}
use Rattle.timew_month.specs.Rows.{month_names}
use Rattle.timew_month.specs.MonthTexts.{HaveNames, AddTexts}
use Rattle.timew_month.proofs.ExactLine.{after_is}
use Rattle.timew_interval.proofs.SameBytes.{same_bytes_exact, same_bytes_back, same_bytes_itself}
use Rattle.timew_month.proofs.ChangedFiles.{any_keys, any_filter}

-- ---- names of months

abbrev pub AreMonthNames : List (List ℕ) → Type 0
AreMonthNames names = AllByRecursion (λ name. is_month_name name ≡ true) names

-- those among names that are names of months
pub months_good : (names : List (List ℕ)) → AreMonthNames (filter is_month_name names)
months_good [] = tt
months_good (n ∷ names) = by_case (is_month_name n) refl (months_good names)
  where
    by_case : (b : Bool) → is_month_name n ≡ b → AreMonthNames (filter is_month_name names) → AreMonthNames (cond b (n ∷ filter is_month_name names) (filter is_month_name names))
    by_case true is more = (is, more)
    by_case false is more = more

pub added_good : (k : List ℕ) (names : List (List ℕ)) → is_month_name k ≡ true → AreMonthNames names → AreMonthNames (add_name k names)
added_good k [] is are = (is, tt)
added_good k (n ∷ names) is are = by_case (bytes_cmp k n) (added_good k names is are.1)
  where
    by_case : (o : Ordering) → AreMonthNames (add_name k names) → AreMonthNames (by_order o (k ∷ n ∷ names) (n ∷ names) (n ∷ add_name k names))
    by_case Less more = (is, are)
    by_case Equal more = are
    by_case Greater more = (are.0, more)

pub with_good : (texts : List NamedBytes) (names : List (List ℕ)) → HaveNames texts → AreMonthNames names → AreMonthNames (with_names texts names)
with_good [] names are good = good
with_good (m ∷ texts) names are good = with_good texts (add_name m.0 names) are.1 (added_good m.0 names are.0 good)

-- ---- bytes

bytes_among : (files : Files) (names : List (List ℕ)) (q : List ℕ) → bytes_in (map (λ name. (name, bytes_of files name)) names) q ≡ cond (list_any (same_bytes q) names) (bytes_of files q) []
bytes_among files [] q = refl
bytes_among files (n ∷ names) q =
    by_case (same_bytes n q) refl (bytes_among files names q)
    ∙ ap (λ b. cond (b || list_any (same_bytes q) names) (bytes_of files q) []) (same_bytes_back n q)
  where
    by_case : (b : Bool) → same_bytes n q ≡ b → bytes_in (map (λ name. (name, bytes_of files name)) names) q ≡ cond (list_any (same_bytes q) names) (bytes_of files q) []
        → cond b (bytes_of files n) (bytes_in (map (λ name. (name, bytes_of files name)) names) q) ≡ cond (b || list_any (same_bytes q) names) (bytes_of files q) []
    by_case true is more = ap (bytes_of files) (same_bytes_exact n q is)
    by_case false is more = more

-- the bytes of a month file are those in memory
pub bytes_kept : (files : Files) (q : List ℕ) → is_month_name q ≡ true → bytes_in (months_in files) q ≡ bytes_of files q
bytes_kept files q good = bytes_among files (month_names files) q ∙ by_case (list_any (same_bytes q) (month_names files)) refl
  where
    of_none : (o : Option (List ℕ)) → is_some o ≡ false → [] ≡ unwrap_or o []
    of_none None is = refl
    of_none (Some x) is = absurd (cc)

    by_case : (b : Bool) → list_any (same_bytes q) (month_names files) ≡ b → cond b (bytes_of files q) [] ≡ bytes_of files q
    by_case true is = refl
    by_case false is = of_none (get files q) (any_keys files q ∙ sym (ap (λ b. b && list_any (same_bytes q) (keys files)) good) ∙ sym (any_filter q (keys files)) ∙ is)

-- ---- changes

each_same : (files : Files) (months : List NamedBytes) (rows : List Interval) (names : List (List ℕ)) → ((name : List ℕ) → text_in months name ≡ month_text name rows) → AreMonthNames names
    → flat_map (one_change (months_in files) months) names ≡ flat_map (month_change files rows) names
each_same files months rows [] texts good = refl
each_same files months rows (n ∷ names) texts good =
    flat_map-cons (one_change (months_in files) months) n names
    ∙ ap (λ (old : List ℕ). cond (same_bytes old (text_in months n)) [] (record { name = n; old = old; new = text_in months n } ∷ []) ++ flat_map (one_change (months_in files) months) names) (bytes_kept files n good.0)
    ∙ ap (λ (new : List ℕ). cond (same_bytes (bytes_of files n) new) [] (record { name = n; old = bytes_of files n; new = new } ∷ []) ++ flat_map (one_change (months_in files) months) names) (texts n)
    ∙ ap (λ (l : List FileChange). month_change files rows n ++ l) (each_same files months rows names texts good.1)
    ∙ sym (flat_map-cons (month_change files rows) n names)

pub names_kept : (files : Files) (names : List (List ℕ)) → names_in (map (λ name. (name, bytes_of files name)) names) ≡ names
names_kept files [] = refl
names_kept files (n ∷ names) = ap (λ (l : List (List ℕ)). n ∷ l) (names_kept files names)

-- what becomes of the files in memory is what becomes of those of the folder
pub changes_same : (files : Files) (kept texts : List NamedBytes) (rows : List Interval) → kept ≡ months_in files → AddTexts [] texts rows
    → flat_map (one_change kept texts) (with_names texts (names_in kept)) ≡ changes_to files rows
changes_same files kept texts rows is add =
    let same : names_in kept ≡ month_names files = ap names_in is ∙ names_kept files (month_names files) in
    let all : AreMonthNames (with_names texts (month_names files)) = with_good texts (month_names files) (add.good tt) (months_good (keys files)) in
    ap (λ (l : List NamedBytes). flat_map (one_change l texts) (with_names texts (names_in kept))) is
    ∙ ap (λ (l : List (List ℕ)). flat_map (one_change (months_in files) texts) (with_names texts l)) same
    ∙ each_same files texts rows (with_names texts (month_names files)) add.text all
    ∙ ap (flat_map (month_change files rows)) (add.names (month_names files))

pub changed_end : (kept months : List NamedBytes) (names : List (List ℕ)) (i : ℕ) (out total : List FileChange) → length names ≤ i → out ++ flat_map (one_change kept months) (drop i names) ≡ total → out ≡ total
changed_end kept months names i out total le so_far = sym (append-nil out) ∙ ap (λ (l : List (List ℕ)). out ++ flat_map (one_change kept months) l) (sym (drop_all i names le)) ∙ so_far

-- a file that has the text already is not changed
pub none_here : (kept texts : List NamedBytes) (name : List ℕ) → bytes_in kept name ≡ text_in texts name → one_change kept texts name ≡ []
none_here kept texts name is = ap (λ (b : Bool). cond b [] (record { name = name; old = bytes_in kept name; new = text_in texts name } ∷ [])) (ap (same_bytes (bytes_in kept name)) (sym is) ∙ same_bytes_itself (bytes_in kept name))

-- what follows two texts
pub both_behind : {X : Type 0} (view : X → List ℕ) (kept new bytes rest : List ℕ) (r : Option X) → after kept bytes ≡ Some rest → option_map view r ≡ after new rest → IfSome r (λ x. bytes ≡ (kept ++ new) ++ view x)
both_behind view kept new bytes rest None front is = tt
both_behind view kept new bytes rest (Some x) front is =
    after_is kept bytes rest front ∙ ap (λ (l : List ℕ). kept ++ l) (after_is new rest (view x) (sym is)) ∙ sym (append_assoc kept new (view x))

-- what becomes of files has the names of months
pub each_month : (kept months : List NamedBytes) (names : List (List ℕ)) → AreMonthNames names → AreMonths (flat_map (one_change kept months) names)
each_month kept months [] good = tt
each_month kept months (n ∷ names) good = subst AreMonths (sym (flat_map-cons (one_change kept months) n names)) (by_case (same_bytes (bytes_in kept n) (text_in months n)) (each_month kept months names good.1))
  where
    by_case : (b : Bool) → AreMonths (flat_map (one_change kept months) names)
        → AreMonths (cond b [] (record { name = n; old = bytes_in kept n; new = text_in months n } ∷ []) ++ flat_map (one_change kept months) names)
    by_case true rest = rest
    by_case false rest = (good.0, rest)
