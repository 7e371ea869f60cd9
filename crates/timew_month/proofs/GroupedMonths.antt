-- Intervals in order, sorted into their months and put together again.
use Rattle.std.specs.Prelude.{filter, cond}
use Rattle.std.proofs.Common.{◌≡◌, ℕ, ◌+◌, Bool, true, false, ◌||◌, List, [], ◌∷◌, ◌++◌, map, Option, Some, None, Result, Ok, Err, refl, sym, ap, subst, ◌∙◌}
use Rattle.std.specs.List.{list_any, flat_map, AllByRecursion}
use Rattle.std.specs.Cmp.Lexicographic.{nat_list_cmp_total, texts_ties}
use Rattle.std.specs.Ordering.{is_eq, ordering_reverse}
use Rattle.std.specs.declared.cmp.Ordering.{Ordering}
use Rattle.std.specs.declared.cmp.Ordering.TheVariants.{Less, Equal, Greater}
use Rattle.tw_world.specs.Folder.{Files, bytes_cmp, same_bytes}
use Rattle.timew_interval.specs.declared.interval.Interval.{Interval}
use Rattle.timew_month.specs.Files.{bytes_of}
use Rattle.timew_month.specs.Line.{row_of}
use Rattle.timew_month.specs.Month.{lines, rows_from, with_line}
use Rattle.timew_month.specs.Rows.{Found, found_from, found_in}
use Rattle.timew_interval.specs.MonthName.{month_name, is_in_month, month_text}
use Rattle.timew_interval.proofs.SameBytes.{same_bytes_exact, same_bytes_itself}
use Rattle.timew_month.proofs.LineReadBack.{IsBack, month_back}
use Rattle.timew_month.proofs.GoodLines.{rows_found}

-- ---- names

-- each name is below those after it
abbrev pub Rise : List (List ℕ) → Type 0
Rise [] = Unit {0}
Rise (n ∷ names) = AllByRecursion (λ m. bytes_cmp n m ≡ Less) names × Rise names

-- no month is before that of an interval in front
abbrev pub NotBefore : Interval → Interval → Type 0
NotBefore r s = bytes_cmp (month_name s.start) (month_name r.start) ≡ Less → ⊥

abbrev pub MonthsRise : List Interval → Type 0
MonthsRise [] = Unit {0}
MonthsRise (r ∷ rows) = AllByRecursion (NotBefore r) rows × MonthsRise rows

-- each has its month among these
abbrev pub AreNamed : List (List ℕ) → List Interval → Type 0
AreNamed names rows = AllByRecursion (λ r. list_any (same_bytes (month_name r.start)) names ≡ true) rows

apart : (a b : List ℕ) → bytes_cmp a b ≡ Less → same_bytes a b ≡ false
apart a b less = texts_ties a b ∙ ap is_eq less

none_named : (n : List ℕ) (names : List (List ℕ)) → AllByRecursion (λ m. bytes_cmp n m ≡ Less) names → list_any (same_bytes n) names ≡ false
none_named n [] all = refl
none_named n (m ∷ names) all = ap (λ b. b || list_any (same_bytes n) names) (apart n m all.0) ∙ none_named n names all.1

named_above : (n k : List ℕ) (names : List (List ℕ)) → AllByRecursion (λ m. bytes_cmp n m ≡ Less) names → list_any (same_bytes k) names ≡ true → bytes_cmp n k ≡ Less
named_above n k [] all is = absurd (cc)
named_above n k (m ∷ names) all is = by_case (same_bytes k m) refl is (named_above n k names all.1)
  where
    by_case : (b : Bool) → same_bytes k m ≡ b → (b || list_any (same_bytes k) names) ≡ true → (list_any (same_bytes k) names ≡ true → bytes_cmp n k ≡ Less) → bytes_cmp n k ≡ Less
    by_case true same is more = subst (λ x. bytes_cmp n x ≡ Less) (sym (same_bytes_exact k m same)) all.0
    by_case false same is more = more is

-- n < k and not s < k give n < s
above_too : (n k s : List ℕ) → bytes_cmp n k ≡ Less → (bytes_cmp s k ≡ Less → ⊥) → bytes_cmp n s ≡ Less
above_too n k s less not_less = by_case (bytes_cmp n s) refl
  where
    by_case : (o : Ordering) → bytes_cmp n s ≡ o → bytes_cmp n s ≡ Less
    by_case Less is = is
    by_case Equal is = absurd (not_less (sym (nat_list_cmp_total.congr n s k is) ∙ less))
    by_case Greater is = absurd (not_less (nat_list_cmp_total.trans s n k (nat_list_cmp_total.antisymm s n ∙ ap ordering_reverse is) less))

-- ---- grouping

abbrev pub grouped : List Interval → List (List ℕ) → List Interval
grouped rows names = flat_map (λ n. filter (is_in_month n) rows) names

filter_first : (n : List ℕ) (r : Interval) (rows : List Interval) (b : Bool) → same_bytes (month_name r.start) n ≡ b → filter (is_in_month n) (r ∷ rows) ≡ cond b (r ∷ filter (is_in_month n) rows) (filter (is_in_month n) rows)
filter_first n r rows b is = ap (λ c. cond c (r ∷ filter (is_in_month n) rows) (filter (is_in_month n) rows)) is

-- an interval of no such month
skipped : (r : Interval) (rows : List Interval) (names : List (List ℕ)) → list_any (same_bytes (month_name r.start)) names ≡ false → grouped (r ∷ rows) names ≡ grouped rows names
skipped r rows [] none = refl
skipped r rows (n ∷ names) none =
    let parts = neither (same_bytes (month_name r.start) n) (list_any (same_bytes (month_name r.start)) names) none in
    ap (λ (l : List Interval). l ++ grouped (r ∷ rows) names) (filter_first n r rows false parts.0) ∙ ap (λ (l : List Interval). filter (is_in_month n) rows ++ l) (skipped r rows names parts.1)
  where
    neither : (a b : Bool) → (a || b) ≡ false → (a ≡ false) × (b ≡ false)
    neither true b e = absurd (cc)
    neither false b e = (refl, e)

none_in : (n : List ℕ) (rows : List Interval) → AllByRecursion (λ s. same_bytes (month_name s.start) n ≡ false) rows → filter (is_in_month n) rows ≡ []
none_in n [] all = refl
none_in n (s ∷ rows) all = filter_first n s rows false all.0 ∙ none_in n rows all.1

-- the intervals from the first on that is not of month n
module _ (n : List ℕ) (names : List (List ℕ)) (all_above : AllByRecursion (λ m. bytes_cmp n m ≡ Less) names) where
  other : (s : List ℕ) → bytes_cmp n s ≡ Less → same_bytes s n ≡ false
  other s less = by_case (same_bytes s n) refl
    where
      by_case : (b : Bool) → same_bytes s n ≡ b → same_bytes s n ≡ false
      by_case true is = absurd (let e : same_bytes n s ≡ false = apart n s less in let f : same_bytes n n ≡ true = same_bytes_itself n in let g : s ≡ n = same_bytes_exact s n is in cc)
      by_case false is = is

  all_other : (k : List ℕ) (rows : List Interval) → bytes_cmp n k ≡ Less → AllByRecursion (λ s. bytes_cmp (month_name s.start) k ≡ Less → ⊥) rows → AllByRecursion (λ s. same_bytes (month_name s.start) n ≡ false) rows
  all_other k [] less all = tt
  all_other k (s ∷ rows) less all = (other (month_name s.start) (above_too n k (month_name s.start) less all.0), all_other k rows less all.1)

  named_on : (rows : List Interval) → AllByRecursion (λ s. same_bytes (month_name s.start) n ≡ false) rows → AreNamed (n ∷ names) rows → AreNamed names rows
  named_on [] all named = tt
  named_on (s ∷ rows) all named = (sym (ap (λ b. b || list_any (same_bytes (month_name s.start)) names) all.0) ∙ named.0, named_on rows all.1 named.1)

  one_month : ((rows : List Interval) → MonthsRise rows → AreNamed names rows → grouped rows names ≡ rows) → (rows : List Interval) → MonthsRise rows → AreNamed (n ∷ names) rows → grouped rows (n ∷ names) ≡ rows
  one_month rest [] rise named = rest [] tt tt
  one_month rest (r ∷ rows) rise named = by_case (same_bytes (month_name r.start) n) refl (one_month rest rows rise.1 named.1)
    where
      by_case : (b : Bool) → same_bytes (month_name r.start) n ≡ b → grouped rows (n ∷ names) ≡ rows → grouped (r ∷ rows) (n ∷ names) ≡ r ∷ rows
      by_case true is later =
          ap (λ (l : List Interval). l ++ grouped (r ∷ rows) names) (filter_first n r rows true is)
          ∙ ap (λ (l : List Interval). (r ∷ filter (is_in_month n) rows) ++ l) (skipped r rows names (ap (λ (k : List ℕ). list_any (same_bytes k) names) (same_bytes_exact (month_name r.start) n is) ∙ none_named n names all_above))
          ∙ ap (λ (l : List Interval). r ∷ l) later
      by_case false is later =
          let in_names : list_any (same_bytes (month_name r.start)) names ≡ true = sym (ap (λ b. b || list_any (same_bytes (month_name r.start)) names) is) ∙ named.0 in
          let less : bytes_cmp n (month_name r.start) ≡ Less = named_above n (month_name r.start) names all_above in_names in
          let others = all_other (month_name r.start) rows less rise.0 in
          ap (λ (l : List Interval). l ++ grouped (r ∷ rows) names) (filter_first n r rows false is ∙ none_in n rows others)
          ∙ rest (r ∷ rows) rise (in_names, named_on rows others named.1)

-- intervals whose months rise are those of their months, month by month
pub grouped_all : (names : List (List ℕ)) → Rise names → (rows : List Interval) → MonthsRise rows → AreNamed names rows → grouped rows names ≡ rows
grouped_all [] names_rise [] rise named = refl
grouped_all [] names_rise (r ∷ rows) rise named = absurd (let e : false ≡ true = named.0 in cc)
grouped_all (n ∷ names) names_rise rows rise named = one_month n names names_rise.0 (grouped_all names names_rise.1) rows rise named

-- ---- the lines of the files

from_rows : (file : List ℕ) (n : ℕ) (ls : List (List ℕ)) (rows : List Interval) → rows_from n ls ≡ Ok rows → rows_found (found_from file n ls) ≡ map Some rows
from_rows file n [] [] is = refl
from_rows file n [] (r ∷ rows) is = absurd (cc)
from_rows file n ([] ∷ ls) rows is = from_rows file (n + 1) ls rows is
from_rows file n ((b ∷ l) ∷ ls) rows is = of_row (row_of (b ∷ l)) (rows_from (n + 1) ls) refl (from_rows file (n + 1) ls) is
  where
    of_row : (o : Option Interval) (rest : Result (List Interval) ℕ) → rows_from (n + 1) ls ≡ rest → ((more : List Interval) → rows_from (n + 1) ls ≡ Ok more → rows_found (found_from file (n + 1) ls) ≡ map Some more) → with_line n o rest ≡ Ok rows → o ∷ rows_found (found_from file (n + 1) ls) ≡ map Some rows
    of_row None rest same later is = absurd (cc)
    of_row (Some r) (Err line) same later is = absurd (cc)
    of_row (Some r) (Ok more) same later is = let e : r ∷ more ≡ rows = cc in ap (λ (l : List (Option Interval)). Some r ∷ l) (later more same) ∙ ap (map Some) e

back_in : (n : List ℕ) (rows : List Interval) → AllByRecursion IsBack rows → AllByRecursion IsBack (filter (is_in_month n) rows)
back_in n [] back = tt
back_in n (r ∷ rows) back = by_case (is_in_month n r) (back_in n rows back.1)
  where
    by_case : (b : Bool) → AllByRecursion IsBack (filter (is_in_month n) rows) → AllByRecursion IsBack (cond b (r ∷ filter (is_in_month n) rows) (filter (is_in_month n) rows))
    by_case true rest = (back.0, rest)
    by_case false rest = rest

map_append : (f g : List Found) → rows_found (f ++ g) ≡ rows_found f ++ rows_found g
map_append [] g = refl
map_append (x ∷ f) g = ap (λ (l : List (Option Interval)). x.row ∷ l) (map_append f g)

some_append : (xs ys : List Interval) → map Some (xs ++ ys) ≡ map Some xs ++ map Some ys
some_append [] ys = refl
some_append (x ∷ xs) ys = ap (λ (l : List (Option Interval)). Some x ∷ l) (some_append xs ys)

-- files with the texts of months hold the intervals of these months
pub found_grouped : (files : Files) (rows : List Interval) (names : List (List ℕ)) → AllByRecursion (λ n. bytes_of files n ≡ month_text n rows) names → AllByRecursion IsBack rows → rows_found (found_in files names) ≡ map Some (grouped rows names)
found_grouped files rows [] texts back = refl
found_grouped files rows (n ∷ names) texts back =
    let here : rows_found (found_from n 1 (lines (bytes_of files n))) ≡ map Some (filter (is_in_month n) rows) =
    ap (λ (b : List ℕ). rows_found (found_from n 1 (lines b))) texts.0 ∙ from_rows n 1 (lines (month_text n rows)) (filter (is_in_month n) rows) (month_back (filter (is_in_month n) rows) (back_in n rows back)) in
    map_append (found_from n 1 (lines (bytes_of files n))) (found_in files names)
    ∙ ap (λ (l : List (Option Interval)). l ++ rows_found (found_in files names)) here
    ∙ ap (λ (l : List (Option Interval)). map Some (filter (is_in_month n) rows) ++ l) (found_grouped files rows names texts.1 back)
    ∙ sym (some_append (filter (is_in_month n) rows) (grouped rows names))
