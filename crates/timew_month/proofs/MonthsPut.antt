-- Month files in memory, with those of a change put among them.
use Rattle.std.specs.Prelude.{cond, unwrap_or, fold}
use Rattle.std.proofs.Common.{◌≡◌, ℕ, Bool, true, false, List, [], ◌∷◌, Option, Some, refl, sym, ap, subst, ◌∙◌}
use Rattle.std.specs.List.{list_all}
use Rattle.std.specs.FinMap.{insert, get}
use Rattle.std.specs.FinMap.Entries.{by_order}
use Rattle.std.specs.Cmp.Lexicographic.{texts_ties}
use Rattle.std.specs.Ordering.{is_eq}
use Rattle.std.specs.declared.cmp.Ordering.{Ordering}
use Rattle.std.specs.declared.cmp.Ordering.TheVariants.{Less, Equal, Greater}
use Rattle.tw_world.specs.Folder.{Files, bytes_cmp, same_bytes, add_name}
use Rattle.timew_month.specs.declared.months.MonthFile.{MonthFile}
use Rattle.timew_month.specs.Body.{FileChange, AreMonths}
use Rattle.timew_interval.specs.MonthName.{is_month_name}
use Rattle.timew_month.specs.Gathered.{NamedBytes, files_of, months_in}
use Rattle.timew_month.specs.Files.{bytes_of, with_new, replaced}
use Rattle.timew_month.specs.NamedFiles.{names_in, are_named, with_file, with_changes}
use Rattle.timew_month.specs.Rows.{month_names}
use Rattle.timew_month.proofs.ChangedFiles.{month_names_rise}
use Rattle.timew_interval.proofs.SameBytes.{bytes_exact, same_bytes_back, same_bytes_itself}
use Rattle.timew_month.proofs.ReplacedFiles.{get-put}
use Rattle.timew_month.proofs.GroupedMonths.{Rise}
use Rattle.timew_month.proofs.MonthsAfter.{named_with, kept_good, named_by_names, good_all, names_with_good}
use Rattle.timew_month.proofs.RisingMonths.{IsBelow, below_lower, month_names_put}

-- ---- the files of a folder with one more

module _ (name bytes : List ℕ) (old new : List ℕ → List ℕ) (is : (q : List ℕ) → new q ≡ cond (same_bytes q name) bytes (old q)) where
  there : new name ≡ bytes
  there = is name ∙ ap (λ b. cond b bytes (old name)) (same_bytes_itself name)

  elsewhere : (q : List ℕ) (o : Ordering) → bytes_cmp name q ≡ o → is_eq o ≡ false → new q ≡ old q
  elsewhere q o cmp apart = is q ∙ ap (λ b. cond b bytes (old q)) (same_bytes_back q name ∙ texts_ties name q ∙ ap is_eq cmp ∙ apart)

  others : (names : List (List ℕ)) → IsBelow name names → named_with new names ≡ named_with old names
  others [] below = refl
  others (n ∷ names) below =
      ap (λ (b : List ℕ). let f : NamedBytes = (n, b) in f ∷ named_with new names) (elsewhere n Less below.0 refl)
      ∙ ap (λ (l : List NamedBytes). let f : NamedBytes = (n, old n) in f ∷ l) (others names below.1)

  put_pairs : (names : List (List ℕ)) → Rise names → named_with new (add_name name names) ≡ with_file (name, bytes) (named_with old names)
  put_pairs [] rise = ap (λ (b : List ℕ). let f : NamedBytes = (name, b) in f ∷ []) there
  put_pairs (n ∷ names) rise = by_case (bytes_cmp name n) refl (put_pairs names rise.1)
    where
      by_case : (o : Ordering) → bytes_cmp name n ≡ o → named_with new (add_name name names) ≡ with_file (name, bytes) (named_with old names)
          → named_with new (by_order o (name ∷ n ∷ names) (n ∷ names) (n ∷ add_name name names))
          ≡ by_order o ((name, bytes) ∷ (n, old n) ∷ named_with old names) ((name, bytes) ∷ named_with old names) ((n, old n) ∷ with_file (name, bytes) (named_with old names))
      by_case Less cmp more =
          ap (λ (b : List ℕ). let f : NamedBytes = (name, b) in f ∷ named_with new (n ∷ names)) there
          ∙ ap (λ (l : List NamedBytes). let f : NamedBytes = (name, bytes) in f ∷ l) (others (n ∷ names) (cmp, below_lower name n names cmp rise.0))
      by_case Equal cmp more =
          let same : name ≡ n = bytes_exact name n cmp in
          ap (λ (m : List ℕ). let f : NamedBytes = (m, new m) in f ∷ named_with new names) (sym same)
          ∙ ap (λ (b : List ℕ). let f : NamedBytes = (name, b) in f ∷ named_with new names) there
          ∙ ap (λ (l : List NamedBytes). let f : NamedBytes = (name, bytes) in f ∷ l) (others names (subst (λ (m : List ℕ). IsBelow m names) (sym same) rise.0))
      by_case Greater cmp more =
          ap (λ (b : List ℕ). let f : NamedBytes = (n, b) in f ∷ named_with new (add_name name names)) (elsewhere n Greater cmp refl)
          ∙ ap (λ (l : List NamedBytes). let f : NamedBytes = (n, old n) in f ∷ l) more

put_bytes : (files : Files) (name bytes q : List ℕ) → bytes_of (insert files name bytes) q ≡ cond (same_bytes q name) bytes (bytes_of files q)
put_bytes files name bytes q = ap (λ (o : Option (List ℕ)). unwrap_or o []) (get-put files name bytes q) ∙ by_case (same_bytes q name)
  where
    by_case : (b : Bool) → unwrap_or (cond b (Some bytes) (get files q)) [] ≡ cond b bytes (bytes_of files q)
    by_case true = refl
    by_case false = refl

months_put : (files : Files) (name bytes : List ℕ) → is_month_name name ≡ true → months_in (insert files name bytes) ≡ with_file (name, bytes) (months_in files)
months_put files name bytes good =
    ap (named_with (bytes_of (insert files name bytes))) (month_names_put files name bytes good)
    ∙ put_pairs name bytes (bytes_of files) (bytes_of (insert files name bytes)) (put_bytes files name bytes) (month_names files) (month_names_rise files)

-- the files in memory are those of the folder after a change
pub months_changed : (changes : List FileChange) (files : Files) → AreMonths changes → with_changes (months_in files) changes ≡ months_in (replaced files changes)
months_changed [] files are = refl
months_changed (f ∷ changes) files are =
    ap (λ (k : List NamedBytes). with_changes k changes) (sym (months_put files f.name f.new are.0)) ∙ months_changed changes (with_new files f) are.1

-- ---- names of months

names_put : (f : NamedBytes) (files : List NamedBytes) → names_in (with_file f files) ≡ add_name f.0 (names_in files)
names_put f [] = refl
names_put f (g ∷ files) = by_case (bytes_cmp f.0 g.0) refl (names_put f files)
  where
    by_case : (o : Ordering) → bytes_cmp f.0 g.0 ≡ o → names_in (with_file f files) ≡ add_name f.0 (names_in files)
        → names_in (by_order o (f ∷ g ∷ files) (f ∷ files) (g ∷ with_file f files)) ≡ by_order o (f.0 ∷ g.0 ∷ names_in files) (g.0 ∷ names_in files) (g.0 ∷ add_name f.0 (names_in files))
    by_case Less cmp more = refl
    by_case Equal cmp more = ap (λ (n : List ℕ). n ∷ names_in files) (bytes_exact f.0 g.0 cmp)
    by_case Greater cmp more = ap (λ (l : List (List ℕ)). g.0 ∷ l) more

names_changed : (changes : List FileChange) (files : List NamedBytes) → names_in (with_changes files changes) ≡ fold (λ had f. add_name f.name had) (names_in files) changes
names_changed [] files = refl
names_changed (f ∷ changes) files = names_changed changes (with_file (f.name, f.new) files) ∙ ap (λ (l : List (List ℕ)). fold (λ had g. add_name g.name had) l changes) (names_put (f.name, f.new) files)

-- they have names of months
pub still_months : (files kept : List MonthFile) (changes : List FileChange) → files_of files ≡ with_changes (files_of kept) changes → are_named kept ≡ true → AreMonths changes → are_named files ≡ true
still_months files kept changes is named are =
    named_by_names files
    ∙ ap (λ (l : List NamedBytes). list_all is_month_name (names_in l)) is
    ∙ ap (list_all is_month_name) (names_changed changes (files_of kept))
    ∙ good_all (fold (λ had f. add_name f.name had) (names_in (files_of kept)) changes) (names_with_good changes (names_in (files_of kept)) are (kept_good kept named))
