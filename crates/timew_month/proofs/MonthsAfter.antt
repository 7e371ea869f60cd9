-- The month files after a change.
use Rattle.std.specs.Prelude.{cond, unwrap_or, fold}
use Rattle.std.proofs.Common.{◌≡◌, ℕ, Bool, true, false, ◌&&◌, List, [], ◌∷◌, ◌++◌, map, Option, Some, refl, sym, ap, ◌∙◌}
use Rattle.std.specs.List.{list_all}
use Rattle.std.specs.FinMap.{get, keys}
use Rattle.tw_world.specs.Folder.{Files, same_bytes, add_name}
use Rattle.timew_month.specs.declared.months.MonthFile.{MonthFile}
use Rattle.timew_month.specs.Body.{FileChange, AreMonths}
use Rattle.timew_interval.specs.MonthName.{is_month_name}
use Rattle.timew_month.specs.Gathered.{NamedBytes, files_of, months_in}
use Rattle.timew_month.specs.Files.{bytes_of, with_new, replaced}
use Rattle.timew_month.specs.NamedFiles.{bytes_in, names_in, are_named, bytes_after, names_after, files_after}
use Rattle.timew_month.specs.Rows.{month_names}
use Rattle.timew_month.proofs.ChangesByName.{AreMonthNames, months_good, bytes_kept, names_kept, added_good}
use Rattle.timew_month.proofs.ReplacedFiles.{get-new}
use Rattle.timew_month.proofs.RisingMonths.{month_names_put}

-- ---- bytes and names

put_bytes : (files : Files) (f : FileChange) (q : List ℕ) → bytes_of (with_new files f) q ≡ cond (same_bytes q f.name) f.new (bytes_of files q)
put_bytes files f q = ap (λ (o : Option (List ℕ)). unwrap_or o []) (get-new files f q) ∙ by_case (same_bytes q f.name)
  where
    by_case : (b : Bool) → unwrap_or (cond b (Some f.new) (get files q)) [] ≡ cond b f.new (bytes_of files q)
    by_case true = refl
    by_case false = refl

replaced_bytes : (changes : List FileChange) (files : Files) (q : List ℕ) → bytes_of (replaced files changes) q ≡ bytes_after changes q (bytes_of files q)
replaced_bytes [] files q = refl
replaced_bytes (f ∷ changes) files q = replaced_bytes changes (with_new files f) q ∙ ap (bytes_after changes q) (put_bytes files f q)

replaced_names : (changes : List FileChange) (files : Files) → AreMonths changes → month_names (replaced files changes) ≡ fold (λ had f. add_name f.name had) (month_names files) changes
replaced_names [] files are = refl
replaced_names (f ∷ changes) files are =
    replaced_names changes (with_new files f) are.1
    ∙ ap (λ (names : List (List ℕ)). fold (λ had g. add_name g.name had) names changes) (month_names_put files f.name f.new are.0)

-- ---- files

abbrev pub named_with : (List ℕ → List ℕ) → List (List ℕ) → List NamedBytes
named_with bytes names = map (λ name. (name, bytes name)) names

each_file : (files : Files) (changes : List FileChange) (names : List (List ℕ)) → AreMonthNames names
    → named_with (λ name. bytes_after changes name (bytes_in (months_in files) name)) names ≡ named_with (λ name. bytes_of (replaced files changes) name) names
each_file files changes [] good = refl
each_file files changes (n ∷ names) good =
    let same : bytes_after changes n (bytes_in (months_in files) n) ≡ bytes_of (replaced files changes) n = ap (bytes_after changes n) (bytes_kept files n good.0) ∙ sym (replaced_bytes changes files n) in
    ap (λ (b : List ℕ). let f : NamedBytes = (n, b) in f ∷ named_with (λ name. bytes_after changes name (bytes_in (months_in files) name)) names) same
    ∙ ap (λ (l : List NamedBytes). let f : NamedBytes = (n, bytes_of (replaced files changes) n) in f ∷ l) (each_file files changes names good.1)

-- the files in memory are then those of the folder
pub months_after : (files : Files) (kept : List NamedBytes) (changes : List FileChange) → kept ≡ months_in files → AreMonths changes → files_after kept changes ≡ months_in (replaced files changes)
months_after files kept changes is are =
    ap (λ (k : List NamedBytes). files_after k changes) is
    ∙ ap (named_with (λ name. bytes_after changes name (bytes_in (months_in files) name)))
    (ap (λ (names : List (List ℕ)). fold (λ had f. add_name f.name had) names changes) (names_kept files (month_names files)) ∙ sym (replaced_names changes files are))
    ∙ each_file files changes (month_names (replaced files changes)) (months_good (keys (replaced files changes)))

-- ---- names of months

and_both : (a b : Bool) → (a && b) ≡ true → (a ≡ true) × (b ≡ true)
and_both true b is = (refl, is)
and_both false b is = absurd (cc)

all_good : (names : List (List ℕ)) → list_all is_month_name names ≡ true → AreMonthNames names
all_good [] is = tt
all_good (n ∷ names) is = let parts = and_both (is_month_name n) (list_all is_month_name names) is in (parts.0, all_good names parts.1)

pub good_all : (names : List (List ℕ)) → AreMonthNames names → list_all is_month_name names ≡ true
good_all [] good = refl
good_all (n ∷ names) good = ap (λ (b : Bool). b && list_all is_month_name names) good.0 ∙ good_all names good.1

pub named_by_names : (files : List MonthFile) → are_named files ≡ list_all is_month_name (names_in (files_of files))
named_by_names [] = refl
named_by_names (f ∷ files) = ap (λ (b : Bool). is_month_name f.name && b) (named_by_names files)

pub names_with_good : (changes : List FileChange) (names : List (List ℕ)) → AreMonths changes → AreMonthNames names → AreMonthNames (fold (λ had f. add_name f.name had) names changes)
names_with_good [] names are good = good
names_with_good (f ∷ changes) names are good = names_with_good changes (add_name f.name names) are.1 (added_good f.name names are.0 good)

names_of_pairs : (g : List ℕ → List ℕ) (names : List (List ℕ)) → names_in (named_with g names) ≡ names
names_of_pairs g [] = refl
names_of_pairs g (n ∷ names) = ap (λ (l : List (List ℕ)). n ∷ l) (names_of_pairs g names)

pub kept_good : (kept : List MonthFile) → are_named kept ≡ true → AreMonthNames (names_in (files_of kept))
kept_good kept named = all_good (names_in (files_of kept)) (sym (named_by_names kept) ∙ named)

-- the files after a change have names of months
pub named_after : (files kept : List MonthFile) (changes : List FileChange) → files_of files ≡ files_after (files_of kept) changes → are_named kept ≡ true → AreMonths changes → are_named files ≡ true
named_after files kept changes is named are =
    named_by_names files
    ∙ ap (λ (l : List NamedBytes). list_all is_month_name (names_in l)) is
    ∙ ap (list_all is_month_name) (names_of_pairs (λ name. bytes_after changes name (bytes_in (files_of kept) name)) (names_after (files_of kept) changes))
    ∙ good_all (names_after (files_of kept) changes) (names_with_good changes (names_in (files_of kept)) are (kept_good kept named))

pub named_more : (files : List MonthFile) (file : MonthFile) → are_named files ≡ true → is_month_name file.name ≡ true → are_named (files ++ file ∷ []) ≡ true
named_more [] file named good = ap (λ (b : Bool). b && true) good
named_more (f ∷ files) file named good =
    let parts = and_both (is_month_name f.name) (are_named files) named in
    ap (λ (b : Bool). b && are_named (files ++ file ∷ [])) parts.0 ∙ named_more files file parts.1 good
