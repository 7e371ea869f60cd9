-- A month file that is put among others.
use Rattle.std.specs.Prelude.{slice_set, slice_index_or}
use Rattle.std.proofs.Common.{◌≡◌, ℕ, zero, suc, ◌+◌, ◌<◌, ◌≤◌, List, [], ◌∷◌, ◌++◌, map, length, get_or, refl, sym, ap, ◌∙◌, inl, inr, arith}
use Rattle.std.specs.List.{insert as insert_at}
use Rattle.std.specs.FinMap.Entries.{by_order}
use Rattle.std.specs.declared.cmp.Ordering.{Ordering}
use Rattle.std.specs.declared.cmp.Ordering.TheVariants.{Less, Equal, Greater}
use Rattle.std.proofs.lemmas.Bool.{cases_eq}
use Rattle.std.proofs.lemmas.List.{get_or_read}
use Rattle.tw_world.specs.Folder.{bytes_cmp}
use Rattle.timew_month.specs.declared.months.MonthFile.{MonthFile}
use Rattle.timew_month.specs.Gathered.{NamedBytes, file_of, files_of}
use Rattle.timew_month.specs.NamedFiles.{with_file, with_changes, IsPlaceOf}
use Rattle.timew_month.specs.Records.{changes_of}
use Rattle.timew_month.specs.declared.months.NewFile.{NewFile}

-- ---- the place of a name

-- the name is after those of the files before an index
abbrev pub ComesAfter : List ℕ → List MonthFile → ℕ → Type 0
ComesAfter k items i = (j : ℕ) (d : MonthFile) → j < i → bytes_cmp k (slice_index_or items j d).name ≡ Greater

rest_after : (k : List ℕ) (x : MonthFile) (items : List MonthFile) (i : ℕ) → ComesAfter k (x ∷ items) (suc i) → ComesAfter k items i
rest_after k x items i after j d lt = after (suc j) d (omega arith)

pub after_more : (k : List ℕ) (items : List MonthFile) (i : ℕ) → ComesAfter k items i → ((d : MonthFile) → bytes_cmp k (slice_index_or items i d).name ≡ Greater) → ComesAfter k items (i + 1)
after_more k items i after here j d lt = elim (cases_eq j i) [ inl same ↦ ap (λ n. bytes_cmp k (slice_index_or items n d).name) same ∙ here d | inr other ↦ after j d (omega arith) ]

-- the comparison with the file at an index
pub compared_file : (items : List MonthFile) (i : ℕ) (s : MonthFile) (k : List ℕ) (o : Ordering) → i < length items → s ≡ get_or items i s → o ≡ bytes_cmp k s.name → (d : MonthFile) → bytes_cmp k (slice_index_or items i d).name ≡ o
compared_file items i s k o lt is cmp d = ap (λ (f : MonthFile). bytes_cmp k f.name) (sym (get_or_read items i s lt is d)) ∙ sym cmp

-- what stays in front of it
kept_front : (k : List ℕ) (x file : MonthFile) (items : List MonthFile) → bytes_cmp k x.name ≡ Greater → file.name ≡ k → with_file (file_of file) (files_of (x ∷ items)) ≡ file_of x ∷ with_file (file_of file) (files_of items)
kept_front k x file items more same = ap (λ o. by_order o (file_of file ∷ file_of x ∷ files_of items) (file_of file ∷ files_of items) (file_of x ∷ with_file (file_of file) (files_of items))) (ap (λ n. bytes_cmp n x.name) same ∙ more)

pub put_before : (k : List ℕ) (items : List MonthFile) (i : ℕ) → ComesAfter k items i → i ≤ length items → (i < length items → (d : MonthFile) → bytes_cmp k (slice_index_or items i d).name ≡ Less) → IsPlaceOf k items (λ file. insert_at items i file)
put_before k [] zero after le less file same = refl
put_before k [] (suc i) after le less file same = absurd (omega arith)
put_before k (x ∷ items) zero after le less file same =
    sym (ap (λ o. by_order o (file_of file ∷ file_of x ∷ files_of items) (file_of file ∷ files_of items) (file_of x ∷ with_file (file_of file) (files_of items))) (ap (λ n. bytes_cmp n x.name) same ∙ less (omega arith) x))
put_before k (x ∷ items) (suc i) after le less file same =
    ap (λ (l : List NamedBytes). file_of x ∷ l) (put_before k items i (rest_after k x items i after) (omega arith) (λ lt d. less (omega arith) d) file same) ∙ sym (kept_front k x file items (after 0 x (omega arith)) same)

pub put_instead : (k : List ℕ) (items : List MonthFile) (i : ℕ) → ComesAfter k items i → i < length items → ((d : MonthFile) → bytes_cmp k (slice_index_or items i d).name ≡ Equal) → IsPlaceOf k items (λ file. slice_set items i file)
put_instead k [] i after lt equal file same = absurd (omega arith)
put_instead k (x ∷ items) zero after lt equal file same =
    sym (ap (λ o. by_order o (file_of file ∷ file_of x ∷ files_of items) (file_of file ∷ files_of items) (file_of x ∷ with_file (file_of file) (files_of items))) (ap (λ n. bytes_cmp n x.name) same ∙ equal x))
put_instead k (x ∷ items) (suc i) after lt equal file same =
    ap (λ (l : List NamedBytes). file_of x ∷ l) (put_instead k items i (rest_after k x items i after) (omega arith) equal file same) ∙ sym (kept_front k x file items (after 0 x (omega arith)) same)

-- ---- from change to change

pub put_next : (files : List MonthFile) (yielded : List NewFile) (change : NewFile) (next : List MonthFile) → files_of next ≡ with_changes (files_of files) (changes_of yielded)
    → with_file (change.name, change.new.items) (files_of next) ≡ with_changes (files_of files) (changes_of (yielded ++ change ∷ []))
put_next files yielded change next so_far = ap (with_file (change.name, change.new.items)) so_far ∙ sym (more (files_of files) yielded)
  where
    more : (had : List NamedBytes) (yielded : List NewFile) → with_changes had (changes_of (yielded ++ change ∷ [])) ≡ with_file (change.name, change.new.items) (with_changes had (changes_of yielded))
    more had [] = refl
    more had (f ∷ yielded) = more (with_file (f.name, f.new.items) had) yielded

map_itself : (xs : List NewFile) → map (λ x. x) xs ≡ xs
map_itself [] = refl
map_itself (x ∷ xs) = ap (λ (l : List NewFile). x ∷ l) (map_itself xs)

pub no_more : (files : List MonthFile) (yielded changes : List NewFile) (next : List MonthFile) → map (λ x. x) yielded ≡ changes → files_of next ≡ with_changes (files_of files) (changes_of yielded)
    → files_of next ≡ with_changes (files_of files) (changes_of changes)
no_more files yielded changes next all so_far = so_far ∙ ap (λ (l : List NewFile). with_changes (files_of files) (changes_of l)) (sym (map_itself yielded) ∙ all)
