-- The texts of a task are tags.
use Rattle.std.specs.BTreeSet.{insert_key}
use Rattle.std.specs.Ordering.{match_ordering, nat_cmp}
use Rattle.std.specs.Cmp.Lexicographic.{slice_cmp}
use Rattle.std.proofs.lemmas.Bool.Decides.{nat_tests}
use Rattle.std.proofs.Common.{◌≡◌, arith, ℕ, suc, ◌==◌, List, [], ◌∷◌, true, false, length, Option, Some, None, refl, ap, ◌∙◌}
use Rattle.std.specs.FinMap.{entries}
use Rattle.std.specs.List.{list_all}
use Rattle.std.specs.declared.cmp.Ordering.{Ordering}
use Rattle.std.specs.declared.cmp.Ordering.TheVariants.{Less, Equal, Greater}
use Rattle.std.specs.FinMap.Entries.{by_order}
use Rattle.tw_world.specs.Folder.{bytes_cmp}
use Rattle.tw_world.specs.Folder.{add_name as add_tag}
use Rattle.tw_text.specs.Columns.{cell_text}
use Rattle.tw_model.specs.Ops.{TaskValue}
use Rattle.timew_interval.specs.Interval.{is_tag, tags_rise}
use Rattle.timew_interval.proofs.InOrder.{tags_added}
use Rattle.timew_bridge.specs.Label.{unless_empty, with_text, with_texts, text_of, label_of}
use Rattle.timew_bridge.proofs.Printable.{cell_tag}

abbrev pub AreTags : List (List ℕ) → Type 0
AreTags tags = (list_all is_tag tags ≡ true) × (tags_rise tags ≡ true)

by_both : (o : Ordering) (A B C : List (List ℕ)) → match_ordering o A B C ≡ by_order o A B C
by_both Less A B C = refl
by_both Equal A B C = refl
by_both Greater A B C = refl

pub insert_is_add : (tags : List (List ℕ)) (tag : List ℕ) → insert_key (slice_cmp nat_cmp) tags tag ≡ add_tag tag tags
insert_is_add [] tag = refl
insert_is_add (x ∷ xs) tag =
    by_both (bytes_cmp tag x) (tag ∷ x ∷ xs) (x ∷ xs) (x ∷ insert_key (slice_cmp nat_cmp) xs tag)
    ∙ ap (λ (l : List (List ℕ)). by_order (bytes_cmp tag x) (tag ∷ x ∷ xs) (x ∷ xs) (x ∷ l)) (insert_is_add xs tag)

more_than_none : (n : ℕ) → (suc n == 0) ≡ false
more_than_none n = grind (arith, nat_tests)

-- a text that is empty, and one that is not
pub empty_left_out : (text cell : List ℕ) (tags : List (List ℕ)) → cell ≡ cell_text text → (length cell == 0) ≡ true → tags ≡ with_text (Some text) tags
empty_left_out text [] tags is none = ap (λ t. unless_empty t tags) is
empty_left_out text (b ∷ cell) tags is none = absurd (let e : (suc (length cell) == 0) ≡ false = more_than_none (length cell) in cc)

pub some_put : (text cell : List ℕ) (new old : List (List ℕ)) → cell ≡ cell_text text → (length cell == 0) ≡ false → new ≡ insert_key (slice_cmp nat_cmp) old cell → new ≡ with_text (Some text) old
some_put text [] new old is some put = absurd (cc)
some_put text (b ∷ cell) new old is some put = put ∙ insert_is_add old (b ∷ cell) ∙ ap (λ t. unless_empty t old) is

-- one property more
pub texts_more : (es : List (List ℕ × List ℕ)) (e : List ℕ × List ℕ) (old new : List (List ℕ)) (whole : List (List ℕ)) → new ≡ with_text (text_of e) old → with_texts old (e ∷ es) ≡ whole → with_texts new es ≡ whole
texts_more es e old new whole is before = ap (λ t. with_texts t es) is ∙ before

-- ---- they are tags

text_good : (cell text : List ℕ) (tags : List (List ℕ)) → cell ≡ cell_text text → AreTags tags → AreTags (unless_empty cell tags)
text_good [] text tags is are = are
text_good (b ∷ cell) text tags is are = tags_added (b ∷ cell) tags (cell_tag (b ∷ cell) text is (more_than_none (length cell))) are

one_good : (o : Option (List ℕ)) (tags : List (List ℕ)) → AreTags tags → AreTags (with_text o tags)
one_good None tags are = are
one_good (Some text) tags are = text_good (cell_text text) text tags refl are

all_good : (es : List (List ℕ × List ℕ)) (tags : List (List ℕ)) → AreTags tags → AreTags (with_texts tags es)
all_good [] tags are = are
all_good (e ∷ es) tags are = all_good es (with_text (text_of e) tags) (one_good (text_of e) tags are)

pub label_good : (task : Option TaskValue) → AreTags (label_of task)
label_good None = (refl, refl)
label_good (Some task) = all_good (entries task) [] (refl, refl)
