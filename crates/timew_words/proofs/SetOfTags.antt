-- The keys of an ordered set of tags.
use Rattle.std.specs.BTreeSet.{insert_key}
use Rattle.std.specs.Ordering.{match_ordering, nat_cmp}
use Rattle.std.specs.Cmp.Lexicographic.{slice_cmp}
use Rattle.std.proofs.Common.{◌≡◌, ℕ, List, [], ◌∷◌, true, refl, ap, sym, subst, ◌∙◌}
use Rattle.std.specs.declared.cmp.Ordering.{Ordering}
use Rattle.std.specs.declared.cmp.Ordering.TheVariants.{Less, Equal, Greater}
use Rattle.std.specs.FinMap.Entries.{by_order}
use Rattle.tw_world.specs.Folder.{bytes_cmp, add_name as add_tag}
use Rattle.timew_interval.specs.Interval.{is_tag}
use Rattle.timew_interval.proofs.InOrder.{tags_added}
use Rattle.timew_words.specs.Given.{AreTags}

by_both : (o : Ordering) (A B C : List (List ℕ)) → match_ordering o A B C ≡ by_order o A B C
by_both Less A B C = refl
by_both Equal A B C = refl
by_both Greater A B C = refl

pub insert_is_add : (tags : List (List ℕ)) (tag : List ℕ) → insert_key (slice_cmp nat_cmp) tags tag ≡ add_tag tag tags
insert_is_add [] tag = refl
insert_is_add (x ∷ xs) tag =
    by_both (bytes_cmp tag x) (tag ∷ x ∷ xs) (x ∷ xs) (x ∷ insert_key (slice_cmp nat_cmp) xs tag)
    ∙ ap (λ (l : List (List ℕ)). by_order (bytes_cmp tag x) (tag ∷ x ∷ xs) (x ∷ xs) (x ∷ l)) (insert_is_add xs tag)

pub one_tag_more : (old new : List (List ℕ)) (tag : List ℕ) → new ≡ insert_key (slice_cmp nat_cmp) old tag → is_tag tag ≡ true → AreTags old → AreTags new
one_tag_more old new tag is good are = subst AreTags (sym (is ∙ insert_is_add old tag)) (tags_added tag old good are)
