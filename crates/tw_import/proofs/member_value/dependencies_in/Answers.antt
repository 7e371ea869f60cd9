use Rattle.std.proofs.Common.{◌≡◌, ◌∷◌, [], ◌++◌, map, refl, sym, ap, ◌∙◌, lit<, List, ℕ, Bor}
use Rattle.std.specs.Str.Iter.{split_text, split_has_more, split_pattern}
use Rattle.std.proofs.lemmas.Iterator.Consumers.{YieldsList-end}
use Rattle.std.proofs.lemmas.Iterator.Splits.{YieldsList-from_str_split}
use Rattle.tw_import.specs.Meanings.{dependencies_of}
use Rattle.tw_import.specs.Reading.{item_behind}
use Rattle.tw_import.proofs.Items.{dependencies_of_more}
use Rattle.tw_import.proofs.member_value.dependencies_in.Goals as goal

map_more : (xs : List (Bor (List ℕ))) (x : Bor (List ℕ)) → map (λ p. p.now) (xs ++ x ∷ []) ≡ map (λ p. p.now) xs ++ x.now ∷ []
map_more [] x = refl
map_more (y ∷ ys) x = ap (λ r. y.now ∷ r) (map_more ys x)

pub loop-part-preserved : goal.loop-part-preserved
loop-part-preserved c =
    c.in_ok-found.ensures
    ∙ (λ n. item_behind (c.loop-part.invariant n) (c.dependency_of.ensures n))
    ∙ sym (dependencies_of_more (map (λ p. p.now) c.loop-part.yielded) c.in-Some.part.now)
    ∙ ap dependencies_of (sym (map_more c.loop-part.yielded c.in-Some.part))

pub returns : goal.returns
returns c =
    let begun : c.into_iter-part-iterator.result ≡ c.split-part-items.result = c.into_iter-part-iterator.ensures.into_iter_gives in
    let parts = YieldsList-from_str_split {s = c.into_iter-part-iterator.result} 44 c.args.text.now (lit< tt) (ap split_text begun ∙ c.split-part-items.ensures.text) (ap split_has_more begun ∙ c.split-part-items.ensures.has_more) (ap split_pattern begun ∙ c.split-part-items.ensures.pattern) in
    let t = YieldsList-end parts c.loop-part.yielded _ c.loop-part.yielded_by _ _ c.in-None.is c.next.ensures.steps in
    c.loop-part.invariant ∙ ap dependencies_of t.0
