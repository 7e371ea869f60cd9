use Rattle.std.proofs.Common.{◌≡◌, ℕ, ◌+◌, ◌<◌, List, ◌∷◌, length, drop, fold, get_or, sym, ap, ◌∙◌, arith}
use Rattle.std.proofs.lemmas.List.{drop_more}
use Rattle.tw_world.specs.Folder.{add_name as add_tag}
use Rattle.timew_interval.proofs.interval.tags.with_all.Goals as goal

abbrev with_tags : List (List ℕ) → List (List ℕ) → List (List ℕ)
with_tags tags others = fold (λ had tag. add_tag tag had) tags others

one_more : (others : List (List ℕ)) (i : ℕ) (other tag : List ℕ) (tags new total : List (List ℕ)) → i < length others → other ≡ get_or others i other → tag ≡ other → new ≡ add_tag tag tags
    → with_tags tags (drop i others) ≡ total → with_tags new (drop (i + 1) others) ≡ total
one_more others i other tag tags new total lt is same more so_far =
    ap (λ (l : List (List ℕ)). with_tags l (drop (i + 1) others)) (more ∙ ap (λ (t : List ℕ). add_tag t tags) same)
    ∙ ap (with_tags tags) (ap (λ (t : List ℕ). t ∷ drop (i + 1) others) is ∙ sym (drop_more others i other lt))
    ∙ so_far

pub loop-tag-preserved : goal.loop-tag-preserved
loop-tag-preserved c =
    let others = c.args.others.now.items in
    let i = c.loop-tag.tag-index in
    let other = c.tag-item.result in
    let here : other ≡ get_or others i other = c.tag-item.is ∙ ap (λ (l : List (List ℕ)). get_or l i other) c.deref-tag-items.ensures.value in
    one_more others i other c.as_str.result.now c.loop-tag.tags.items _ _ (omega arith) here c.as_str.ensures c.in_ok-add_tag.ensures c.loop-tag.invariant
