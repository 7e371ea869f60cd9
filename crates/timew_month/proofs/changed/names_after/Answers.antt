use Rattle.std.proofs.Common.{◌≡◌, ℕ, ◌+◌, ◌<◌, List, ◌∷◌, length, drop, fold, get_or, sym, ap, ◌∙◌, arith}
use Rattle.std.proofs.lemmas.List.{drop_more}
use Rattle.tw_world.specs.Folder.{add_name}
use Rattle.timew_month.specs.declared.months.NewFile.{NewFile}
use Rattle.timew_month.specs.Records.{changes_of}
use Rattle.timew_month.proofs.changed.names_after.Goals as goal

abbrev with_changes : List (List ℕ) → List NewFile → List (List ℕ)
with_changes names changes = fold (λ had f. add_name f.name had) names (changes_of changes)

one_more : (changes : List NewFile) (i : ℕ) (change : NewFile) (tag : List ℕ) (names new total : List (List ℕ)) → i < length changes → change ≡ get_or changes i change → tag ≡ change.name → new ≡ add_name tag names
    → with_changes names (drop i changes) ≡ total → with_changes new (drop (i + 1) changes) ≡ total
one_more changes i change tag names new total lt is same more so_far =
    ap (λ (l : List (List ℕ)). with_changes l (drop (i + 1) changes)) (more ∙ ap (λ (n : List ℕ). add_name n names) same)
    ∙ ap (λ (l : List NewFile). with_changes names l) (ap (λ (f : NewFile). f ∷ drop (i + 1) changes) is ∙ sym (drop_more changes i change lt))
    ∙ so_far

pub loop-change-preserved : goal.loop-change-preserved
loop-change-preserved c =
    let changes = c.args.changes.now.items in
    let i = c.loop-change.change-index in
    let change = c.change-item.result in
    let here : change ≡ get_or changes i change = c.change-item.is ∙ ap (λ (l : List NewFile). get_or l i change) c.deref-change-items.ensures.value in
    one_more changes i change c.as_str.result.now c.loop-change.names.items _ _ (omega arith) here c.as_str.ensures c.in_ok-add_tag.ensures c.loop-change.invariant
