use Rattle.std.proofs.Common.{◌++◌, ◌∷◌, [], ◌∙◌, ap, sym, filter, take, is_some, arith, List, ℕ, Bool}
use Rattle.std.proofs.lemmas.List.{take_more}
use Rattle.std.proofs.lemmas.List.Elements.{filter-append}
use Rattle.std.specs.FinMap.{keys}
use Rattle.tw_urgency.specs.Dependencies.{dependency_in}
use Rattle.tw_urgency.proofs.KeyLoops.{key_within, all_keys}
use Rattle.tw_words.proofs.changes.dependencies.dependencies.Goals as goal

abbrev is_one : List ℕ → Bool
is_one name = is_some (dependency_in name)

pub loop-n-preserved : goal.loop-n-preserved
loop-n-preserved c =
    let names = keys c.args.task.now in
    let n = c.loop-n.n in
    let key = c.key.result.now in
    c.in_ok-push_dependency.ensures
    ∙ ap (λ ns. ns ++ filter is_one (key ∷ [])) c.loop-n.invariant
    ∙ sym (filter-append is_one (take n names) (key ∷ []))
    ∙ ap (λ k. filter is_one (take n names ++ k ∷ [])) c.key.ensures
    ∙ ap (filter is_one) (sym (take_more names n [] (key_within c.args.task.now n (omega arith))))

pub returns : goal.returns
returns c = c.loop-n.invariant ∙ ap (filter is_one) (all_keys c.args.task.now c.loop-n.n (omega arith))
