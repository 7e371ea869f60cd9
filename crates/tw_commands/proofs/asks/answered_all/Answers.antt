use Rattle.std.proofs.Common.{◌≡◌, ◌∙◌, ◌++◌, List, [], ap, sym}
use Rattle.std.proofs.lemmas.List.{append-nil, nil_from_length}
use Rattle.std.specs.Vec.Iter.{into_iter_items}
use Rattle.tw_model.specs.declared.changes.Change.{Change}
use Rattle.tw_commands.specs.Asks.{answered_all}
use Rattle.tw_commands.proofs.AnsweredPlans.{answered_none}
use Rattle.tw_commands.proofs.asks.answered_all.Goals as goal

pub returns : goal.returns
returns c =
    let made : List Change = c.loop-change.made.items in
    let so_far = c.loop-change.invariant in
    let ends : into_iter_items c.loop-change.change-iterator ≡ [] = nil_from_length (into_iter_items c.loop-change.change-iterator) (sym so_far.len ∙ c.in-None.ensures.steps.0) in
    let none : answered_all c.loop-change.left.now c.args.tasks.now (into_iter_items c.loop-change.change-iterator) ≡ [] =
    ap (λ (l : List Change). answered_all c.loop-change.left.now c.args.tasks.now l) ends ∙ answered_none c.loop-change.left.now c.args.tasks.now in
    sym (append-nil made) ∙ ap (λ (l : List Change). made ++ l) (sym none) ∙ so_far.all
