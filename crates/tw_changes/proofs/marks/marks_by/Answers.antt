use Rattle.std.proofs.Common.{◌≡◌, ◌∙◌, ◌++◌, ◌<◌, ◌≤◌, ap, refl, subst, get_or, length, List}
use Rattle.std.specs.FinMap.{get}
use Rattle.tw_model.specs.declared.changes.Change.{Change}
use Rattle.tw_changes.specs.Marks.{mark_by, marks_by}
use Rattle.tw_changes.proofs.Gathered.{one_gathered, all_gathered}
use Rattle.tw_changes.proofs.marks.marks_by.Goals as goal

pub loop-change-preserved : goal.loop-change-preserved
loop-change-preserved c =
    let i = c.loop-change.change-index in
    let change = c.change-item.result in
    let marks = c.loop-change.marks.items in
    let same = c.deref-change-items.ensures.value in
    one_gathered (marks_by c.args.sign c.args.tasks.now) (λ (x : Change). mark_by c.args.sign (get c.args.tasks.now x.uuid)) (λ x xs. refl)
    c.args.changes.now.items i change marks c.push_mark.new.marks.items (marks_by c.args.sign c.args.tasks.now c.args.changes.now.items)
    (subst (λ xs. i < length xs) same c.loop-change-test.true) (c.change-item.is ∙ ap (λ xs. get_or xs i change) same)
    (c.in_ok-push_mark.ensures ∙ ap (λ o. marks ++ mark_by c.args.sign o) c.get.ensures) c.loop-change.invariant

pub returns : goal.returns
returns c =
    all_gathered (marks_by c.args.sign c.args.tasks.now) (λ (x : Change). mark_by c.args.sign (get c.args.tasks.now x.uuid)) (λ x xs. refl) refl
    c.args.changes.now.items c.loop-change.change-index c.loop-change.marks.items (marks_by c.args.sign c.args.tasks.now c.args.changes.now.items)
    (subst (λ xs. length xs ≤ c.loop-change.change-index) c.deref-change-items.ensures.value c.loop-change-test.false) c.loop-change.invariant
