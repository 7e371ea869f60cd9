use Rattle.std.proofs.Common.{◌≡◌, ◌<◌, length, get_or, take, sym, ap, subst, ◌∙◌}
use Rattle.std.specs.FinMap as map
use Rattle.tw_model.specs.Ops.{TasksValue}
use Rattle.tw_changes.specs.Marks.{mark_all, AreHeld}
use Rattle.tw_changes.proofs.MarkedTasks.{none_held, one_more_mark}
use Rattle.tw_changes.proofs.marks.mark_all.Goals as goal

pub loop-mark-init : goal.loop-mark-init
loop-mark-init c = subst (AreHeld c.args.tasks.now map.empty) (sym c.new-held.ensures.empty) (none_held c.args.tasks.now)

pub loop-mark-preserved : goal.loop-mark-preserved
loop-mark-preserved c =
    let tasks = c.args.tasks.now in
    let marks = c.args.marks.now.items in
    let i = c.loop-mark.mark-index in
    let mark = c.mark-item.result in
    let same = c.deref-mark-items.ensures.value in
    let within : i < length marks = subst (λ xs. i < length xs) same c.loop-mark-test.true in
    let is : mark ≡ get_or marks i mark = c.mark-item.is ∙ ap (λ xs. get_or xs i mark) same in
    subst (λ (m : TasksValue). AreHeld tasks m c.mark_one.new.held.entries) (sym (one_more_mark tasks marks i mark within is))
    (c.in_ok-mark_one.ensures (mark_all tasks map.empty (take i marks)) c.loop-mark.invariant)
