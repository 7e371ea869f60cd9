use Rattle.std.proofs.Common.{◌≡◌, subst, List, IfOk}
use Rattle.tw_model.specs.declared.Change.{Change}
use Rattle.tw_changes.proofs.MarkedTasks.{all_changes}
use Rattle.tw_changes.proofs.marks.mask_changes.Goals as goal

pub returns : goal.returns
returns c =
    subst (λ (l : List Change). IfOk c.changes_of.result (λ changes. changes.items ≡ l))
    (all_changes c.args.tasks.now c.args.now c.args.marks.now.items c.in_ok-held.held.entries c.in_ok-held.ensures) c.changes_of.ensures
