use Rattle.std.proofs.Common.{◌≡◌, ◌-◌, List, ℕ, subst, arith}
use Rattle.timew_interval.specs.Edit.{spliced}
use Rattle.timew_cmd.specs.Labels.{each_of, with_label}
use Rattle.timew_cmd.proofs.Window.{each_edit}
use Rattle.timew_cmd.proofs.labels.label_each.Goals as goal

pub returns-clause-labelled : goal.returns-clause-labelled
returns-clause-labelled c =
    let rows = c.args.rows.now in
    let out = c.in_ok-out.out.items in
    let at = c.window-at.result.0 in
    let end = c.window-at.result.1 in
    subst (λ (l : List ℕ). spliced at (end - at) out rows ≡ each_of l (with_label c.args.label) rows) c.in_ok-chosen.ensures
    (each_edit c.in_ok-chosen.chosen.given.now (with_label c.args.label) rows out at end c.window-at.ensures c.in_ok-out.ensures)

pub returns-clause-inside : goal.returns-clause-inside
returns-clause-inside c = omega (arith, c.window-at.ensures.order, c.window-at.ensures.inside)
