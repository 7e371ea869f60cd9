use Rattle.std.proofs.Common.{◌≡◌, ◌-◌, List, ℕ, subst, arith}
use Rattle.timew_interval.specs.Edit.{spliced}
use Rattle.timew_cmd.specs.Numbers.{numbered, without, rows_in}
use Rattle.timew_cmd.proofs.Window.{others_edit}
use Rattle.timew_cmd.proofs.numbers.left_out.Goals as goal

pub returns-clause-others : goal.returns-clause-others
returns-clause-others c =
    let rows = c.args.rows.now in
    let out = c.in_ok-others.others.items in
    let at = c.window-at.result.0 in
    let end = c.window-at.result.1 in
    subst (λ (l : List ℕ). spliced at (end - at) out rows ≡ rows_in (without l (numbered rows))) c.in_ok-chosen.ensures
    (others_edit c.in_ok-chosen.chosen.given.now rows out at end c.window-at.ensures c.in_ok-others.ensures)

pub returns-clause-inside : goal.returns-clause-inside
returns-clause-inside c = omega (arith, c.window-at.ensures.order, c.window-at.ensures.inside)
