use Rattle.std.proofs.Common.{◌-◌, List, length, ap, ◌∙◌, arith}
use Rattle.timew_interval.specs.declared.interval.Interval.{Interval}
use Rattle.timew_interval.specs.Edit.{spliced}
use Rattle.timew_cmd.specs.Numbers.{IsWindow}
use Rattle.timew_cmd.proofs.Window.{placed_edit}
use Rattle.timew_cmd.proofs.placing.placed_edit.Goals as goal

pub returns-clause-placed : goal.returns-clause-placed
returns-clause-placed c =
    let rows = c.args.rows.now in
    let ids = c.args.ids.now.given.now in
    let at = c.count_before-at.result in
    let end = c.first_behind-end.result in
    let window : IsWindow ids (length rows) at end = record { order = c.first_behind-end.ensures.inside.0; inside = c.first_behind-end.ensures.inside.1; front = c.count_before-at.ensures.others; back = c.first_behind-end.ensures.others } in
    ap (λ (l : List Interval). spliced at (end - at) l rows) c.in_ok-out.ensures
    ∙ placed_edit c.args.new ids rows c.in_ok-others.others.items at end window c.count_before-at.ensures.before c.first_behind-end.ensures.behind c.in_ok-others.ensures

pub returns-clause-inside : goal.returns-clause-inside
returns-clause-inside c = omega (arith, c.first_behind-end.ensures.inside.0, c.first_behind-end.ensures.inside.1)
