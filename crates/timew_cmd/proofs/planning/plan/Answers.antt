use Rattle.std.specs.Prelude.{IfOk}
use Rattle.std.proofs.Common.{◌+◌, ◌≤◌, List, length, subst}
use Rattle.timew_interval.specs.declared.interval.Interval.{Interval}
use Rattle.timew_interval.specs.Edit.{edited}
use Rattle.timew_cmd.specs.Planned.{Answers, planned}
use Rattle.timew_cmd.proofs.PlannedRows.{planned_edit}
use Rattle.timew_cmd.proofs.planning.plan.Goals as goal

pub returns-clause-edit : goal.returns-clause-edit
returns-clause-edit c =
    let command = c.args.command.now in
    let rows = c.args.rows.now in
    let result = c.plan_rows.result in
    planned_edit command rows c.args.now result c.requires.command c.requires.now c.as_slice.ensures.are
    (subst (λ (l : List Interval). Answers (λ e. edited e l) result (planned command l c.args.now)) c.as_slice.ensures.value c.plan_rows.ensures.planned)
    (subst (λ (l : List Interval). IfOk result (λ e. e.at + e.count ≤ length l)) c.as_slice.ensures.value c.plan_rows.ensures.inside)
