use Rattle.std.proofs.Common.{◌≡◌, List, Ok, subst}
use Rattle.timew_interval.specs.declared.interval.Interval.{Interval}
use Rattle.timew_month.specs.Month.{month_rows, with_rows}
use Rattle.timew_month.proofs.LinesOfFile.{read_alone}
use Rattle.timew_month.proofs.read.month.read_month.Goals as goal

pub returns-in-Ok-clause-ok : goal.returns-in-Ok-clause-ok
returns-in-Ok-clause-ok c =
    read_alone (month_rows c.args.bytes.now) c.in-Ok.field-0.rows.items
    (subst (λ (before : List Interval). with_rows before (month_rows c.args.bytes.now) ≡ Ok c.in-Ok.field-0.rows.items) c.in_ok-before.ensures c.in-Ok.ensures.ok)
