use Rattle.std.proofs.Common.{sym, ap, subst, ◌∙◌}
use Rattle.timew_interval.specs.Interval.{AreRows}
use Rattle.timew_cmd.specs.Ranges.{total}
use Rattle.timew_report.proofs.Seconds.{drop_rows, behind_spent, time_total}
use Rattle.timew_report.proofs.hours.time_after.Goals as goal

pub time_before-requires-clause-rows : goal.time_before-requires-clause-rows
time_before-requires-clause-rows c = subst AreRows (sym c.split_at.ensures.back) (drop_rows c.args.spent c.args.rows.now c.requires.rows)

pub returns : goal.returns
returns c =
    c.time_before.ensures ∙ ap (total c.args.from c.args.to c.args.now) c.split_at.ensures.back
    ∙ behind_spent c.args.from c.args.to c.args.now c.args.spent c.args.rows.now c.requires.spent ∙ sym (time_total c.args.rows.now c.args.from c.args.to c.args.now c.requires.rows)
