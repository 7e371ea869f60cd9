use Rattle.std.proofs.Common.{◌<◌, sym, ap, subst, ◌∙◌}
use Rattle.timew_interval.specs.Interval.{limit, AreRows}
use Rattle.timew_report.specs.Bounds.{last_end}
use Rattle.timew_report.proofs.LastEnd.{last_of, last_in_range}
use Rattle.timew_report.proofs.bounds.last_end.Goals as goal

pub returns-in-Some-clause-value : goal.returns-in-Some-clause-value
returns-in-Some-clause-value c =
    c.measured.ensures ∙ sym (ap (last_end c.args.now) c.in-Some.ensures.cases.0 ∙ last_of c.args.now c.in-Some.field-0-1.now c.in-Some.last.now)

pub returns-in-Some-clause-in_range : goal.returns-in-Some-clause-in_range
returns-in-Some-clause-in_range c =
    subst (λ n. n < limit) (sym c.measured.ensures) (last_in_range c.args.now c.in-Some.field-0-1.now c.in-Some.last.now (subst AreRows c.in-Some.ensures.cases.0 c.requires.rows) c.requires.now)
