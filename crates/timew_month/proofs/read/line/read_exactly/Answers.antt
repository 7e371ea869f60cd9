use Rattle.std.proofs.Common.{sym}
use Rattle.timew_month.proofs.ExactLine.{exact_read}
use Rattle.timew_month.proofs.read.line.read_exactly.Goals as goal

pub returns-clause-exact : goal.returns-clause-exact
returns-clause-exact c =
    exact_read c.args.line.now c.in-Some.rest.now c.in-Some-moment_at.rest.now c.in-Some-end_at.rest.now c.in-Some-moment_at.start c.in-Some-end_at.end c.line_with.result (sym c.in-Some.ensures) (sym c.in-Some-moment_at.ensures.value) (sym c.in-Some-end_at.ensures.value)
    c.line_with.ensures.is c.line_with.ensures.start c.line_with.ensures.end c.line_with.ensures.exact
