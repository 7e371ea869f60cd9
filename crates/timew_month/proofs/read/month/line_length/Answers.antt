use Rattle.std.proofs.Common.{sym}
use Rattle.timew_month.proofs.Newlines.{first_newline, no_newline}
use Rattle.timew_month.proofs.read.month.line_length.Goals as goal

pub returns-in-Some-clause-value : goal.returns-in-Some-clause-value
returns-in-Some-clause-value c = sym (first_newline c.args.bytes.now c.in-Some.at c.in-Some.ensures)

pub returns-in-None-clause-value : goal.returns-in-None-clause-value
returns-in-None-clause-value c = sym (no_newline c.args.bytes.now c.in-None.ensures)
