use Rattle.std.proofs.Common.{ap, ◌∙◌}
use Rattle.std.specs.Prelude.{option_map}
use Rattle.timew_month.proofs.DayMoments.{no_moment_at}
use Rattle.timew_month.proofs.read.line.moment_at.Goals as goal

pub returns-in_err-text-clause-value : goal.returns-in_err-text-clause-value
returns-in_err-text-clause-value c =
    ap (option_map (λ m. (m.0, m.1.now))) c.from_residual.ensures ∙ no_moment_at c.args.bytes.now c.in_err-text.ensures.cases
