use Rattle.timew_interval.proofs.MonthForm.{month_utf8}
use Rattle.timew_interval.proofs.name.name_text.Goals as goal

pub unreachable-requires : goal.unreachable-requires
unreachable-requires c = c.in-Err.ensures.cases.0 (month_utf8 c.args.name.now c.requires)
