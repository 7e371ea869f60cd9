use Rattle.std.proofs.Common.{List, length, ap, ◌∙◌}
use Rattle.timew_interval.specs.declared.interval.Interval.{Interval}
use Rattle.timew_cmd.specs.Texts.{stored}
use Rattle.timew_cli.proofs.carry.stored.Goals as goal

pub returns : goal.returns
returns c = ap stored (c.len-count.ensures ∙ ap (λ (rows : List Interval). length rows) c.intervals.ensures)
