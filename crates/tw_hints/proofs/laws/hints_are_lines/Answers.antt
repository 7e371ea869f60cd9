use Rattle.tw_hints.proofs.Newlines.{hints_are}
use Rattle.tw_hints.proofs.laws.hints_are_lines.Goals as goal

pub returns : goal.returns
returns c = hints_are
