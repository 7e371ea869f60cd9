use Rattle.timew_month.proofs.SpelledLines.{lines_are_spelled}
use Rattle.timew_month.proofs.laws.lines_are_spelled.Goals as goal

pub returns : goal.returns
returns c = lines_are_spelled
