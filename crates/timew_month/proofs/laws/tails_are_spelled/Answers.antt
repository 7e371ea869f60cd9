use Rattle.timew_month.proofs.SpelledTails.{tails_are_spelled}
use Rattle.timew_month.proofs.laws.tails_are_spelled.Goals as goal

pub returns : goal.returns
returns c = tails_are_spelled
