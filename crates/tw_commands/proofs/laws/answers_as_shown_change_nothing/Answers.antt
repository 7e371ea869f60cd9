use Rattle.tw_commands.proofs.AnswersAsShown.{as_shown}
use Rattle.tw_commands.proofs.laws.answers_as_shown_change_nothing.Goals as goal

pub returns : goal.returns
returns c = as_shown
