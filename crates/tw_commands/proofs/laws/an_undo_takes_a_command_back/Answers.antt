use Rattle.tw_commands.proofs.TakenBack.{undo_takes_back}
use Rattle.tw_commands.proofs.laws.an_undo_takes_a_command_back.Goals as goal

pub returns : goal.returns
returns c = undo_takes_back
