use Rattle.tw_commands.proofs.TasksThatStay.{makers_change_none}
use Rattle.tw_commands.proofs.laws.makers_change_none.Goals as goal

pub returns : goal.returns
returns c = makers_change_none
