use Rattle.tw_commands.proofs.OtherTasks.{others_stay}
use Rattle.tw_commands.proofs.laws.other_tasks_stay.Goals as goal

pub returns : goal.returns
returns c = others_stay
