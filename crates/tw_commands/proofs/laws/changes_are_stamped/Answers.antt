use Rattle.tw_commands.proofs.StampedTasks.{changes_stamped}
use Rattle.tw_commands.proofs.laws.changes_are_stamped.Goals as goal

pub returns : goal.returns
returns c = changes_stamped
