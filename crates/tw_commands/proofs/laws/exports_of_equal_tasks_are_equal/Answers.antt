use Rattle.tw_commands.proofs.EqualExports.{exports_are_equal}
use Rattle.tw_commands.proofs.laws.exports_of_equal_tasks_are_equal.Goals as goal

pub returns : goal.returns
returns c = exports_are_equal
