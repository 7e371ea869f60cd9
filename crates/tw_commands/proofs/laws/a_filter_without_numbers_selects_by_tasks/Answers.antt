use Rattle.tw_commands.proofs.EqualExports.{selects_by_tasks}
use Rattle.tw_commands.proofs.laws.a_filter_without_numbers_selects_by_tasks.Goals as goal

pub returns : goal.returns
returns c = selects_by_tasks
