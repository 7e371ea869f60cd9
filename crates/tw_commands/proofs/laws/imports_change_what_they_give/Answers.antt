use Rattle.tw_commands.proofs.TasksThatStay.{imports_change_theirs}
use Rattle.tw_commands.proofs.laws.imports_change_what_they_give.Goals as goal

pub returns : goal.returns
returns c = imports_change_theirs
