use Rattle.tw_commands.proofs.Applied.{changes_carried}
use Rattle.tw_commands.proofs.laws.changes_are_carried_out.Goals as goal

pub returns : goal.returns
returns c = changes_carried
