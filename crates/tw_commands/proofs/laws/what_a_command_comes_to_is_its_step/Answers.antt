use Rattle.tw_commands.proofs.Applied.{carried_applies}
use Rattle.tw_commands.proofs.laws.what_a_command_comes_to_is_its_step.Goals as goal

pub returns : goal.returns
returns c = carried_applies
