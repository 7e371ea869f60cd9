use Rattle.tw_cli.proofs.Surviving.{acknowledged_survives}
use Rattle.tw_cli.proofs.laws.an_acknowledged_command_survives.Goals as goal

pub returns : goal.returns
returns c = acknowledged_survives
