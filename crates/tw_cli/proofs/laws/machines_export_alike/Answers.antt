use Rattle.tw_cli.proofs.Headline.{machines_export_alike}
use Rattle.tw_cli.proofs.laws.machines_export_alike.Goals as goal

pub returns : goal.returns
returns c = machines_export_alike
