use Rattle.tw_cli.proofs.Resending.{commit_appends}
use Rattle.tw_cli.proofs.laws.a_commit_appends.Goals as goal

pub returns : goal.returns
returns c = commit_appends
