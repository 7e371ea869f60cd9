use Rattle.tw_sync.proofs.LocalSteps.{commit_agrees}
use Rattle.tw_sync.proofs.laws.commit_agrees.Goals as goal

pub returns : goal.returns
returns c = commit_agrees
