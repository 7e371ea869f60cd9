use Rattle.tw_sync.proofs.LaterOps.{commit_follows}
use Rattle.tw_sync.proofs.laws.a_commit_follows.Goals as goal

pub returns : goal.returns
returns c = commit_follows
