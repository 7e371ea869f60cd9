use Rattle.tw_sync.proofs.Folds.{pending_acts_on_the_fold}
use Rattle.tw_sync.proofs.laws.pending_acts_on_the_fold.Goals as goal

pub returns : goal.returns
returns c = pending_acts_on_the_fold
