use Rattle.tw_sync.proofs.LocalSteps.{undo_agrees}
use Rattle.tw_sync.proofs.laws.undo_agrees.Goals as goal

pub returns : goal.returns
returns c = undo_agrees
