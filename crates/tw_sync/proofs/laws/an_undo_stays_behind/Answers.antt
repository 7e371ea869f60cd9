use Rattle.tw_sync.proofs.LaterOps.{undo_stays_behind}
use Rattle.tw_sync.proofs.laws.an_undo_stays_behind.Goals as goal

pub returns : goal.returns
returns c = undo_stays_behind
