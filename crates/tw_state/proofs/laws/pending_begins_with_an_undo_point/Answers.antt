use Rattle.tw_state.proofs.PendingBegins.{stands_begins}
use Rattle.tw_state.proofs.laws.pending_begins_with_an_undo_point.Goals as goal

pub returns : goal.returns
returns c = stands_begins
