-- The pending operations of a replica begin with an undo point.
use Rattle.tw_state.specs.Pending.{PendingBeginsWithPoint}
use Rattle.tw_state.proofs.Soundness.{stands_sound}

pub stands_begins : PendingBeginsWithPoint
stands_begins bodies state stands = (stands_sound bodies state stands).begins
