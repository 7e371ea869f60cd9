use Rattle.std.proofs.Common.{◌∙◌, length, ap}
use Rattle.tw_bodies.proofs.SyncOpsHeld.{left_length}
use Rattle.tw_bodies.proofs.unread.Unread.left.Goals as goal

pub returns : goal.returns
returns c = left_length c.self.inside.left c.self.inside.rest.now c.self.invariant ∙ ap length c.self.view_is
