use Rattle.tw_bodies.proofs.SyncOpsHeld.{few_held}
use Rattle.tw_bodies.proofs.sync_ops.SyncOps.len.Goals as goal

pub returns-clause-few : goal.returns-clause-few
returns-clause-few c = few_held c.self.inside.count c.self.inside.bytes.items c.self.invariant
