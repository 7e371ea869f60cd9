use Rattle.std.proofs.Common.{◌∙◌, length, sym, ap, arith}
use Rattle.tw_bodies.proofs.SyncOpsHeld.{left_on, left_length}
use Rattle.tw_bodies.proofs.unread.Unread.read_run.Goals as goal

pub invariant_of-self : goal.invariant_of-self
invariant_of-self c = (left_on c.self.inside.left c.in-Ok.left c.self.inside.rest.now c.in-Ok.rest.now c.in-Ok.ops.items c.self.invariant c.in-Ok.ensures.read.read).0

pub returns-clause-read : goal.returns-clause-read
returns-clause-read c = sym c.self.view_is ∙ (left_on c.self.inside.left c.in-Ok.left c.self.inside.rest.now c.in-Ok.rest.now c.in-Ok.ops.items c.self.invariant c.in-Ok.ensures.read.read).1

pub read_run-requires : goal.read_run-requires
read_run-requires c = omega (arith, left_length c.self.inside.left c.self.inside.rest.now c.self.invariant ∙ ap length c.self.view_is, c.requires)
