use Rattle.std.proofs.Common.{◌∙◌, ap, subst, sym}
use Rattle.tw_bodies.specs.SyncOps.{ops_in, AreSpelled}
use Rattle.tw_bodies.proofs.SyncOpsHeld.{none_held}
use Rattle.tw_bodies.proofs.sync_ops.SyncOps.new.Goals as goal

pub invariant_of-result : goal.invariant_of-result
invariant_of-result c = subst (AreSpelled 0) (sym c.new-bytes.ensures.items) none_held.0

pub returns : goal.returns
returns c = ap (ops_in 0) c.new-bytes.ensures.items ∙ none_held.1
