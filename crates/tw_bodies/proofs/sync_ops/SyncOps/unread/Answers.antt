use Rattle.std.proofs.Common.{◌≡◌, List, ℕ, [], Some, subst, sym, arith}
use Rattle.tw_bodies.specs.Reading.{sync_op_at}
use Rattle.tw_bodies.specs.SyncOps.{ops_in}
use Rattle.tw_fields.specs.Reading.{many_at}
use Rattle.tw_bodies.proofs.SyncOpsHeld.{few_held, held_read}
use Rattle.tw_bodies.proofs.sync_ops.SyncOps.unread.Goals as goal

pub overflow_cast-result : goal.overflow_cast-result
overflow_cast-result c = omega (arith, few_held c.self.inside.count c.self.inside.bytes.items c.self.invariant)

pub invariant_of-result : goal.invariant_of-result
invariant_of-result c =
    let count = c.self.inside.count in
    subst (λ (l : List ℕ). many_at sync_op_at count l ≡ Some (ops_in count l, [])) (sym c.deref.ensures.value) (held_read count c.self.inside.bytes.items c.self.invariant)
