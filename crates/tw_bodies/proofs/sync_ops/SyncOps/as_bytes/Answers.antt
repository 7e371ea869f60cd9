use Rattle.std.proofs.Common.{◌≡◌, ◌∙◌, List, [], length, Some, ap, subst, sym}
use Rattle.tw_model.specs.declared.SyncOp.{SyncOp}
use Rattle.tw_bodies.specs.Reading.{sync_op_at}
use Rattle.tw_fields.specs.Reading.{many_at}
use Rattle.tw_bodies.proofs.SyncOpsHeld.{held_read}
use Rattle.tw_bodies.proofs.sync_ops.SyncOps.as_bytes.Goals as goal

pub returns-clause-read : goal.returns-clause-read
returns-clause-read c =
    let bytes = c.self.inside.bytes.items in
    let are = c.self.invariant in
    ap (many_at sync_op_at (length c.args.self.now)) c.deref.ensures.value
    ∙ subst (λ (ops : List SyncOp). many_at sync_op_at (length ops) bytes ≡ Some (ops, [])) c.self.view_is (ap (λ n. many_at sync_op_at n bytes) (sym are.count) ∙ held_read c.self.inside.count bytes are)
