use Rattle.std.proofs.Common.{◌≡◌, ◌∙◌, ◌++◌, ◌∷◌, [], List, ℕ, ap, arith}
use Rattle.tw_model.specs.declared.SyncOp.{SyncOp}
use Rattle.tw_bodies.specs.Body.{sync_op_bytes}
use Rattle.tw_bodies.proofs.SyncOpsHeld.{few_held, more_held}
use Rattle.tw_bodies.proofs.sync_ops.SyncOps.push.Goals as goal

pub overflow_add-self : goal.overflow_add-self
overflow_add-self c = omega (arith, few_held c.self.inside.count c.self.inside.bytes.items c.self.invariant)

longer : (c : goal.After-self-1) → c.extend_from_slice.new.self.items ≡ c.self.inside.bytes.items ++ sync_op_bytes c.args.op.now
longer c =
    c.in_ok-extend_from_slice.ensures.items
    ∙ ap (λ (l : List ℕ). c.self.inside.bytes.items ++ l) (c.deref.ensures.value ∙ c.in_ok-put_sync_op.ensures.put ∙ ap (λ (l : List ℕ). l ++ sync_op_bytes c.args.op.now) c.clear.ensures.items)

pub invariant_of-self-2 : goal.invariant_of-self-2
invariant_of-self-2 c =
    (more_held c.self.inside.count c.self.inside.bytes.items c.extend_from_slice.new.self.items c.args.op.now c.self.invariant c.in_ok-put_sync_op.ensures.is (longer c)
    (omega (arith, c.if-len.false, c.self.invariant.short, c.len.ensures, c.len-2.ensures, c.deref.ensures.len, c.in_ok-extend_from_slice.ensures.len))).0

pub returns-clause-ok : goal.returns-clause-ok
returns-clause-ok c =
    (more_held c.self.inside.count c.self.inside.bytes.items c.extend_from_slice.new.self.items c.args.op.now c.self.invariant c.in_ok-put_sync_op.ensures.is (longer c)
    (omega (arith, c.if-len.false, c.self.invariant.short, c.len.ensures, c.len-2.ensures, c.deref.ensures.len, c.in_ok-extend_from_slice.ensures.len))).1
    ∙ ap (λ (ops : List SyncOp). ops ++ c.args.op.now ∷ []) c.self.view_is
