use Rattle.std.proofs.Common.{◌∙◌, List, ap, subst, arith}
use Rattle.tw_model.specs.declared.Op.{Op}
use Rattle.tw_state.specs.Groups.{group_in, IsLastOf}
use Rattle.tw_state.proofs.PendingBodies.{last_kept}
use Rattle.tw_state.proofs.pending.Pending.last.Goals as goal

pub returns : goal.returns
returns c =
    subst (λ (p : List Op). IsLastOf p c.in_ok-group_in.field-0.items) c.self.view_is
    (last_kept c.self.inside.bodies.items c.len-held.result c.index.result.now c.in_ok-group_in.field-0.items c.self.invariant.each (omega arith) (omega arith) c.index.ensures (c.in_ok-group_in.ensures ∙ ap group_in c.deref.ensures.value))
