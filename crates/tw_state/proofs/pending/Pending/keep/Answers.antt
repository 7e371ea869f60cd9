use Rattle.std.proofs.Common.{◌++◌, ◌∙◌, List, ap, subst, sym, arith}
use Rattle.tw_model.specs.declared.Op.{Op}
use Rattle.tw_state.specs.Groups.{group_in, groups_in, IsCounted, AreCounted}
use Rattle.tw_state.specs.declared.pending.Group.{Group}
use Rattle.tw_state.proofs.PendingBodies.{groups_push, kept_more}
use Rattle.tw_state.proofs.pending.Pending.keep.Goals as goal

pub invariant_of-self-2 : goal.invariant_of-self-2
invariant_of-self-2 c =
    let kept : Group = record { count = c.args.count; body = c.args.body } in
    let own : IsCounted kept = record { count = c.requires; some = omega arith } in
    subst (λ (bs : List Group). AreCounted bs c.in-Some.all) (sym c.in_ok-push.ensures.items) (kept_more c.self.inside.bodies.items kept c.self.inside.count c.in-Some.all c.self.invariant own (omega (arith, c.in-Some.ensures)))

pub returns-clause-ok : goal.returns-clause-ok
returns-clause-ok c =
    let kept : Group = record { count = c.args.count; body = c.args.body } in
    ap groups_in c.in_ok-push.ensures.items ∙ groups_push c.self.inside.bodies.items kept ∙ ap (λ (l : List Op). l ++ group_in c.args.body.items) c.self.view_is
