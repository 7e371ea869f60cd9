use Rattle.std.proofs.Common.{◌≡◌, ◌++◌, ◌∙◌, List, length, sym, ap, arith}
use Rattle.tw_model.specs.declared.Op.{Op}
use Rattle.tw_bodies.specs.Body.{is_group}
use Rattle.tw_state.proofs.PendingBodies.{written_holds}
use Rattle.tw_replica.proofs.step.prepare.commit_core.Goals as goal

pub keep_body-requires : goal.keep_body-requires
keep_body-requires c = λ lt.
    let holds = written_holds c.in_ok-body.body.items c.args.renumber c.in_ok-group.group.items (c.in_ok-body.ensures.ops, ap is_group c.in_ok-group.ensures ∙ c.requires) c.in_ok-body.ensures.body lt in
    let count : c.len.result ≡ length c.in_ok-group.group.items = omega arith in
    count ∙ ap length (sym holds)

pub returns-clause-pending : goal.returns-clause-pending
returns-clause-pending c = λ busy.
    let holds = written_holds c.in_ok-body.body.items c.args.renumber c.in_ok-group.group.items (c.in_ok-body.ensures.ops, ap is_group c.in_ok-group.ensures ∙ c.requires) c.in_ok-body.ensures.body c.in_ok-keep_body.ensures.short in
    c.in_ok-keep_body.ensures.kept ∙ ap (λ (l : List Op). c.args.core.now.pending ++ l) (holds ∙ c.in_ok-group.ensures)
