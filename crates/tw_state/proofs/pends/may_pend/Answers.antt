use Rattle.std.proofs.Common.{◌∙◌, sym, ap, Some, None, cond}
use Rattle.tw_state.proofs.TestedPending.{pends_not, pends_so, led_again}
use Rattle.tw_state.proofs.pends.may_pend.Goals as goal

pub returns-then-not-branch-clause-told : goal.returns-then-not-branch-clause-told
returns-then-not-branch-clause-told c =
    sym (pends_not c.args.tasks.now c.args.ops.now.items (c.in_ok-take_all_back.ensures ∙ ap (λ b. cond b (Some c.take_all_back.new.tasks) None) c.if-not-branch.true))

pub returns-clause-told : goal.returns-clause-told
returns-clause-told c =
    sym (pends_so c.args.tasks.now c.take_all_back.new.tasks c.args.ops.now.items (sym c.begins_with_point.ensures ∙ c.if-not-begins_with_point.false)
    (c.in_ok-take_all_back.ensures ∙ ap (λ b. cond b (Some c.take_all_back.new.tasks) None) c.if-not-branch.false))

pub returns-clause-same : goal.returns-clause-same
returns-clause-same c = λ done.
    led_again c.args.tasks.now c.take_all_back.new.tasks c.apply_ops.new.tasks c.args.ops.now.items _
    (c.in_ok-take_all_back.ensures ∙ ap (λ b. cond b (Some c.take_all_back.new.tasks) None) c.if-not-branch.false) c.in_ok-apply_ops.ensures.fit c.in_ok-apply_ops.ensures.left
