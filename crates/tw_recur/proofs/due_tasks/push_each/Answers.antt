use Rattle.std.proofs.Common.{◌≡◌, ◌<◌, ◌++◌, length, get_or, take, sym, ap, subst, ◌∙◌, append_assoc}
use Rattle.tw_model.specs.Changes.{ops_of}
use Rattle.tw_recur.specs.Instances.{ops_each}
use Rattle.tw_recur.proofs.Each.{one_more_change}
use Rattle.tw_recur.proofs.due_tasks.push_each.Goals as goal

pub loop-change-preserved : goal.loop-change-preserved
loop-change-preserved c =
    let tasks = c.args.tasks.now in
    let changes = c.args.changes.now.items in
    let i = c.loop-change.change-index in
    let change = c.change-item.result in
    let same = c.deref-change-items.ensures.value in
    let within : i < length changes = subst (λ xs. i < length xs) same c.loop-change-test.true in
    let is : change ≡ get_or changes i change = c.change-item.is ∙ ap (λ xs. get_or xs i change) same in
    c.in_ok-push_ops.ensures
    ∙ ap (λ t. t ++ ops_of tasks change c.args.at) c.loop-change.invariant
    ∙ append_assoc c.args.ops.now.items (ops_each tasks (take i changes) c.args.at) (ops_of tasks change c.args.at)
    ∙ ap (λ t. c.args.ops.now.items ++ t) (sym (one_more_change tasks c.args.at changes i change within is))
