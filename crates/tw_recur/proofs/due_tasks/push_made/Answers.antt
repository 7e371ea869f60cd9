use Rattle.std.proofs.Common.{◌∷◌, [], ◌++◌, ◌<◌, sym, ap, subst, ◌∙◌, append_assoc, arith}
use Rattle.std.proofs.lemmas.List.{append-nil}
use Rattle.std.specs.FinMap as map
use Rattle.tw_model.specs.Ops.{TasksValue}
use Rattle.tw_recur.specs.Instances.{made_changes}
use Rattle.tw_recur.proofs.TakenOut.{change_to, fewer_left, made_first, none_left}
use Rattle.tw_recur.proofs.due_tasks.push_made.Goals as goal

pub loop-left-preserved : goal.loop-left-preserved
loop-left-preserved c =
    let left = c.loop-left.left in
    let change = change_to c.uuid_at-uuid.result c.remove-task.result in
    let rest = made_changes (map.entries c.remove-task.new.self) in
    ap (λ cs. cs ++ rest) c.in_ok-push.ensures.items
    ∙ append_assoc c.loop-left.changes.items (change ∷ []) rest
    ∙ ap (λ tasks. c.loop-left.changes.items ++ (change ∷ made_changes (map.entries tasks))) c.remove-task.ensures.left
    ∙ ap (λ cs. c.loop-left.changes.items ++ cs) (sym (made_first left c.uuid_at-uuid.result c.remove-task.result (omega (arith, c.loop-left-test.true, c.len.ensures)) c.uuid_at-uuid.ensures c.remove-task.ensures.value))
    ∙ c.loop-left.invariant

pub loop-left-smaller : goal.loop-left-smaller
loop-left-smaller c =
    let some : 0 < map.len c.loop-left.left = omega (arith, c.loop-left-test.true, c.len.ensures) in
    subst (λ (tasks : TasksValue). map.len tasks < map.len c.loop-left.left) (sym c.remove-task.ensures.left) (fewer_left c.loop-left.left c.uuid_at-uuid.result c.remove-task.result some c.uuid_at-uuid.ensures c.remove-task.ensures.value)

pub returns : goal.returns
returns c =
    let changes = c.loop-left.changes.items in
    sym (append-nil changes) ∙ ap (λ es. changes ++ made_changes es) (sym (none_left c.loop-left.left (omega (arith, c.loop-left-test.false, c.len.ensures)))) ∙ c.loop-left.invariant
