use Rattle.std.proofs.Common.{◌∷◌, [], ◌++◌, ◌<◌, Option, None, map as list_map, sym, ap, subst, ◌∙◌, append_assoc, arith}
use Rattle.std.proofs.lemmas.List.{append-nil}
use Rattle.std.specs.FinMap as map
use Rattle.tw_model.specs.Maps.{set_at}
use Rattle.tw_model.specs.Ops.{TaskValue, TasksValue}
use Rattle.tw_recur.proofs.TakenOut.{change_to, fewer_left, first_out, none_left}
use Rattle.tw_commands.specs.Makes.Duplicate.{change_of}
use Rattle.tw_commands.proofs.commands.duplicate.changes_of.Goals as goal

pub loop-left-preserved : goal.loop-left-preserved
loop-left-preserved c =
    let left = c.loop-left.left in
    let uuid = c.uuid_at-uuid.result in
    let task = c.remove-task.result in
    let out = first_out left uuid task (omega (arith, c.loop-left-test.true, c.len.ensures)) c.uuid_at-uuid.ensures c.remove-task.ensures.value in
    let rest = list_map change_of (map.entries c.remove-task.new.self) in
    ap (λ cs. cs ++ rest) c.in_ok-push.ensures.items
    ∙ append_assoc c.loop-left.changes.items (change_to uuid task ∷ []) rest
    ∙ ap (λ tasks. c.loop-left.changes.items ++ (change_to uuid task ∷ list_map change_of (map.entries tasks))) c.remove-task.ensures.left
    ∙ ap (λ (o : Option TaskValue). c.loop-left.changes.items ++ (change_to uuid o ∷ list_map change_of (map.entries (set_at left uuid None)))) out.here
    ∙ ap (λ es. c.loop-left.changes.items ++ list_map change_of es) (sym out.others)
    ∙ c.loop-left.invariant

pub loop-left-smaller : goal.loop-left-smaller
loop-left-smaller c =
    let some : 0 < map.len c.loop-left.left = omega (arith, c.loop-left-test.true, c.len.ensures) in
    subst (λ (tasks : TasksValue). map.len tasks < map.len c.loop-left.left) (sym c.remove-task.ensures.left) (fewer_left c.loop-left.left c.uuid_at-uuid.result c.remove-task.result some c.uuid_at-uuid.ensures c.remove-task.ensures.value)

pub returns : goal.returns
returns c =
    let changes = c.loop-left.changes.items in
    sym (append-nil changes) ∙ ap (λ es. changes ++ list_map change_of es) (sym (none_left c.loop-left.left (omega (arith, c.loop-left-test.false, c.len.ensures)))) ∙ c.loop-left.invariant
