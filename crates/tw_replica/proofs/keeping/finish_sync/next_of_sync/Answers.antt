use Rattle.std.proofs.Common.{◌||◌, ◌∙◌, List, ap, subst}
use Rattle.tw_model.specs.Ops.{apply_all}
use Rattle.tw_model.specs.LocalOps.{take_back_all}
use Rattle.tw_model.specs.declared.Op.{Op}
use Rattle.tw_state.specs.Touched.{is_touched_by_synced}
use Rattle.tw_state.proofs.MadeOnPart.{IsMade, made_after, made_ready, synced_made}
use Rattle.tw_replica.proofs.keeping.finish_sync.next_of_sync.Goals as goal

made : (c : goal.After-drop-pending-2) → IsMade c.add_all_synced.new.touched.keys c.args.core.now.tasks (apply_all (take_back_all c.args.core.now.tasks c.args.core.now.pending) c.args.ops.now.items) c.apply_sync_ops.new.tasks
made c =
    let ops = c.args.ops.now.items in
    let pending = c.in_ok-pending.pending.items in
    let tasks = c.args.core.now.tasks in
    subst (λ (p : List Op). IsMade c.add_all_synced.new.touched.keys tasks (apply_all (take_back_all tasks p) ops) c.apply_sync_ops.new.tasks) c.in_ok-pending.ensures
    (synced_made c.add_all_synced.new.touched.keys tasks c.in_ok-part.part c.in_ok-part.ensures pending ops
    (λ u. c.in_ok-add_all_synced.ensures u ∙ ap (λ b. b || is_touched_by_synced ops u) (c.in_ok-touched.ensures u))
    c.take_back_from.new.tasks c.apply_sync_ops.new.tasks c.in_ok-take_back_from.ensures c.in_ok-apply_sync_ops.ensures)

pub returns-clause-tasks : goal.returns-clause-tasks
returns-clause-tasks c = c.in_ok-next.ensures.leads c.args.core.now.tasks ∙ made_after _ _ _ _ (made c)

pub returns-clause-numbers : goal.returns-clause-numbers
returns-clause-numbers c = c.in_ok-next.ensures.numbers _ (made c).among (made_ready _ _ _ _ (made c) c.args.core.now.numbers.items c.requires)
