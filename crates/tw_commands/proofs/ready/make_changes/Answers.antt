use Rattle.std.proofs.Common.{◌≡◌, ◌∙◌, ◌++◌, [], ap, sym, subst, List, Result, Ok, Err, IfOk}
use Rattle.tw_model.specs.Ops.{TasksValue}
use Rattle.tw_model.specs.Changes.{changed_all}
use Rattle.tw_model.specs.declared.changes.Change.{Change}
use Rattle.tw_replica.specs.Prepared.{IsEditing, IsPrepared, step_of_changes}
use Rattle.tw_changes.specs.Marks.{mask_changes}
use Rattle.tw_commands.proofs.ready.make_changes.Goals as goal

pub prepare-requires : goal.prepare-requires
prepare-requires c =
    let start : IsEditing c.args.replica [] c.args.now c.edit-editing.result = c.edit-editing.ensures c.args.now in
    let one : IsEditing c.args.replica c.args.changes.items c.args.now c.make.new.self = c.in_ok-make.ensures c.args.replica [] start in
    (c.args.replica, c.args.changes.items ++ c.in_ok-masks.masks.items, c.args.now, c.in_ok-make-2.ensures c.args.replica c.args.changes.items one)

if_ok_map : {A E : Type 0} {P Q : A → Type 0} (r : Result A E) → ((a : A) → P a → Q a) → IfOk r P → IfOk r Q
if_ok_map (Ok a) f p = f a p
if_ok_map (Err e) f p = tt

pub returns : goal.returns
returns c =
    let start : IsEditing c.args.replica [] c.args.now c.edit-editing.result = c.edit-editing.ensures c.args.now in
    let one : IsEditing c.args.replica c.args.changes.items c.args.now c.make.new.self = c.in_ok-make.ensures c.args.replica [] start in
    let two : IsEditing c.args.replica (c.args.changes.items ++ c.in_ok-masks.masks.items) c.args.now c.make-2.new.self = c.in_ok-make-2.ensures c.args.replica c.args.changes.items one in
    let masks : c.in_ok-masks.masks.items ≡ mask_changes c.args.now (changed_all c.args.replica.core.tasks c.args.changes.items) c.args.marks.now.items =
    c.in_ok-masks.ensures ∙ ap (λ (t : TasksValue). mask_changes c.args.now t c.args.marks.now.items) (c.tasks.ensures ∙ one.tasks) in
    if_ok_map c.prepare.result
    (λ prepared leads. subst (λ (more : List Change). IsPrepared c.args.replica (step_of_changes c.args.replica c.args.renumber (c.args.changes.items ++ more) c.args.now) prepared) masks
    (leads c.args.replica (c.args.changes.items ++ c.in_ok-masks.masks.items) c.args.now two))
    c.prepare.ensures
