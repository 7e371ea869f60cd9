use Rattle.std.proofs.Common.{◌≡◌, ◌∙◌, ap, List, Result, Ok, Err, IfOk}
use Rattle.std.specs.FinMap.{get}
use Rattle.tw_replica.specs.Replica.{held_state}
use Rattle.tw_words.specs.declared.changes.modification.Modification.{Modification}
use Rattle.tw_commands.specs.Request.{words_in}
use Rattle.tw_commands.specs.Plan.Show.{Created}
use Rattle.tw_commands.specs.Makes.{making}
use Rattle.tw_changes.specs.Makes.Add.{added}
use Rattle.tw_commands.proofs.commands.add.adding.Goals as goal

if_ok_map : {A E : Type 0} {P Q : A → Type 0} (r : Result A E) → ((a : A) → P a → Q a) → IfOk r P → IfOk r Q
if_ok_map (Ok a) f p = f a p
if_ok_map (Err e) f p = tt

pub returns-clause-plan : goal.returns-clause-plan
returns-clause-plan c =
    let at = c.args.request.now.at in
    let task : c.in_ok-task.task ≡ added (words_in c.args.request.now (held_state c.args.replica.now)) at =
    c.in_ok-task.ensures ∙ ap (λ (ms : List Modification). added ms at) c.requires in
    if_ok_map c.making.result
    (λ plan is. is ∙ (λ i. making (Created (c.draw-uuid.ensures.uuid i)) (c.draw-uuid.ensures.uuid i) (task i) (get (c.tasks.ensures i) (c.draw-uuid.ensures.uuid i))))
    c.making.ensures
