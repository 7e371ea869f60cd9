use Rattle.std.proofs.Common.{◌≡◌, ◌∙◌, ap, List, Result, Ok, Err, IfOk}
use Rattle.tw_model.specs.Ops.{TasksValue}
use Rattle.tw_replica.specs.Prepared.{prepared_state}
use Rattle.timew_interval.specs.Edit.{edited}
use Rattle.timew_interval.specs.declared.edit.Edit.{Edit}
use Rattle.timew_interval.specs.declared.interval.Interval.{Interval}
use Rattle.timew_bridge.specs.Known.{AreDrivers}
use Rattle.timew_bridge.specs.Track.{tracked}
use Rattle.tw_cli.specs.Driving.{driven}
use Rattle.tw_cli.proofs.hours.edit_by.Goals as goal

if_ok : {A E : Type 0} (P Q : A → Type 0) → ((a : A) → P a → Q a) → (r : Result A E) → IfOk r P → IfOk r Q
if_ok P Q wide (Ok a) p = wide a p
if_ok P Q wide (Err e) p = p

pub returns-clause-driven : goal.returns-clause-driven
returns-clause-driven c =
    if_ok (λ (e : Edit). edited e c.args.rows.now ≡ tracked (prepared_state c.args.after.now).tasks (edited c.in_ok-edit.edit c.args.rows.now) c.args.now.seconds)
    (λ (e : Edit). (tasks : TasksValue) → AreDrivers tasks c.args.now.seconds c.args.before.now.drivers → edited e c.args.rows.now ≡ driven tasks (prepared_state c.args.after.now).tasks c.args.rows.now c.args.now.seconds)
    (λ e then tasks are.
    then
    ∙ ap (λ (l : List Interval). tracked (prepared_state c.args.after.now).tasks l c.args.now.seconds) (c.in_ok-edit.ensures.tracked tasks are ∙ ap (λ (l : List Interval). tracked tasks l c.args.now.seconds) c.in_ok-tail.ensures.same))
    c.edit_after.result c.edit_after.ensures.tracked
