use Rattle.std.proofs.Common.{◌≡◌, ◌∙◌, ap, sym, Result, Ok}
use Rattle.tw_replica.specs.Replica.{held_state}
use Rattle.tw_model.specs.Ops.{TasksValue}
use Rattle.tw_commands.specs.Plan.{Plan, Work, plan_view}
use Rattle.tw_commands.specs.Asks.{answered_work}
use Rattle.tw_changes.specs.declared.refusal.Refusal.{Refusal}
use Rattle.tw_commands.proofs.AnsweredPlans.{answered_is}
use Rattle.tw_commands.proofs.plan.Plan.answered.Goals as goal

pub returns : goal.returns
returns c =
    let plan : Plan = plan_view c.args.self in
    answered_is c.args.answers.now.items (held_state c.args.replica.now).tasks plan
    ∙ sym (ap (λ (work : Work). Ok (record { work = work; show = plan.show })) (c.in_ok-work.ensures ∙ ap (λ (t : TasksValue). answered_work c.args.answers.now.items t plan.work) c.tasks.ensures))
