use Rattle.std.proofs.Common.{◌∙◌, ap, inl, refl, sym}
use Rattle.tw_replica.specs.Replica.{held_state}
use Rattle.tw_commands.specs.Plan.{planned}
use Rattle.tw_cli.proofs.Carrying.{ok_is, err_is}
use Rattle.tw_cli.proofs.Answering.{drawn_all, unplanned, unhooked, concluded_is, not_concluded, conclusion_wants}
use Rattle.tw_cli.proofs.deciding.decide.Goals as goal

pub returns-in-Ok-Err-clause-refused : goal.returns-in-Ok-Err-clause-refused
returns-in-Ok-Err-clause-refused g c =
    unplanned g.P.Spawner.model c.args.request.now c.args.ids.now c.args.spawner.now c.args.spawner.now c.args.replica c.in-Ok-Err.refusal (sym c.in-Ok-Err.ensures.plan ∙ ap planned c.in-Ok-Err.field-0-is)

pub returns-in-Err-clause-refused : goal.returns-in-Err-clause-refused
returns-in-Err-clause-refused g c =
    inl refl

pub returns-in-Err-ask_hooks-clause-refused : goal.returns-in-Err-ask_hooks-clause-refused
returns-in-Err-ask_hooks-clause-refused g c =
    unhooked g.P.Spawner.model c.args.request.now c.args.ids.now c.args.spawner.now c.ask_hooks.new.spawner c.args.replica c.in-Ok-Ok.plan (sym c.in-Ok-Ok.ensures.plan ∙ ap planned c.in-Ok-Ok.field-0-is) c.in-Err-ask_hooks.error c.in-Err-ask_hooks.ensures.refused

pub returns-in-Err-ask_hooks-clause-want : goal.returns-in-Err-ask_hooks-clause-want
returns-in-Err-ask_hooks-clause-want g c =
    drawn_all c.args.request.now c.args.ids.now c.plan_of.new.ids (held_state c.args.replica) c.in-Err-ask_hooks.error c.in-Ok-Ok.ensures.ids

pub returns-in-Ok-Ok-conclude-clause-ready : goal.returns-in-Ok-Ok-conclude-clause-ready
returns-in-Ok-Ok-conclude-clause-ready g c =
    concluded_is g.P.Spawner.model c.args.request.now c.args.ids.now c.args.spawner.now c.ask_hooks.new.spawner c.args.replica c.in-Ok-Ok.plan (sym c.in-Ok-Ok.ensures.plan ∙ ap planned c.in-Ok-Ok.field-0-is) c.in-Ok.plan c.in-Ok.ensures.answered c.in-Ok-Ok-conclude.ready (ok_is _ c.in-Ok-Ok-conclude.field-0 c.in-Ok-Ok-conclude.ready c.in-Ok-Ok-conclude.field-0-is c.in-Ok-Ok-conclude.ensures.ready)

pub returns-in-Ok-Err-conclude-clause-refused : goal.returns-in-Ok-Err-conclude-clause-refused
returns-in-Ok-Err-conclude-clause-refused g c =
    not_concluded g.P.Spawner.model c.args.request.now c.args.ids.now c.args.spawner.now c.ask_hooks.new.spawner c.args.replica c.in-Ok-Ok.plan (sym c.in-Ok-Ok.ensures.plan ∙ ap planned c.in-Ok-Ok.field-0-is) c.in-Ok.plan c.in-Ok.ensures.answered c.in-Ok-Err-conclude.refusal (err_is _ c.in-Ok-Err-conclude.field-0 c.in-Ok-Err-conclude.refusal c.in-Ok-Err-conclude.field-0-is c.in-Ok-Err-conclude.ensures.refused)

pub returns-in-Err-conclude-clause-refused : goal.returns-in-Err-conclude-clause-refused
returns-in-Err-conclude-clause-refused g c =
    conclusion_wants g.P.Spawner.model c.args.request.now c.args.ids.now c.args.spawner.now c.ask_hooks.new.spawner c.args.replica c.in-Ok-Ok.plan (sym c.in-Ok-Ok.ensures.plan ∙ ap planned c.in-Ok-Ok.field-0-is) c.in-Ok.plan c.in-Ok.ensures.answered
