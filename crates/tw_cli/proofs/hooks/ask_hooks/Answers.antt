use Rattle.std.proofs.Common.{◌∙◌, inl, refl, sym}
use Rattle.tw_replica.specs.Replica.{held_state}
use Rattle.tw_cli.proofs.Answering.{event_there, plan_unasked, plan_asked, plan_refused}
use Rattle.tw_cli.proofs.hooks.ask_hooks.Goals as goal

pub returns-in_default-clause-answered : goal.returns-in_default-clause-answered
returns-in_default-clause-answered g c =
    plan_unasked g.P.Spawner.model c.args.request.now c.args.spawner.now c.args.spawner.now (held_state c.args.replica.now).tasks c.args.plan (sym c.event_in.ensures ∙ c.in_default.is)

pub returns-in-Err-clause-refused : goal.returns-in-Err-clause-refused
returns-in-Err-clause-refused g c =
    inl refl

pub returns-in-Err-run_all-clause-refused : goal.returns-in-Err-run_all-clause-refused
returns-in-Err-run_all-clause-refused g c =
    plan_refused g.P.Spawner.model c.args.request.now c.args.spawner.now c.run_all.new.spawner (held_state c.args.replica.now).tasks c.args.plan c.in-Some.event (sym c.event_in.ensures ∙ c.in-Some.is) c.as_slice.result.now (c.as_slice.ensures.value ∙ c.in-Ok.ensures) c.in-Err-run_all.error c.in-Err-run_all.ensures.refused c.refused_by.result c.refused_by.ensures

pub returns-in-Ok-answered-clause-answered : goal.returns-in-Ok-answered-clause-answered
returns-in-Ok-answered-clause-answered g c =
    plan_asked g.P.Spawner.model c.args.request.now c.args.spawner.now c.run_all.new.spawner (held_state c.args.replica.now).tasks c.args.plan c.in-Some.event (sym c.event_in.ensures ∙ c.in-Some.is) c.as_slice.result.now (c.as_slice.ensures.value ∙ c.in-Ok.ensures) c.in-Ok-run_all.answers.items c.in-Ok-run_all.ensures.hooked c.run_all.ensures.untouched c.in-Ok-answered.plan c.in-Ok-answered.ensures

-- what runs hooks is as it was for a request that has no event
pub returns-in-Err-run_all-clause-untouched : goal.returns-in-Err-run_all-clause-untouched
returns-in-Err-run_all-clause-untouched g c =
    event_there c.args.request.now c.in-Some.event (sym c.event_in.ensures ∙ c.in-Some.is) c.args.spawner.now c.run_all.new.spawner

pub returns-in-Ok-answered-clause-untouched : goal.returns-in-Ok-answered-clause-untouched
returns-in-Ok-answered-clause-untouched g c =
    event_there c.args.request.now c.in-Some.event (sym c.event_in.ensures ∙ c.in-Some.is) c.args.spawner.now c.run_all.new.spawner
