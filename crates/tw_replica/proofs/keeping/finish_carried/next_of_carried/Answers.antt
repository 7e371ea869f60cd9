use Rattle.std.proofs.Common.{◌∙◌, sym}
use Rattle.tw_model.specs.Ops.{apply_all}
use Rattle.tw_state.proofs.StepsTaken.{if_none}
use Rattle.tw_state.proofs.MadeOnPart.{IsMade, made_after, made_ready, misfit_synced_there, carried_made}
use Rattle.tw_replica.proofs.keeping.finish_carried.next_of_carried.Goals as goal

pub returns-in-Some-clause-refused : goal.returns-in-Some-clause-refused
returns-in-Some-clause-refused c = sym (misfit_synced_there c.in_ok-touched.touched.keys c.args.core.now.tasks c.in_ok-part.part c.in_ok-part.ensures c.args.ops.now c.in_ok-touched.ensures) ∙ sym c.in_ok-index.ensures.fit ∙ c.in-Some.is

made : (c : goal.In_ok-next) → IsMade c.in_ok-touched.touched.keys c.args.core.now.tasks (apply_all c.args.core.now.tasks c.args.ops.now) c.apply_carried.new.tasks
made c = carried_made c.in_ok-touched.touched.keys c.args.core.now.tasks c.in_ok-part.part c.in_ok-part.ensures c.args.ops.now c.in_ok-touched.ensures c.apply_carried.new.tasks (if_none _ c.in_ok-index.ensures.left c.in_default.is)

pub returns-clause-fits : goal.returns-clause-fits
returns-clause-fits c = sym (misfit_synced_there c.in_ok-touched.touched.keys c.args.core.now.tasks c.in_ok-part.part c.in_ok-part.ensures c.args.ops.now c.in_ok-touched.ensures) ∙ sym c.in_ok-index.ensures.fit ∙ c.in_default.is

pub returns-clause-tasks : goal.returns-clause-tasks
returns-clause-tasks c = c.in_ok-next.ensures.leads c.args.core.now.tasks ∙ made_after _ _ _ _ (made c)

pub returns-clause-numbers : goal.returns-clause-numbers
returns-clause-numbers c = c.in_ok-next.ensures.numbers _ (made c).among (made_ready _ _ _ _ (made c) c.args.core.now.numbers.items c.requires)
