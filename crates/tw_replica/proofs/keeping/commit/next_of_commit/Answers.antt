use Rattle.std.proofs.Common.{◌∙◌, sym}
use Rattle.tw_model.specs.LocalOps.{apply_all_local}
use Rattle.tw_state.proofs.StepsTaken.{if_none}
use Rattle.tw_state.proofs.MadeOnPart.{IsMade, made_after, made_ready, misfit_there, applied_made}
use Rattle.tw_replica.proofs.keeping.commit.next_of_commit.Goals as goal

pub returns-in-Some-clause-refused : goal.returns-in-Some-clause-refused
returns-in-Some-clause-refused c = sym (misfit_there c.in_ok-touched.touched.keys c.args.core.now.tasks c.in_ok-part.part c.in_ok-part.ensures c.args.ops.now.items c.in_ok-touched.ensures) ∙ sym c.in_ok-index.ensures.fit ∙ c.in-Some.is

made : (c : goal.In_ok-next) → IsMade c.in_ok-touched.touched.keys c.args.core.now.tasks (apply_all_local c.args.core.now.tasks c.args.ops.now.items) c.apply_ops.new.tasks
made c = applied_made c.in_ok-touched.touched.keys c.args.core.now.tasks c.in_ok-part.part c.in_ok-part.ensures c.args.ops.now.items c.in_ok-touched.ensures c.apply_ops.new.tasks (if_none _ c.in_ok-index.ensures.left c.in_default.is)

pub returns-clause-fits : goal.returns-clause-fits
returns-clause-fits c = sym (misfit_there c.in_ok-touched.touched.keys c.args.core.now.tasks c.in_ok-part.part c.in_ok-part.ensures c.args.ops.now.items c.in_ok-touched.ensures) ∙ sym c.in_ok-index.ensures.fit ∙ c.in_default.is

pub returns-clause-tasks : goal.returns-clause-tasks
returns-clause-tasks c = c.in_ok-next.ensures.leads c.args.core.now.tasks ∙ made_after _ _ _ _ (made c)

pub returns-clause-numbers : goal.returns-clause-numbers
returns-clause-numbers c = c.in_ok-next.ensures.numbers _ (made c).among (made_ready _ _ _ _ (made c) c.args.core.now.numbers.items c.requires)
