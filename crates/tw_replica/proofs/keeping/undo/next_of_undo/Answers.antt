use Rattle.std.proofs.Common.{◌∙◌, drop}
use Rattle.tw_model.specs.LocalOps.{take_back_all}
use Rattle.tw_state.proofs.MadeOnPart.{IsMade, made_after, made_ready, taken_back_made}
use Rattle.tw_replica.proofs.keeping.undo.next_of_undo.Goals as goal

made : (c : goal.In_ok-next) → IsMade c.in_ok-touched.touched.keys c.args.core.now.tasks (take_back_all c.args.core.now.tasks (drop 1 c.args.group.now.items)) c.take_back_from.new.tasks
made c = taken_back_made c.in_ok-touched.touched.keys c.args.core.now.tasks c.in_ok-part.part c.in_ok-part.ensures (drop 1 c.args.group.now.items) c.in_ok-touched.ensures c.take_back_from.new.tasks c.in_ok-take_back_from.ensures

pub returns-clause-tasks : goal.returns-clause-tasks
returns-clause-tasks c = c.in_ok-next.ensures.leads c.args.core.now.tasks ∙ made_after _ _ _ _ (made c)

pub returns-clause-numbers : goal.returns-clause-numbers
returns-clause-numbers c = c.in_ok-next.ensures.numbers _ (made c).among (made_ready _ _ _ _ (made c) c.args.core.now.numbers.items c.requires.assigned)
