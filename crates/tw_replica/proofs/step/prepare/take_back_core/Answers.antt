use Rattle.std.proofs.Common.{drop}
use Rattle.tw_state.proofs.StepsTaken.{taken_back_ready}
use Rattle.tw_replica.proofs.step.prepare.take_back_core.Goals as goal

pub returns-clause-numbers : goal.returns-clause-numbers
returns-clause-numbers c =
    c.in_ok-renew_places.ensures
    (taken_back_ready c.args.core.now.numbers.items c.args.core.now.tasks c.take_back_from.new.tasks (drop 1 c.args.group.now.items) c.in_ok-touched.touched.keys c.requires.assigned c.in_ok-take_back_from.ensures c.in_ok-touched.ensures)

pub take_back_from-requires : goal.take_back_from-requires
take_back_from-requires c = c.requires.last.some

pub returns-clause-pending : goal.returns-clause-pending
returns-clause-pending c = λ last. c.pop.ensures c.args.group.now.items last
