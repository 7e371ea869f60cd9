use Rattle.std.proofs.Common.{◌∙◌, drop, false, refl, ap}
use Rattle.tw_numbers.specs.Numbering.{assigned}
use Rattle.tw_state.specs.Core.{state_of}
use Rattle.tw_state.proofs.StatesReached.{is_undone}
use Rattle.tw_state.proofs.PendingBodies.{last_told, last_split}
use Rattle.tw_state.proofs.StepsTaken.{taken_back_ready, assigned_then}
use Rattle.tw_state.proofs.indexed.Indexed.undo.Goals as goal

pub assign-requires-clause-ready : goal.assign-requires-clause-ready
assign-requires-clause-ready c = taken_back_ready c.args.self.now.core.numbers.items c.args.self.now.core.tasks c.take_back_from.new.tasks (drop 1 c.in-Some.group.items) c.in_ok-touched-in-Some.touched.keys c.requires.assigned c.in_ok-take_back_from-in-Some.ensures c.in_ok-touched-in-Some.ensures

pub returns-in_ok-assign-in-Some-clause-ready : goal.returns-in_ok-assign-in-Some-clause-ready
returns-in_ok-assign-in-Some-clause-ready c = λ done. record {
  index = c.in_ok-assign-in-Some.ensures.index;
  assigned = assigned_then false c.args.self.now.core.numbers.items c.assign.new.places.items c.assign.new.places.items c.args.self.now.core.tasks c.take_back_from.new.tasks c.requires.assigned c.in_ok-assign-in-Some.ensures.places refl;
}

pub returns-in_ok-assign-in-Some-clause-step : goal.returns-in_ok-assign-in-Some-clause-step
returns-in_ok-assign-in-Some-clause-step c =
    let old = c.args.self.now.core in
    let last = last_told old.pending c.in_ok-last.field-0 c.in-Some.group c.in_ok-last.ensures c.in-Some.is in
    let tasks = c.in_ok-take_back_from-in-Some.ensures in
    is_undone (state_of old) _ last.left (drop 1 c.in-Some.group.items) (last_split old.pending c.in-Some.group.items last) refl (c.pop.ensures c.in-Some.group.items last) tasks (c.in_ok-assign-in-Some.ensures.places ∙ ap (assigned old.numbers.items) tasks)
