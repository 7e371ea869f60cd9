use Rattle.tw_state.proofs.StepsTaken.{if_none, applied_ready, assigned_then}
use Rattle.tw_state.proofs.indexed.Indexed.commit_any.Goals as goal

pub assign-requires-clause-ready : goal.assign-requires-clause-ready
assign-requires-clause-ready c = applied_ready c.args.self.now.core.numbers.items c.args.self.now.core.tasks c.apply_ops.new.tasks c.args.ops.items c.in_ok-touched.touched.keys c.requires.ready.assigned (if_none _ c.in_ok-apply_ops.ensures.left c.in_default.is) c.in_ok-touched.ensures

pub returns-clause-ready : goal.returns-clause-ready
returns-clause-ready c = λ done. record {
  index = c.pack_if.ensures.index;
  assigned = assigned_then c.args.renumber c.args.self.now.core.numbers.items c.assign.new.places.items c.pack_if.new.places.items c.args.self.now.core.tasks c.apply_ops.new.tasks c.requires.ready.assigned c.in_ok-assign.ensures.places c.pack_if.ensures.places;
}
