use Rattle.std.proofs.Common.{◌∙◌, sym, false, refl}
use Rattle.tw_state.proofs.StepsTaken.{if_none, made_ready, made_free, assigned_then}
use Rattle.tw_state.proofs.indexed.Indexed.commit_new.Goals as goal

pub assign_new-requires-clause-ready : goal.assign_new-requires-clause-ready
assign_new-requires-clause-ready c = made_ready c.args.self.now.core.numbers.items c.args.self.now.core.tasks c.apply_ops.new.tasks c.args.ops.items c.args.uuid c.requires.ready.assigned (if_none _ c.in_ok-apply_ops.ensures.left c.in_default.is) c.requires.one

pub assign_new-requires-clause-free : goal.assign_new-requires-clause-free
assign_new-requires-clause-free c = made_free c.args.self.now.core.numbers.items c.args.self.now.core.tasks c.args.ops.items c.args.uuid c.requires.ready.assigned (sym c.in_ok-apply_ops.ensures.fit ∙ c.in_default.is) c.requires.one

pub returns-clause-ready : goal.returns-clause-ready
returns-clause-ready c = λ done. record {
  index = c.in_ok-assign_new.ensures.index;
  assigned = assigned_then false c.args.self.now.core.numbers.items c.assign_new.new.places.items c.assign_new.new.places.items c.args.self.now.core.tasks c.apply_ops.new.tasks c.requires.ready.assigned c.in_ok-assign_new.ensures.places refl;
}
