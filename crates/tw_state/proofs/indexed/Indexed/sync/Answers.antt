use Rattle.std.proofs.Common.{◌||◌, ◌∙◌, ap, false, refl}
use Rattle.tw_state.specs.Touched.{is_touched_by_synced}
use Rattle.tw_state.proofs.StepsTaken.{synced_ready, assigned_then}
use Rattle.tw_state.proofs.ReadInChunks.{all_applied}
use Rattle.tw_state.proofs.indexed.Indexed.sync.Goals as goal

pub assign-requires-clause-ready : goal.assign-requires-clause-ready
assign-requires-clause-ready c =
    let all = all_applied c.in_ok-apply_read.field-0 c.args.count c.args.bytes.now c.take_back.new.tasks c.apply_read.new.tasks c.in_ok-touched.touched.keys c.apply_read.new.touched.keys c.if-not-branch.false c.in_ok-apply_read.ensures in
    synced_ready c.args.self.now.core.numbers.items c.args.self.now.core.tasks c.take_back.new.tasks c.apply_read.new.tasks c.args.self.now.core.pending all.ops c.apply_read.new.touched.keys c.requires.assigned c.in_ok-touched.ensures.tasks all.tasks
    (λ u. all.touched u ∙ ap (λ b. b || is_touched_by_synced all.ops u) (c.in_ok-touched.ensures.touched u))

pub returns-clause-ready : goal.returns-clause-ready
returns-clause-ready c = λ done. record {
  index = c.in_ok-assign.ensures.index;
  assigned = assigned_then false c.args.self.now.core.numbers.items c.assign.new.places.items c.assign.new.places.items c.args.self.now.core.tasks c.apply_read.new.tasks c.requires.assigned c.in_ok-assign.ensures.places refl;
}
