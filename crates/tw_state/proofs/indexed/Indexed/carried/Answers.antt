use Rattle.std.proofs.Common.{refl, ap, false}
use Rattle.std.specs.Option.{option_copied}
use Rattle.tw_state.specs.Core.{state_of}
use Rattle.tw_state.proofs.StepsTaken.{carried_ready, assigned_then}
use Rattle.tw_state.proofs.InPlace.{not_carried_by, fits_all, fits_none}
use Rattle.tw_state.proofs.indexed.Indexed.carried.Goals as goal

pub returns-in_default-clause-step : goal.returns-in_default-clause-step
returns-in_default-clause-step c =
    not_carried_by c.args.base c.args.count c.args.bytes.now (state_of c.args.self.now.core)
    (fits_none (option_copied c.in_ok-rest.field-0) c.args.count c.args.bytes.now c.args.self.now.core.tasks c.apply_fitting.new.tasks c.new-touched.result.keys c.apply_fitting.new.touched.keys (ap option_copied c.in_default.is) c.in_ok-rest.ensures)

pub assign-requires-clause-ready : goal.assign-requires-clause-ready
assign-requires-clause-ready c =
    let all = fits_all (option_copied c.in_ok-rest.field-0) c.args.count c.args.bytes.now c.in-Some.rest.now c.args.self.now.core.tasks _ _ _ (ap option_copied c.in-Some.is) c.new-touched.ensures.empty c.in_ok-rest.ensures in
    carried_ready c.args.self.now.core.numbers.items c.args.self.now.core.tasks c.apply_fitting.new.tasks all.ops c.apply_fitting.new.touched.keys c.requires.assigned all.tasks all.touched

pub returns-clause-ready : goal.returns-clause-ready
returns-clause-ready c = λ done. record {
  index = c.in_ok-assign.ensures.index;
  assigned = assigned_then false c.args.self.now.core.numbers.items c.assign.new.places.items c.assign.new.places.items c.args.self.now.core.tasks c.apply_fitting.new.tasks c.requires.assigned c.in_ok-assign.ensures.places refl;
}
