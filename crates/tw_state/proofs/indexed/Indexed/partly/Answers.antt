use Rattle.std.proofs.Common.{◌∙◌, refl, sym, ap, false}
use Rattle.std.specs.Prelude.{option_map}
use Rattle.std.specs.Option.{option_copied}
use Rattle.std.specs.Global.{Vec}
use Rattle.tw_model.specs.declared.Op.{Op}
use Rattle.tw_numbers.specs.Numbering.{assigned}
use Rattle.tw_numbers.proofs.Basics.{both_hold}
use Rattle.tw_state.specs.Core.{state_of}
use Rattle.tw_state.specs.State.{begins_with_point}
use Rattle.tw_state.proofs.StatesReached.{not_pending, is_partly, pends_then}
use Rattle.tw_state.proofs.StepsTaken.{carried_ready, assigned_then}
use Rattle.tw_state.proofs.InPlace.{not_partly_by, partly_at, fits_all, fits_none}
use Rattle.tw_state.proofs.indexed.Indexed.partly.Goals as goal

pub returns-in_default-clause-step : goal.returns-in_default-clause-step
returns-in_default-clause-step c =
    not_partly_by c.args.base c.args.count c.args.bytes.now (state_of c.args.self.now.core)
    (fits_none (option_copied c.in_ok-rest.field-0) c.args.count c.args.bytes.now c.args.self.now.core.tasks c.apply_fitting.new.tasks c.new-touched.result.keys c.apply_fitting.new.touched.keys (ap option_copied c.in_default.is) c.in_ok-rest.ensures)

pub returns-then-not-branch-clause-step : goal.returns-then-not-branch-clause-step
returns-then-not-branch-clause-step c =
    let old = state_of c.args.self.now.core in
    let pending = c.in-Some-2.pending.items in
    let all = fits_all (option_copied c.in_ok-rest.field-0) c.args.count c.args.bytes.now c.in-Some.rest.now old.tasks _ _ _ (ap option_copied c.in-Some.is) c.new-touched.ensures.empty c.in_ok-rest.ensures in
    partly_at c.args.base c.args.count c.args.bytes.now c.in-Some.rest.now all.ops pending old all.read (sym c.in_ok-pending.ensures ∙ ap (option_map (λ (ops : Vec Op). ops.items)) c.in-Some-2.is)
    ∙ not_pending c.args.base all.ops pending old (pends_then old.tasks _ all.ops pending _ all.tasks c.in_ok-may_pend.ensures.told ∙ c.if-not-branch.true)

pub pending_of-requires : goal.pending_of-requires
pending_of-requires c = (both_hold (begins_with_point c.in-Some-2.pending.items) _ (sym c.in_ok-may_pend.ensures.told ∙ c.if-not-branch.false)).0

pub assign-requires-clause-ready : goal.assign-requires-clause-ready
assign-requires-clause-ready c =
    let old = state_of c.args.self.now.core in
    let all = fits_all (option_copied c.in_ok-rest.field-0) c.args.count c.args.bytes.now c.in-Some.rest.now old.tasks _ _ _ (ap option_copied c.in-Some.is) c.new-touched.ensures.empty c.in_ok-rest.ensures in
    carried_ready c.args.self.now.core.numbers.items old.tasks c.may_pend.new.tasks all.ops c.apply_fitting.new.touched.keys c.requires.assigned (c.in_ok-may_pend.ensures.same c.if-not-branch.false ∙ all.tasks) all.touched

pub returns-clause-ready : goal.returns-clause-ready
returns-clause-ready c = λ done. record {
  index = c.in_ok-assign.ensures.index;
  assigned = assigned_then false c.args.self.now.core.numbers.items c.assign.new.places.items c.assign.new.places.items c.args.self.now.core.tasks c.may_pend.new.tasks c.requires.assigned c.in_ok-assign.ensures.places refl;
}

pub returns-clause-step : goal.returns-clause-step
returns-clause-step c =
    let old = state_of c.args.self.now.core in
    let pending = c.in-Some-2.pending.items in
    let all = fits_all (option_copied c.in_ok-rest.field-0) c.args.count c.args.bytes.now c.in-Some.rest.now old.tasks _ _ _ (ap option_copied c.in-Some.is) c.new-touched.ensures.empty c.in_ok-rest.ensures in
    let tasks = c.in_ok-may_pend.ensures.same c.if-not-branch.false ∙ all.tasks in
    partly_at c.args.base c.args.count c.args.bytes.now c.in-Some.rest.now all.ops pending old all.read (sym c.in_ok-pending.ensures ∙ ap (option_map (λ (ops : Vec Op). ops.items)) c.in-Some-2.is)
    ∙ is_partly c.args.base all.ops pending old _ all.fits (pends_then old.tasks _ all.ops pending _ all.tasks c.in_ok-may_pend.ensures.told ∙ c.if-not-branch.false)
    refl c.in_ok-kept.ensures tasks (c.in_ok-assign.ensures.places ∙ ap (assigned c.args.self.now.core.numbers.items) tasks)
