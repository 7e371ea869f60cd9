-- A step that leads nowhere is refused.
use Rattle.std.proofs.Common.{◌≡◌, ap, None, Ok, Err}
use Rattle.tw_state.specs.State.{State, applied}
use Rattle.tw_commands.specs.Plan.{Plan, step_in}
use Rattle.tw_commands.specs.Carried.{then_concluded, carried_by}
use Rattle.tw_changes.specs.declared.request.Request.{Request}
use Rattle.tw_changes.specs.declared.refusal.Refusal.TheVariants.{NothingToUndo}

pub leads_nowhere : (request : Request) (old : State) (plan : Plan) → applied old (step_in request.at old plan.work) ≡ None → carried_by request old (Ok plan) ≡ Err NothingToUndo
leads_nowhere request old plan none = ap (then_concluded request plan old (step_in request.at old plan.work)) none
