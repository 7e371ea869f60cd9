-- What a command comes to is its step, taken.
use Rattle.std.proofs.Common.{◌≡◌, ◌∙◌, ap, sym, refl, subst, List, ℕ, Option, Some, None, Result, Ok, Err, Bool, true, false, cond, [], ◌∷◌, ◌++◌, ◌+◌}
use Rattle.tw_world.specs.declared.Moment.{Moment}
use Rattle.tw_world.specs.declared.ids.IdWords.{IdWords}
use Rattle.tw_model.specs.Ops.{TaskValue, TasksValue}
use Rattle.tw_model.specs.LocalOps.{apply_local, apply_all_local, FitAllLocal}
use Rattle.tw_model.specs.Changes.{changed_all, ops_of_all, group_of}
use Rattle.tw_model.specs.declared.Op.{Op}
use Rattle.tw_model.specs.declared.Change.{Change}
use Rattle.tw_model.proofs.Leading.{changes_lead}
use Rattle.tw_bodies.specs.Body.{Step}
use Rattle.tw_bodies.specs.Body.Step.{Commit}
use Rattle.tw_state.specs.State.{State, applied, misfit, unless, is_idle, moved_to}
use Rattle.tw_state.proofs.CommittedChanges.{changes_are_group}
use Rattle.tw_state.proofs.Groups.{IsOfGroup}
use Rattle.tw_changes.specs.Marks.{mask_changes}
use Rattle.tw_commands.specs.Plan.{Plan, Work, step_in}
use Rattle.tw_commands.specs.Plan.Work.{Changes, TakeBack}
use Rattle.tw_commands.specs.Commands.{plan_of}
use Rattle.tw_commands.specs.Asks.{answered_with}
use Rattle.tw_commands.specs.Laws.{IsCarriedOut, CarriedIsApplied, ChangesAreCarriedOut}
use Rattle.tw_commands.specs.Carried.{Carried, concluded, with_text, then_concluded, carried_by}
use Rattle.tw_changes.specs.declared.request.Request.{Request}
use Rattle.tw_changes.specs.declared.refusal.Refusal.{Refusal}

texted_is : (step : Step) (new : State) (text : Result (List ℕ) Refusal) (c : Carried) → with_text step new text ≡ Ok c → (c.step ≡ step) × (c.new ≡ new)
texted_is step new (Err refusal) c e = absurd cc
texted_is step new (Ok text) c e =
    let same : record { step = step; new = new; text = text } ≡ c = cc in
    (ap (λ (d : Carried). d.step) (sym same), ap (λ (d : Carried). d.new) (sym same))

then_is : (request : Request) (plan : Plan) (old : State) (step : Step) (o : Option State) (c : Carried) → then_concluded request plan old step o ≡ Ok c → (c.step ≡ step) × (o ≡ Some c.new)
then_is request plan old step None c e = absurd cc
then_is request plan old step (Some new) c e = let is = texted_is step new (concluded request plan.show old new) c e in (is.0, ap Some (sym is.1))

pub by_plan : (request : Request) (old : State) (plan : Plan) (c : Carried) → carried_by request old (Ok plan) ≡ Ok c → applied old (step_in request.at old plan.work) ≡ Some c.new
by_plan request old plan c e = (then_is request plan old (step_in request.at old plan.work) (applied old (step_in request.at old plan.work)) c e).1

by_is : (request : Request) (old : State) (planned : Result Plan Refusal) (c : Carried) → carried_by request old planned ≡ Ok c → applied old c.step ≡ Some c.new
by_is request old (Err refusal) c e = absurd cc
by_is request old (Ok plan) c e =
    let step = step_in request.at old plan.work in
    let is = then_is request plan old step (applied old step) c e in
    ap (applied old) is.0 ∙ is.1

-- the step of a command is a group, or takes one back
work_of_group : (request : Request) (old : State) (work : Work) → IsOfGroup (step_in request.at old work)
work_of_group request old (Changes renumber changes marks) = changes_are_group old.tasks (changes ++ mask_changes request.at (changed_all old.tasks changes) marks) request.at
work_of_group request old TakeBack = tt

by_group : (request : Request) (old : State) (planned : Result Plan Refusal) (c : Carried) → carried_by request old planned ≡ Ok c → IsOfGroup c.step
by_group request old (Err refusal) c e = absurd cc
by_group request old (Ok plan) c e =
    let step = step_in request.at old plan.work in
    subst IsOfGroup (sym (then_is request plan old step (applied old step) c e).0) (work_of_group request old plan.work)

pub step_of_group : (request : Request) (ids : IdWords) (answers : List TaskValue) (old : State) (c : Carried) → IsCarriedOut request ids answers old c → IsOfGroup c.step
step_of_group request ids answers old c e = by_group request old (answered_with answers old.tasks (plan_of request ids old)) c e

pub carried_applies : CarriedIsApplied
carried_applies request ids answers old c e = by_is request old (answered_with answers old.tasks (plan_of request ids old)) c e

-- ---- changes always lead somewhere

none_misfits : (n : ℕ) (tasks : TasksValue) (ops : List Op) → FitAllLocal tasks ops → misfit n tasks ops ≡ None
none_misfits n tasks [] fit = refl
none_misfits n tasks (op ∷ ops) fit = ap (λ b. cond b (misfit (n + 1) (apply_local tasks op) ops) (Some n)) fit.0 ∙ none_misfits (n + 1) (apply_local tasks op) ops fit.1

group_fits : (tasks : TasksValue) (ops : List Op) → FitAllLocal tasks ops → FitAllLocal tasks (group_of ops)
group_fits tasks [] fit = tt
group_fits tasks (op ∷ ops) fit = (refl, fit)

leads_by : (idle : Bool) (o : Option ℕ) (old moved : State) → o ≡ None → (new : State) × (cond idle (Some old) (unless o moved) ≡ Some new)
leads_by true o old moved fits = (old, refl)
leads_by false o old moved fits = (moved, ap (λ n. unless n moved) fits)

leads : (renumber : Bool) (changes : List Change) (now : Moment) (old : State) → (new : State) × (applied old (Commit renumber (group_of (ops_of_all old.tasks changes now))) ≡ Some new)
leads renumber changes now old =
    let ops : List Op = ops_of_all old.tasks changes now in
    leads_by (is_idle renumber (group_of ops)) (misfit 0 old.tasks (group_of ops)) old (moved_to renumber (old.pending ++ group_of ops) (apply_all_local old.tasks (group_of ops)) old)
    (none_misfits 0 old.tasks (group_of ops) (group_fits old.tasks ops (changes_lead old.tasks changes now).0))

pub changes_carried : ChangesAreCarriedOut
changes_carried request ids answers old plan renumber changes marks planned works =
    let all : List Change = changes ++ mask_changes request.at (changed_all old.tasks changes) marks in
    let there = leads renumber all request.at old in
    let step : applied old (step_in request.at old plan.work) ≡ Some there.0 = ap (λ w. applied old (step_in request.at old w)) works ∙ there.1 in
    (there.0, ap (carried_by request old) planned ∙ ap (then_concluded request plan old (step_in request.at old plan.work)) step)
