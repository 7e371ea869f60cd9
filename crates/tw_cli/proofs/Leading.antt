-- A step that makes operations leads from the tasks before it by these.
use Rattle.std.proofs.Common.{◌≡◌, ◌∙◌, ap, sym, refl, subst, ℕ, ◌+◌, arith, Bool, true, false, cond, List, ◌∷◌, ◌++◌, length, Option, Some, None, Result, Ok, Err}
use Rattle.std.proofs.lemmas.List.{length-append}
use Rattle.std.proofs.Math.Seq.{drop-append_seam}
use Rattle.tw_world.specs.declared.ids.IdWords.{IdWords}
use Rattle.tw_model.specs.Changes.{changed_all, ops_of_all, group_of}
use Rattle.tw_model.specs.LocalOps.{apply_all_local, take_back_all}
use Rattle.tw_model.specs.Ops.{TaskValue}
use Rattle.tw_model.specs.declared.Op.{Op}
use Rattle.tw_model.specs.declared.Op.TheVariants.{UndoPoint}
use Rattle.tw_fields.specs.Reading.{◌>>=◌}
use Rattle.tw_bodies.specs.Body.Step.{Commit, Undo}
use Rattle.tw_state.specs.State.{State, applied, moved_to, unless, misfit, is_idle, split_group}
use Rattle.tw_state.proofs.Groups.{split_is}
use Rattle.tw_changes.specs.Marks.{mask_changes}
use Rattle.tw_changes.specs.declared.refusal.Refusal.{Refusal}
use Rattle.tw_changes.specs.declared.request.Request.{Request}
use Rattle.tw_commands.specs.Asks.{answered_with}
use Rattle.tw_commands.specs.Carried.{Carried, carried_by, carried_out}
use Rattle.tw_commands.specs.Commands.{plan_of}
use Rattle.tw_commands.specs.Plan.{Plan, Work, step_in}
use Rattle.tw_commands.specs.Plan.Work.{Changes, TakeBack}
use Rattle.tw_commands.proofs.Applied.{by_plan}
use Rattle.tw_cli.specs.Ready.{LeadsFrom}

same_some : {X : Type 0} (x y : X) → Some x ≡ Some y → x ≡ y
same_some {X = X} x y e = ap (λ (o : Option X). of o) e
  where
    of : Option X → X
    of None = x
    of (Some z) = z

abbrev Leads : (old new : State) → Type 0
Leads old new = LeadsFrom old.tasks (length old.pending) new

committed_leads : (renumber : Bool) (ops : List Op) (old new : State) → applied old (Commit renumber ops) ≡ Some new → Leads old new
committed_leads renumber ops old new e = by (is_idle renumber ops) e
  where
    fitting : (o : Option ℕ) → unless o (moved_to renumber (old.pending ++ ops) (apply_all_local old.tasks ops) old) ≡ Some new → Leads old new
    fitting None f = subst (Leads old) (same_some (moved_to renumber (old.pending ++ ops) (apply_all_local old.tasks ops) old) new f) (λ more. ap (apply_all_local old.tasks) (sym (drop-append_seam old.pending ops)))
    fitting (Some n) f = absurd cc

    by : (b : Bool) → cond b (Some old) (unless (misfit 0 old.tasks ops) (moved_to renumber (old.pending ++ ops) (apply_all_local old.tasks ops) old)) ≡ Some new → Leads old new
    by true f = subst (Leads old) (same_some old new f) (λ more. absurd (omega (arith, more)))
    by false f = fitting (misfit 0 old.tasks ops) f

undone_leads : (old new : State) → applied old Undo ≡ Some new → Leads old new
undone_leads old new e = by (split_group old.pending) refl e
  where
    by : (o : Option (List Op × List Op)) → split_group old.pending ≡ o → (o >>= λ parts. Some (moved_to false parts.0 (take_back_all old.tasks parts.1) old)) ≡ Some new → Leads old new
    by None s f = absurd cc
    by (Some parts) s f =
        let longer : length old.pending ≡ length parts.0 + length (UndoPoint ∷ parts.1) = ap (λ (l : List Op). length l) (split_is old.pending parts s) ∙ length-append parts.0 (UndoPoint ∷ parts.1) in
        subst (Leads old) (same_some (moved_to false parts.0 (take_back_all old.tasks parts.1) old) new f) (λ more. absurd (omega (arith, more, longer)))

work_leads : (request : Request) (old new : State) (work : Work) → applied old (step_in request.at old work) ≡ Some new → Leads old new
work_leads request old new (Changes renumber changes marks) e =
    committed_leads renumber (group_of (ops_of_all old.tasks (changes ++ mask_changes request.at (changed_all old.tasks changes) marks) request.at)) old new e
work_leads request old new TakeBack e = undone_leads old new e

-- what a command comes to leads so
pub carried_leads : (request : Request) (ids : IdWords) (answers : List TaskValue) (old : State) (c : Carried) → carried_out request ids answers old ≡ Ok c → Leads old c.new
carried_leads request ids answers old c e = by (answered_with answers old.tasks (plan_of request ids old)) e
  where
    by : (planned : Result Plan Refusal) → carried_by request old planned ≡ Ok c → Leads old c.new
    by (Err refusal) f = absurd cc
    by (Ok plan) f = work_leads request old c.new plan.work (by_plan request old plan c f)
