-- What a command wrote is taken back by an undo.
use Rattle.std.proofs.Common.{◌≡◌, ◌∙◌, ap, sym, refl, subst, ℕ, Bool, true, false, cond, List, [], ◌∷◌, ◌++◌, Option, Some, None}
use Rattle.std.proofs.lemmas.Option.{same_Some}
use Rattle.tw_world.specs.declared.ids.IdWords.{IdWords}
use Rattle.tw_model.specs.Ops.{TasksValue}
use Rattle.tw_model.specs.LocalOps.{apply_local, apply_all_local, take_back_all, FitAllLocal}
use Rattle.tw_model.specs.declared.Op.{Op}
use Rattle.tw_model.proofs.LocalOps.{all_taken_back}
use Rattle.tw_numbers.proofs.Basics.{both_hold}
use Rattle.tw_bodies.specs.Body.{is_undo_point, has_no_point, is_group}
use Rattle.tw_bodies.specs.Body.Step.{Commit}
use Rattle.tw_state.specs.State.{State, applied, committed, misfit, unless, moved_to, in_front, split_group, undone}
use Rattle.tw_state.proofs.Groups.{IsOfGroup, point_is}
use Rattle.tw_state.proofs.LastUndoPoint.{no_point}
use Rattle.tw_state.proofs.Soundness.{fits_from}
use Rattle.tw_commands.specs.Carried.{Carried}
use Rattle.tw_commands.specs.Laws.{LeadsBack, UndoTakesBack}
use Rattle.tw_changes.specs.declared.request.Request.{Request}
use Rattle.tw_commands.proofs.Applied.{carried_applies, step_of_group}

-- operations behind an undo point are the last group
split_last : (before : List Op) (op : Op) (ops : List Op) → is_undo_point op ≡ true → has_no_point ops ≡ true → split_group (before ++ op ∷ ops) ≡ Some (before, ops)
split_last [] op ops point none = ap (in_front op ops) (no_point ops none) ∙ ap (λ b. cond b (Some ([], ops)) None) point
split_last (x ∷ before) op ops point none = ap (in_front x (before ++ op ∷ ops)) (split_last before op ops point none)

-- where a step leads, its operations fit
pub where_it_fits : (o : Option ℕ) (moved new : State) → unless o moved ≡ Some new → (o ≡ None) × (moved ≡ new)
where_it_fits None moved new e = (refl, same_Some moved new e)
where_it_fits (Some n) moved new e = absurd cc

commit_leads : (renumber : Bool) (op : Op) (ops : List Op) (old new : State) → committed renumber (op ∷ ops) old ≡ Some new
    → (misfit 0 old.tasks (op ∷ ops) ≡ None) × (moved_to renumber (old.pending ++ op ∷ ops) (apply_all_local old.tasks (op ∷ ops)) old ≡ new)
commit_leads true op ops old new e =
    where_it_fits (misfit 0 old.tasks (op ∷ ops)) (moved_to true (old.pending ++ op ∷ ops) (apply_all_local old.tasks (op ∷ ops)) old) new e
commit_leads false op ops old new e =
    where_it_fits (misfit 0 old.tasks (op ∷ ops)) (moved_to false (old.pending ++ op ∷ ops) (apply_all_local old.tasks (op ∷ ops)) old) new e

-- the last group is taken back
undone_so : (new : State) (before ops : List Op) → split_group new.pending ≡ Some (before, ops) → undone new ≡ Some (moved_to false before (take_back_all new.tasks ops) new)
undone_so new before ops split = rw split refl

leads_back : (renumber : Bool) (op : Op) (ops : List Op) (old new : State) → misfit 0 old.tasks (op ∷ ops) ≡ None
    → moved_to renumber (old.pending ++ op ∷ ops) (apply_all_local old.tasks (op ∷ ops)) old ≡ new → is_undo_point op ≡ true → has_no_point ops ≡ true → LeadsBack old new
leads_back renumber op ops old new fit moved point none =
    let there : new.pending ≡ old.pending ++ op ∷ ops = ap (λ (s : State). s.pending) (sym moved) in
    let made : new.tasks ≡ apply_all_local old.tasks (op ∷ ops) = ap (λ (s : State). s.tasks) (sym moved) in
    let fits : FitAllLocal old.tasks (op ∷ ops) = fits_from 0 old.tasks (op ∷ ops) fit in
    record {
      back = moved_to false old.pending (take_back_all new.tasks ops) new;
      is = undone_so new old.pending ops (ap split_group there ∙ split_last old.pending op ops point none);
      base = ap (λ (s : State). s.base) (sym moved);
      pending = refl;
      tasks = ap (λ (t : TasksValue). take_back_all t ops) made ∙ all_taken_back (apply_local old.tasks op) ops fits.1 ∙ ap (apply_local old.tasks) (point_is op point);
    }

pub undo_takes_back : UndoTakesBack
undo_takes_back request ids answers old c renumber op ops carried step =
    let applies : committed renumber (op ∷ ops) old ≡ Some c.new = ap (applied old) (sym step) ∙ carried_applies request ids answers old c carried in
    let leads = commit_leads renumber op ops old c.new applies in
    let group : is_group (op ∷ ops) ≡ true = subst IsOfGroup step (step_of_group request ids answers old c carried) in
    let parts = both_hold (is_undo_point op) (has_no_point ops) group in
    leads_back renumber op ops old c.new leads.0 leads.1 parts.0 parts.1
