-- A commit and an undo keep agreement with a chain.
use Rattle.std.proofs.Common.{◌≡◌, ℕ, Bool, true, false, cond, List, [], ◌∷◌, ◌++◌, Option, Some, None, refl, sym, ap, subst, ◌∙◌}
use Rattle.tw_model.specs.Ops.{TasksValue}
use Rattle.tw_model.specs.LocalOps.{apply_local, apply_all_local, FitAllLocal, take_back_all}
use Rattle.tw_model.specs.declared.Op.{Op}
use Rattle.tw_model.proofs.LocalOps.{all_taken_back}
use Rattle.tw_protocol.specs.Chain.{Version}
use Rattle.tw_bodies.specs.Body.{is_group}
use Rattle.tw_fields.specs.Reading.{◌>>=◌}
use Rattle.tw_numbers.specs.Numbering.{assigned}
use Rattle.tw_state.specs.State.{State, misfit, is_idle, unless, moved_to, split_group, undone}
use Rattle.tw_state.specs.Sound.{start_of, IsSound, IsUndone}
use Rattle.tw_numbers.proofs.PlacedAfter.{assigned_in, packed_if_in}
use Rattle.tw_state.proofs.Groups.{group_begins, begins-append}
use Rattle.tw_state.proofs.Soundness.{undo_sound, undo_leads_back}
use Rattle.tw_path.specs.Fold.{IsFold}
use Rattle.tw_outcome.specs.Agreement.{Agrees}
use Rattle.tw_sync.specs.Laws.LocalSteps.{CommitAgrees, UndoAgrees}
use Rattle.tw_sync.proofs.PendingOps.{back-append, fits_from, some_state}

-- what starts where it started agrees as before
moves_from : (old new : State) (chain : List Version) → Agrees old chain → IsSound new → new.base ≡ old.base → start_of new ≡ start_of old → Agrees new chain
moves_from old new chain a sound at start = record {
  sound = sound;
  folded = subst (λ v. IsFold chain v (start_of new)) (sym at) (subst (IsFold chain old.base) (sym start) a.folded);
}

-- ---- an undo

undone_sound : (old new : State) → IsSound old → undone old ≡ Some new → IsSound new
undone_sound old new sound e = by (split_group old.pending) refl e
  where
    by : (o : Option (List Op × List Op)) → split_group old.pending ≡ o → o >>= (λ parts. Some (moved_to false parts.0 (take_back_all old.tasks parts.1) old)) ≡ Some new → IsSound new
    by None s f = absurd cc
    by (Some parts) s f = subst IsSound (some_state _ new f) (undo_sound old parts sound s)

pub undo_agrees : UndoAgrees
undo_agrees old new chain a e =
    let back : IsUndone old new = undo_leads_back old new a.sound e in
    moves_from old new chain a (undone_sound old new a.sound e) back.base back.start

-- ---- a commit

applied-append : (tasks : TasksValue) (xs ys : List Op) → apply_all_local tasks (xs ++ ys) ≡ apply_all_local (apply_all_local tasks xs) ys
applied-append tasks [] ys = refl
applied-append tasks (x ∷ xs) ys = applied-append (apply_local tasks x) xs ys

fit-append : (tasks : TasksValue) (xs ys : List Op) → FitAllLocal tasks xs → FitAllLocal (apply_all_local tasks xs) ys → FitAllLocal tasks (xs ++ ys)
fit-append tasks [] ys first second = second
fit-append tasks (x ∷ xs) ys first second = (first.0, fit-append (apply_local tasks x) xs ys first.1 second)

module _ (renumber : Bool) (ops : List Op) (old : State) (sound : IsSound old) (group : is_group ops ≡ true) (fits : FitAllLocal old.tasks ops) where
  start_same : take_back_all (apply_all_local old.tasks ops) (old.pending ++ ops) ≡ start_of old
  start_same = back-append (apply_all_local old.tasks ops) old.pending ops ∙ ap (λ (t : TasksValue). take_back_all t old.pending) (all_taken_back old.tasks ops fits)

  next_sound : IsSound (moved_to renumber (old.pending ++ ops) (apply_all_local old.tasks ops) old)
  next_sound = record {
    begins = begins-append old.pending ops sound.begins (group_begins ops group);
    fits = subst (λ (t : TasksValue). FitAllLocal t (old.pending ++ ops)) (sym start_same) (fit-append (start_of old) old.pending ops sound.fits (subst (λ (t : TasksValue). FitAllLocal t ops) sound.tasks fits));
    tasks = ap (λ (t : TasksValue). apply_all_local t ops) sound.tasks ∙ sym (applied-append (start_of old) old.pending ops) ∙ ap (λ (t : TasksValue). apply_all_local t (old.pending ++ ops)) (sym start_same);
    assigned = packed_if_in renumber (assigned old.numbers (apply_all_local old.tasks ops)) (apply_all_local old.tasks ops) (assigned_in old.numbers (apply_all_local old.tasks ops) sound.assigned.once);
  }

pub commit_agrees : CommitAgrees
commit_agrees renumber ops old new chain group a e = by (is_idle renumber ops) e
  where
    fitting : (o : Option ℕ) → misfit 0 old.tasks ops ≡ o → unless o (moved_to renumber (old.pending ++ ops) (apply_all_local old.tasks ops) old) ≡ Some new → Agrees new chain
    fitting None m f =
        let fits : FitAllLocal old.tasks ops = fits_from 0 old.tasks ops m in
        subst (λ s. Agrees s chain) (some_state _ new f) (moves_from old _ chain a (next_sound renumber ops old a.sound group fits) refl (start_same renumber ops old a.sound group fits))
    fitting (Some n) m f = absurd cc

    by : (b : Bool) → cond b (Some old) (unless (misfit 0 old.tasks ops) (moved_to renumber (old.pending ++ ops) (apply_all_local old.tasks ops) old)) ≡ Some new → Agrees new chain
    by true f = subst (λ s. Agrees s chain) (some_state old new f) a
    by false f = fitting (misfit 0 old.tasks ops) refl f
