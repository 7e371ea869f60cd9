-- What a command changes has its moment.
use Rattle.std.proofs.Common.{◌≡◌, ◌∙◌, ap, sym, refl, subst, ℕ, Bool, true, false, cond, List, [], ◌∷◌, ◌++◌, map, Option, Some, None, codes, is_some, inl, inr}
use Rattle.std.specs.Fmt.{decimal}
use Rattle.std.specs.FinMap.{get, insert, empty, entries}
use Rattle.tw_world.specs.declared.Moment.{Moment}
use Rattle.tw_model.specs.Maps.{same_bytes}
use Rattle.tw_model.specs.Ops.{TaskValue, TasksValue}
use Rattle.tw_model.specs.LocalOps.{same_task}
use Rattle.tw_model.specs.Changes.{changed, changed_all}
use Rattle.tw_model.specs.declared.Change.{Change}
use Rattle.tw_model.proofs.Maps.{same_bytes_exact, get-set_at, get-set_at_here}
use Rattle.tw_model.proofs.LocalOps.{same_task_exact}
use Rattle.tw_model.proofs.Leading.{changed_all-append}
use Rattle.tw_changes.specs.Stamps.{stamped}
use Rattle.tw_changes.specs.Marks.{marks_of, mark_all, stamped_from, mask_change, mask_changes}
use Rattle.tw_commands.specs.Request.{selected_in}
use Rattle.tw_changes.specs.Effects.{change_by, change_at, changes_by}
use Rattle.tw_commands.specs.Commands.{effect_in}
use Rattle.tw_commands.specs.Carried.{carried_by}
use Rattle.tw_commands.specs.Laws.{IsStamped, ChangesAreStamped}
use Rattle.tw_changes.specs.declared.effects.Effect.{Effect}
use Rattle.tw_changes.specs.declared.effects.Effect.TheVariants.{Nothing, Becomes, Removed}
use Rattle.tw_changes.specs.declared.marks.Mark.{Mark}
use Rattle.tw_commands.proofs.AnswersAsShown.{as_shown}
use Rattle.tw_commands.proofs.OtherTasks.{AreMarked, all_marked, none_marked, tasks_are, acting_applies}

-- ---- one task

as_it_was : (now : Moment) (there : Option TaskValue) → IsStamped now there there
as_it_was now None = tt
as_it_was now (Some task) = inl refl

stamped_is : (now : Moment) (before after : TaskValue) → IsStamped now (Some before) (Some (stamped now before after))
stamped_is now before after = by (same_task before after) refl
  where
    by : (same : Bool) → same_task before after ≡ same → IsStamped now (Some before) (Some (cond same after (insert after (codes "modified") (decimal now.seconds))))
    by true is = inl (ap (λ (t : TaskValue). Some t) (same_task_exact before after is))
    by false is = inr (get-set_at_here after (codes "modified") (Some (decimal now.seconds)))

-- a task that is stamped may be stamped again
again : (now : Moment) (first there : Option TaskValue) (after : TaskValue) → is_some (Some after) ≡ is_some there → IsStamped now first there → IsStamped now first (Some (stamped_from now there after))
again now first None after both is = absurd cc
again now first (Some before) after both is = by (same_task before after) refl
  where
    by : (same : Bool) → same_task before after ≡ same → IsStamped now first (Some (cond same after (insert after (codes "modified") (decimal now.seconds))))
    by true same = subst (λ (t : TaskValue). IsStamped now first (Some t)) (same_task_exact before after same) is
    by false same = inr (get-set_at_here after (codes "modified") (Some (decimal now.seconds)))

-- what a uuid has once one is set
set_stamped : (now : Moment) (first : Option TaskValue) (t : TasksValue) (v u : List ℕ) (o : Option TaskValue) → (u ≡ v → IsStamped now first o) → IsStamped now first (get t u) → IsStamped now first (get (changed t (record { uuid = v; task = o })) u)
set_stamped now first t v u o here so_far = subst (IsStamped now first) (sym (get-set_at t v o u)) (by (same_bytes u v) refl)
  where
    by : (b : Bool) → same_bytes u v ≡ b → IsStamped now first (cond b o (get t u))
    by true same = here (same_bytes_exact u v same)
    by false apart = so_far

-- ---- the changes of tasks that are selected

by_stamped : (now : Moment) (tasks t : TasksValue) (v u : List ℕ) (task : TaskValue) (effect : Effect) → get tasks v ≡ Some task → IsStamped now (get tasks u) (get t u)
    → IsStamped now (get tasks u) (get (changed_all t (change_by now v task effect)) u)
by_stamped now tasks t v u task Nothing there so_far = so_far
by_stamped now tasks t v u task (Becomes after) there so_far =
    set_stamped now (get tasks u) t v u (Some (stamped now task after))
    (λ same. subst (λ (o : Option TaskValue). IsStamped now o (Some (stamped now task after))) (sym (ap (get tasks) same ∙ there)) (stamped_is now task after)) so_far
by_stamped now tasks t v u task Removed there so_far = set_stamped now (get tasks u) t v u None (λ same. tt) so_far

at_stamped : (effect : TaskValue → Effect) (now : Moment) (tasks t : TasksValue) (v u : List ℕ) (there : Option TaskValue) → get tasks v ≡ there → IsStamped now (get tasks u) (get t u)
    → IsStamped now (get tasks u) (get (changed_all t (change_at effect now v there)) u)
at_stamped effect now tasks t v u None there so_far = so_far
at_stamped effect now tasks t v u (Some task) there so_far = by_stamped now tasks t v u task (effect task) there so_far

all_stamped : (effect : TaskValue → Effect) (now : Moment) (tasks t : TasksValue) (us : List (List ℕ)) (u : List ℕ) → IsStamped now (get tasks u) (get t u)
    → IsStamped now (get tasks u) (get (changed_all t (changes_by effect now tasks us)) u)
all_stamped effect now tasks t [] u so_far = so_far
all_stamped effect now tasks t (v ∷ us) u so_far =
    subst (λ (m : TasksValue). IsStamped now (get tasks u) (get m u)) (sym (changed_all-append t (change_at effect now v (get tasks v)) (changes_by effect now tasks us)))
    (all_stamped effect now tasks (changed_all t (change_at effect now v (get tasks v))) us u (at_stamped effect now tasks t v u (get tasks v) refl so_far))

-- ---- the masks of templates

masks_stamped : (now : Moment) (first : Option TaskValue) (tasks t : TasksValue) (es : List (List ℕ × TaskValue)) (u : List ℕ) → AreMarked tasks es → IsStamped now first (get tasks u) → IsStamped now first (get t u)
    → IsStamped now first (get (changed_all t (map (mask_change now tasks) es)) u)
masks_stamped now first tasks t [] u all before so_far = so_far
masks_stamped now first tasks t (e ∷ es) u all before so_far =
    masks_stamped now first tasks (changed t (mask_change now tasks e)) es u all.1 before
    (set_stamped now first t e.0 u (Some (stamped_from now (get tasks e.0) e.1))
    (λ same. again now first (get tasks e.0) e.1 all.0.there (subst (λ (v : List ℕ). IsStamped now first (get tasks v)) same before)) so_far)

pub changes_stamped : ChangesAreStamped
changes_stamped request ids answers old c deed u carried shown acts =
    let now = request.at in
    let changes : List Change = changes_by (effect_in request old) now old.tasks (selected_in request old) in
    let marks : List Mark = marks_of request.command old.tasks changes in
    let middle : TasksValue = changed_all old.tasks changes in
    let masks : List Change = mask_changes now middle marks in
    let applies = acting_applies deed request old changes marks c (sym (ap (carried_by request old) acts) ∙ sym (as_shown request ids old answers shown) ∙ carried) in
    let made : c.new.tasks ≡ changed_all middle masks = tasks_are false (changes ++ masks) now old c.new applies ∙ changed_all-append old.tasks changes masks in
    let before : IsStamped now (get old.tasks u) (get middle u) = all_stamped (effect_in request old) now old.tasks old.tasks (selected_in request old) u (as_it_was now (get old.tasks u)) in
    subst (λ (t : TasksValue). IsStamped now (get old.tasks u) (get t u)) (sym made)
    (masks_stamped now (get old.tasks u) middle middle (entries (mark_all middle empty marks)) u (all_marked middle empty marks (none_marked middle)) before before)
