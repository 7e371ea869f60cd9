-- The tasks that a command does not act on.
use Rattle.std.proofs.Common.{◌≡◌, ◌∙◌, ap, sym, refl, subst, ℕ, Bool, true, false, cond, List, [], ◌∷◌, ◌++◌, length, map, Option, Some, None, Result, Ok, codes, is_some}
use Rattle.std.proofs.lemmas.Cmp.{nat_list_cmp_total}
use Rattle.std.proofs.lemmas.List.{nil_from_length}
use Rattle.std.proofs.lemmas.Option.{same_Some}
use Rattle.std.specs.List.{list_any}
use Rattle.std.specs.Fmt.{decimal}
use Rattle.std.specs.FinMap.{get, insert, empty, entries, find, put, get-entries, entries-insert, len-entries, len-empty}
use Rattle.std.specs.FinMap.Entries.{by_order}
use Rattle.std.specs.declared.cmp.Ordering.{Ordering}
use Rattle.std.specs.declared.cmp.Ordering.TheVariants.{Less, Equal, Greater}
use Rattle.std.specs.Ordering.{eq_by_cmp}
use Rattle.std.specs.Cmp.Lexicographic.{texts_ties}
use Rattle.tw_world.specs.declared.Moment.{Moment}
use Rattle.tw_model.specs.Maps.{bytes_cmp, same_bytes}
use Rattle.tw_model.specs.Ops.{TaskValue, TasksValue}
use Rattle.tw_model.specs.LocalOps.{same_task, apply_all_local}
use Rattle.tw_model.specs.Changes.{changed, changed_all, ops_of_all, group_of}
use Rattle.tw_model.specs.declared.Op.{Op}
use Rattle.tw_model.specs.declared.Change.{Change}
use Rattle.tw_model.proofs.Maps.{bytes_exact, same_bytes_exact, get-set_at, get-set_at_apart}
use Rattle.tw_model.proofs.Leading.{changes_lead, changed_all-append}
use Rattle.tw_bodies.specs.Body.Step.{Commit}
use Rattle.tw_state.specs.State.{State, applied, is_idle, misfit, unless, moved_to}
use Rattle.tw_state.proofs.CommittedChanges.{idle_same}
use Rattle.tw_state.proofs.OthersUnchanged.{not_first, not_second}
use Rattle.tw_changes.specs.Marks.{with_sign, with_mark_in, with_mark, marks_of, first_there, put_marked, mark_one, mark_all, stamped_from, mask_change, mask_changes}
use Rattle.tw_commands.specs.Plan.{Plan, Work, Show, step_in}
use Rattle.tw_commands.specs.Plan.Work.{Changes}
use Rattle.tw_commands.specs.Plan.Show.{Counted}
use Rattle.tw_commands.specs.Request.{selected_in}
use Rattle.tw_changes.specs.Effects.{change_by, change_at, changes_by}
use Rattle.tw_commands.specs.Commands.{acting}
use Rattle.tw_commands.specs.Commands.{effect_in}
use Rattle.tw_commands.specs.Asks.{answered_all, answered_work, answered_with}
use Rattle.tw_commands.specs.Carried.{Carried, carried_by}
use Rattle.tw_commands.specs.Laws.{value_of, IsSameButMask, OthersStay}
use Rattle.tw_changes.specs.declared.effects.Effect.{Effect}
use Rattle.tw_changes.specs.declared.effects.Effect.TheVariants.{Nothing, Becomes, Removed}
use Rattle.tw_changes.specs.declared.marks.Mark.{Mark}
use Rattle.tw_commands.specs.declared.plan.Deed.{Deed}
use Rattle.tw_changes.specs.declared.request.Request.{Request}
use Rattle.tw_changes.specs.declared.refusal.Refusal.{Refusal}
use Rattle.tw_commands.proofs.Applied.{by_plan}
use Rattle.tw_commands.proofs.AnsweredPlans.{answered_is}
use Rattle.tw_commands.proofs.WhatChangesLeave.{AreApart, both_leave, left_so, answered_leave, is_apart}
use Rattle.tw_commands.proofs.TakenBack.{where_it_fits}

-- ---- the changes of tasks that are selected

apart_by : (now : Moment) (v u : List ℕ) (task : TaskValue) (effect : Effect) → same_bytes u v ≡ false → AreApart u (change_by now v task effect)
apart_by now v u task Nothing apart = tt
apart_by now v u task (Becomes after) apart = (is_apart u v apart, tt)
apart_by now v u task Removed apart = (is_apart u v apart, tt)

apart_at : (effect : TaskValue → Effect) (now : Moment) (v u : List ℕ) (there : Option TaskValue) → same_bytes u v ≡ false → AreApart u (change_at effect now v there)
apart_at effect now v u None apart = tt
apart_at effect now v u (Some task) apart = apart_by now v u task (effect task) apart

all_apart : (effect : TaskValue → Effect) (now : Moment) (tasks : TasksValue) (us : List (List ℕ)) (u : List ℕ) → list_any (same_bytes u) us ≡ false → AreApart u (changes_by effect now tasks us)
all_apart effect now tasks [] u apart = tt
all_apart effect now tasks (v ∷ us) u apart =
    both_leave (λ o. ⊥) u (change_at effect now v (get tasks v)) (changes_by effect now tasks us)
    (apart_at effect now v u (get tasks v) (not_first (same_bytes u v) (list_any (same_bytes u) us) apart))
    (all_apart effect now tasks us u (not_second (same_bytes u v) (list_any (same_bytes u) us) apart))

-- ---- the masks of templates

-- a task, or none, as it was but for its mask
pub record IsButMask (before after : Option TaskValue) : Type 0 where
  pub there : is_some after ≡ is_some before
  pub others : (p : List ℕ) → same_bytes p (codes "mask") ≡ false → value_of p after ≡ value_of p before

as_it_was : (there : Option TaskValue) → IsButMask there there
as_it_was there = record { there = refl; others = λ p mask. refl }

same_itself : (there : Option TaskValue) → IsSameButMask there there
same_itself there = record { there = refl; others = λ p mask moved. refl }

marked_same : (mark : Mark) (before : Option TaskValue) (task : TaskValue) → IsButMask before (Some task) → IsButMask before (Some (with_mark mark task))
marked_same mark before task is = by (get task (codes "mask"))
  where
    by : (mask : Option (List ℕ)) → IsButMask before (Some (with_mark_in mark task mask))
    by None = is
    by (Some mask) = record {
      there = is.there;
      others = λ p not_mask. get-set_at_apart task (codes "mask") (Some (with_sign mark.index mark.sign mask)) p not_mask ∙ is.others p not_mask;
    }

same_but : (before after : Option TaskValue) → IsButMask before after → IsSameButMask before after
same_but before after is = record { there = is.there; others = λ p mask moved. is.others p mask }

stamped_same : (now : Moment) (before : Option TaskValue) (after : TaskValue) → IsSameButMask before (Some after) → IsSameButMask before (Some (stamped_from now before after))
stamped_same now None after is = is
stamped_same now (Some before) after is = by (same_task before after)
  where
    by : (same : Bool) → IsSameButMask (Some before) (Some (cond same after (insert after (codes "modified") (decimal now.seconds))))
    by true = is
    by false = record {
      there = refl;
      others = λ p not_mask not_moved. get-set_at_apart after (codes "modified") (Some (decimal now.seconds)) p not_moved ∙ is.others p not_mask not_moved;
    }

-- each of these is the task of its uuid, but for its mask
abbrev pub AreMarked : TasksValue → List (List ℕ × TaskValue) → Type 0
AreMarked tasks [] = Unit {0}
AreMarked tasks (e ∷ es) = IsButMask (get tasks e.0) (Some e.1) × AreMarked tasks es

one_put : (tasks : TasksValue) (u : List ℕ) (task : TaskValue) (es : List (List ℕ × TaskValue)) → IsButMask (get tasks u) (Some task) → AreMarked tasks es → AreMarked tasks (put bytes_cmp u task es)
one_put tasks u task [] is all = (is, tt)
one_put tasks u task (e ∷ es) is all = by (bytes_cmp u e.0) refl (one_put tasks u task es is all.1)
  where
    by : (o : Ordering) → bytes_cmp u e.0 ≡ o → AreMarked tasks (put bytes_cmp u task es) → AreMarked tasks (by_order o ((u, task) ∷ e ∷ es) ((e.0, task) ∷ es) (e ∷ put bytes_cmp u task es))
    by Less at rest = (is, all)
    by Equal at rest = (subst (λ (v : List ℕ). IsButMask (get tasks v) (Some task)) (bytes_exact u e.0 at) is, all.1)
    by Greater at rest = (all.0, rest)

one_found : (tasks : TasksValue) (u : List ℕ) (es : List (List ℕ × TaskValue)) (task : TaskValue) → find bytes_cmp u es ≡ Some task → AreMarked tasks es → IsButMask (get tasks u) (Some task)
one_found tasks u [] task found all = absurd cc
one_found tasks u (e ∷ es) task found all = by (eq_by_cmp bytes_cmp u e.0) refl (λ later. one_found tasks u es task later all.1) found
  where
    by : (b : Bool) → eq_by_cmp bytes_cmp u e.0 ≡ b → (find bytes_cmp u es ≡ Some task → IsButMask (get tasks u) (Some task)) → cond b (Some e.1) (find bytes_cmp u es) ≡ Some task
        → IsButMask (get tasks u) (Some task)
    by true at later here =
        let same : u ≡ e.0 = same_bytes_exact u e.0 (texts_ties u e.0 ∙ at) in
        let is : e.1 ≡ task = same_Some e.1 task here in
        subst (λ (x : TaskValue). IsButMask (get tasks u) (Some x)) is (subst (λ (v : List ℕ). IsButMask (get tasks v) (Some e.1)) (sym same) all.0)
    by false at later here = later here

put_more : (tasks marked : TasksValue) (mark : Mark) (task : TaskValue) → AreMarked tasks (entries marked) → IsButMask (get tasks mark.parent) (Some task)
    → AreMarked tasks (entries (insert marked mark.parent (with_mark mark task)))
put_more tasks marked mark task all is =
    subst (AreMarked tasks) (sym (entries-insert nat_list_cmp_total marked mark.parent (with_mark mark task)))
    (one_put tasks mark.parent (with_mark mark task) (entries marked) (marked_same mark (get tasks mark.parent) task is) all)

one_marked : (tasks marked : TasksValue) (mark : Mark) → AreMarked tasks (entries marked) → AreMarked tasks (entries (mark_one tasks marked mark))
one_marked tasks marked mark all = by (get marked mark.parent) refl
  where
    from : (there : Option TaskValue) → get tasks mark.parent ≡ there → AreMarked tasks (entries (put_marked marked mark there))
    from None at = all
    from (Some task) at = put_more tasks marked mark task all (subst (IsButMask (get tasks mark.parent)) at (as_it_was (get tasks mark.parent)))

    by : (there : Option TaskValue) → get marked mark.parent ≡ there → AreMarked tasks (entries (put_marked marked mark (first_there there (get tasks mark.parent))))
    by None at = from (get tasks mark.parent) refl
    by (Some task) at = put_more tasks marked mark task all (one_found tasks mark.parent (entries marked) task (sym (get-entries marked mark.parent) ∙ at) all)

pub all_marked : (tasks marked : TasksValue) (marks : List Mark) → AreMarked tasks (entries marked) → AreMarked tasks (entries (mark_all tasks marked marks))
all_marked tasks marked [] all = all
all_marked tasks marked (mark ∷ marks) all = all_marked tasks (mark_one tasks marked mark) marks (one_marked tasks marked mark all)

pub none_marked : (tasks : TasksValue) → AreMarked tasks (entries {X = TaskValue} {R = bytes_cmp} empty)
none_marked tasks =
    let nothing : entries {X = TaskValue} {R = bytes_cmp} empty ≡ [] = nil_from_length (entries {X = TaskValue} {R = bytes_cmp} empty) (sym (len-entries {X = TaskValue} {R = bytes_cmp} empty) ∙ len-empty bytes_cmp TaskValue) in
    subst (AreMarked tasks) (sym nothing) tt

mask_made : (now : Moment) (tasks t : TasksValue) (e : List ℕ × TaskValue) (u : List ℕ) → IsButMask (get tasks e.0) (Some e.1) → IsSameButMask (get tasks u) (get t u)
    → IsSameButMask (get tasks u) (get (changed t (mask_change now tasks e)) u)
mask_made now tasks t e u is so_far = subst (IsSameButMask (get tasks u)) (sym (get-set_at t e.0 (Some (stamped_from now (get tasks e.0) e.1)) u)) (by (same_bytes u e.0) refl)
  where
    by : (b : Bool) → same_bytes u e.0 ≡ b → IsSameButMask (get tasks u) (cond b (Some (stamped_from now (get tasks e.0) e.1)) (get t u))
    by true same =
        subst (λ (v : List ℕ). IsSameButMask (get tasks v) (Some (stamped_from now (get tasks e.0) e.1))) (sym (same_bytes_exact u e.0 same))
        (stamped_same now (get tasks e.0) e.1 (same_but (get tasks e.0) (Some e.1) is))
    by false apart = so_far

masks_made : (now : Moment) (tasks t : TasksValue) (es : List (List ℕ × TaskValue)) (u : List ℕ) → AreMarked tasks es → IsSameButMask (get tasks u) (get t u)
    → IsSameButMask (get tasks u) (get (changed_all t (map (mask_change now tasks) es)) u)
masks_made now tasks t [] u all so_far = so_far
masks_made now tasks t (e ∷ es) u all so_far = masks_made now tasks (changed t (mask_change now tasks e)) es u all.1 (mask_made now tasks t e u all.0 so_far)

masks_stay : (now : Moment) (tasks : TasksValue) (marks : List Mark) (u : List ℕ) → IsSameButMask (get tasks u) (get (changed_all tasks (mask_changes now tasks marks)) u)
masks_stay now tasks marks u = masks_made now tasks tasks (entries (mark_all tasks empty marks)) u (all_marked tasks empty marks (none_marked tasks)) (same_itself (get tasks u))

-- ---- the tasks after a command

group_leads : (tasks : TasksValue) (ops : List Op) → apply_all_local tasks (group_of ops) ≡ apply_all_local tasks ops
group_leads tasks [] = refl
group_leads tasks (op ∷ ops) = refl

abbrev pub group_in : State → List Change → Moment → List Op
group_in old changes now = group_of (ops_of_all old.tasks changes now)

tasks_by : (renumber : Bool) (changes : List Change) (now : Moment) (old new : State) (idle : Bool) → is_idle renumber (group_in old changes now) ≡ idle
    → cond idle (Some old)
    (unless (misfit 0 old.tasks (group_in old changes now)) (moved_to renumber (old.pending ++ group_in old changes now) (apply_all_local old.tasks (group_in old changes now)) old)) ≡ Some new
    → new.tasks ≡ changed_all old.tasks changes
tasks_by renumber changes now old new true idle e = ap (λ (s : State). s.tasks) (sym (same_Some old new e)) ∙ sym (idle_same renumber old.tasks changes now idle)
tasks_by renumber changes now old new false busy e =
    let leads = where_it_fits (misfit 0 old.tasks (group_in old changes now)) (moved_to renumber (old.pending ++ group_in old changes now) (apply_all_local old.tasks (group_in old changes now)) old) new e in
    ap (λ (s : State). s.tasks) (sym leads.1) ∙ group_leads old.tasks (ops_of_all old.tasks changes now) ∙ (changes_lead old.tasks changes now).1

pub tasks_are : (renumber : Bool) (changes : List Change) (now : Moment) (old new : State) → applied old (Commit renumber (group_in old changes now)) ≡ Some new
    → new.tasks ≡ changed_all old.tasks changes
tasks_are renumber changes now old new applies = tasks_by renumber changes now old new (is_idle renumber (group_in old changes now)) refl applies

pub acting_applies : (deed : Deed) (request : Request) (old : State) (changes : List Change) (marks : List Mark) (c : Carried) → carried_by request old (acting deed changes marks) ≡ Ok c
    → applied old (step_in request.at old (Changes false changes marks)) ≡ Some c.new
acting_applies deed request old [] marks c e = absurd cc
acting_applies deed request old (change ∷ changes) marks c e =
    by_plan request old (record { work = Changes false (change ∷ changes) marks; show = Counted deed (length (change ∷ changes)) }) c e

-- the same if hooks answer
answered_applies : (deed : Deed) (request : Request) (answers : List TaskValue) (old : State) (changes : List Change) (marks : List Mark) (c : Carried)
    → carried_by request old (answered_with answers old.tasks (acting deed changes marks)) ≡ Ok c
    → applied old (step_in request.at old (Changes false (answered_all answers old.tasks changes) marks)) ≡ Some c.new
answered_applies deed request [] old [] marks c e = absurd cc
answered_applies deed request (answer ∷ answers) old [] marks c e = absurd cc
answered_applies deed request answers old (change ∷ changes) marks c e =
    let work : Work = Changes false (change ∷ changes) marks in
    let show : Show = Counted deed (length (change ∷ changes)) in
    by_plan request old (record { work = answered_work answers old.tasks work; show = show }) c
    (sym (ap (carried_by request old) (answered_is answers old.tasks (record { work = work; show = show }))) ∙ e)

pub others_stay : OthersStay
others_stay request ids answers old c deed u carried acts apart =
    let now = request.at in
    let planned : List Change = changes_by (effect_in request old) now old.tasks (selected_in request old) in
    let changes : List Change = answered_all answers old.tasks planned in
    let marks : List Mark = marks_of request.command old.tasks planned in
    let middle : TasksValue = changed_all old.tasks changes in
    let masks : List Change = mask_changes now middle marks in
    let applies = answered_applies deed request answers old planned marks c (sym (ap (λ (p : Result Plan Refusal). carried_by request old (answered_with answers old.tasks p)) acts) ∙ carried) in
    let made : c.new.tasks ≡ changed_all middle masks = tasks_are false (changes ++ masks) now old c.new applies ∙ changed_all-append old.tasks changes masks in
    let leaves = answered_leave (λ o. o ≡ get old.tasks u) u answers old.tasks planned (all_apart (effect_in request old) now old.tasks (selected_in request old) u apart) in
    let stays : get middle u ≡ get old.tasks u = left_so (λ o. o ≡ get old.tasks u) u changes old.tasks leaves refl in
    subst (λ (t : TasksValue). IsSameButMask (get old.tasks u) (get t u)) (sym made)
    (subst (λ (o : Option TaskValue). IsSameButMask o (get (changed_all middle masks) u)) stays (masks_stay now middle marks u))
