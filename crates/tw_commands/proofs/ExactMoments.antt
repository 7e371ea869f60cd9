-- `modified` moves exactly where another property differs.
use Rattle.std.proofs.Common.{◌≡◌, ◌∙◌, ap, sym, refl, subst, ℕ, Bool, true, false, cond, List, [], ◌∷◌, ◌++◌, map, Option, Some, None, Result, Ok, Err, codes, inl, inr, arith}
use Rattle.std.specs.Prelude.{nat_lt, length, unwrap_or}
use Rattle.std.proofs.lemmas.Bool.{le-ltb}
use Rattle.std.proofs.lemmas.Option.{same_Some}
use Rattle.std.specs.Fmt.{decimal}
use Rattle.std.specs.FinMap.{get, insert, empty, entries}
use Rattle.tw_world.specs.declared.ids.IdWords.{IdWords}
use Rattle.tw_model.specs.Maps.{same_bytes}
use Rattle.tw_model.specs.Ops.{TaskValue, TasksValue}
use Rattle.tw_model.specs.LocalOps.{same_task}
use Rattle.tw_model.specs.Changes.{changed_all}
use Rattle.tw_model.specs.declared.Change.{Change}
use Rattle.tw_model.proofs.Maps.{same_bytes_exact, get-set_at_here, get-set_at_apart}
use Rattle.tw_numbers.proofs.FirstPlaces.{entries_found}
use Rattle.tw_recur.specs.Recurrence.{mask_of}
use Rattle.tw_recur.specs.Instances.{with_mask}
use Rattle.tw_state.specs.State.{State, applied}
use Rattle.tw_terms.specs.declared.bad_word.BadWord.{BadWord}
use Rattle.tw_report.specs.declared.report.Report.{Report as AnyReport}
use Rattle.tw_report.specs.declared.report.Report.TheVariants as report
use Rattle.tw_words.specs.Readings.{first_bad}
use Rattle.tw_words.specs.declared.command.Command.{Command}
use Rattle.tw_words.specs.declared.command.Command.TheVariants as command
use Rattle.tw_changes.specs.Stamps.{stamped}
use Rattle.tw_changes.specs.Marks.{sign_of, marks_by, marks_with, marks_of, mark_all, stamped_from, mask_change, mask_changes}
use Rattle.tw_commands.specs.Plan.{Plan, Work, Show, step_in}
use Rattle.tw_commands.specs.Plan.Show.{Created, Logged}
use Rattle.tw_commands.specs.Plan.Work.{Changes, TakeBack}
use Rattle.tw_changes.specs.Request.{drawn}
use Rattle.tw_commands.specs.Request.{scene_in, selected_in, words_in}
use Rattle.tw_changes.specs.Effects.{change_by, change_at, changes_by}
use Rattle.tw_commands.specs.Commands.{acting, effect_in, editing, plan_by, plan_of, unless_bad}
use Rattle.tw_commands.specs.Makes.{making}
use Rattle.tw_changes.specs.Makes.Add.{added, logged}
use Rattle.tw_changes.specs.Makes.Duplicate.{copied}
use Rattle.tw_commands.specs.Makes.Duplicate.{change_of, duplicating, duplicated, copies_in}
use Rattle.tw_commands.specs.Looks.Information.{information_on}
use Rattle.tw_commands.specs.Reports.{instances_in, reporting}
use Rattle.tw_commands.specs.Carried.{Carried, carried_by}
use Rattle.tw_commands.specs.Laws.{IsSameButModified, brings_moments, ModifiedMovesExactly}
use Rattle.tw_changes.specs.declared.effects.Effect.{Effect}
use Rattle.tw_changes.specs.declared.effects.Effect.TheVariants.{Nothing, Becomes, Removed}
use Rattle.tw_changes.specs.declared.marks.Mark.{Mark}
use Rattle.tw_changes.specs.declared.marks.Sign.{Sign}
use Rattle.tw_commands.specs.declared.plan.Deed.{Deed}
use Rattle.tw_commands.specs.declared.plan.Deed.TheVariants as deed
use Rattle.tw_changes.specs.declared.request.Request.{Request}
use Rattle.tw_changes.specs.declared.refusal.Refusal.{Refusal}
use Rattle.tw_commands.proofs.AnswersAsShown.{as_shown}
use Rattle.tw_commands.proofs.Applied.{by_plan}
use Rattle.tw_changes.proofs.KeptProperties.{Keeps, IsKeptBy, effect_kept, mask_kept}
use Rattle.tw_commands.proofs.OtherTasks.{IsButMask, AreMarked, all_marked, none_marked, tasks_are}
use Rattle.tw_commands.proofs.WhatChangesLeave.{EachLeaves, both_leave, left_so, no_masks, not_new, new_leave}
use Rattle.tw_commands.proofs.CopiesAreNew.{AreNew, copies_new, nothing_new}
use Rattle.tw_commands.proofs.GrownTasks.{reporting_leaves}
use Rattle.tw_commands.proofs.ExactTask.{modified, IsExact, exactly, stamped_exact}

abbrev IsIf : (TaskValue → Type 0) → Option TaskValue → Type 0
IsIf P None = Unit {0}
IsIf P (Some task) = P task

-- each change of this uuid leaves such a task, or none
abbrev EachIs : (TaskValue → Type 0) → List ℕ → List Change → Type 0
EachIs P u cs = EachLeaves (IsIf P) u cs

-- ---- the plan of each command

module _ (request : Request) (old : State) (u : List ℕ) (before : TaskValue) (there : get old.tasks u ≡ Some before) where
  abbrev Is : TaskValue → Type 0
  Is after = IsExact request.at before after

  abbrev IsWork : Work → Type 0
  IsWork (Changes renumber changes marks) = EachIs Is u (changes ++ mask_changes request.at (changed_all old.tasks changes) marks)
  IsWork TakeBack = ⊥

  abbrev IsPlan : Result Plan Refusal → Type 0
  IsPlan (Err refusal) = Unit {0}
  IsPlan (Ok plan) = IsWork plan.work

  -- ---- commands that act on selected tasks

  at_is : (P : TaskValue → Type 0) (effect : TaskValue → Effect) (v : List ℕ) (e : Effect) (task : TaskValue) → (u ≡ v → (after : TaskValue) → e ≡ Becomes after → P (stamped request.at task after))
      → EachIs P u (change_by request.at v task e)
  at_is P effect v Nothing task is = tt
  at_is P effect v (Becomes after) task is = (λ same. is same after refl, tt)
  at_is P effect v Removed task is = (λ same. tt, tt)

  one_is : (P : TaskValue → Type 0) (effect : TaskValue → Effect) (v : List ℕ) (o : Option TaskValue) → get old.tasks v ≡ o → ((after : TaskValue) → effect before ≡ Becomes after → P (stamped request.at before after))
      → EachIs P u (change_at effect request.at v o)
  one_is P effect v None found is = tt
  one_is P effect v (Some task) found is =
      at_is P effect v (effect task) task
      (λ same after e.
      let one : before ≡ task = same_Some before task (sym there ∙ ap (get old.tasks) same ∙ found) in
      subst (λ (t : TaskValue). P (stamped request.at t after)) one (is after (ap effect one ∙ e)))

  each_is : (P : TaskValue → Type 0) (effect : TaskValue → Effect) (us : List (List ℕ)) → ((after : TaskValue) → effect before ≡ Becomes after → P (stamped request.at before after))
      → EachIs P u (changes_by effect request.at old.tasks us)
  each_is P effect [] is = tt
  each_is P effect (v ∷ us) is =
      both_leave (IsIf P) u (change_at effect request.at v (get old.tasks v)) (changes_by effect request.at old.tasks us)
      (one_is P effect v (get old.tasks v) refl is) (each_is P effect us is)

  abbrev made_of : List Change
  made_of = changes_by (effect_in request old) request.at old.tasks (selected_in request old)

  kept_by : (p : List ℕ) (after : TaskValue) (e : Effect) → e ≡ Becomes after → IsKeptBy p before e → Keeps p before after
  kept_by p after e is keeps = subst (IsKeptBy p before) is keeps

  edits_are : EachIs Is u made_of
  edits_are =
      each_is Is (effect_in request old) (selected_in request old)
      (λ after e.
      stamped_exact request.at before before after (inl refl)
      (kept_by modified after (effect_in request old before) e (effect_kept request.command (scene_in request old) request.line request.at before)) (λ others p apart. refl))

  -- a stamped task keeps its mask
  mask_stamped : (after : TaskValue) → Keeps (codes "mask") before after → Keeps (codes "mask") before (stamped request.at before after)
  mask_stamped after keeps = by (same_task before after)
    where
      by : (same : Bool) → Keeps (codes "mask") before (cond same after (insert after modified (decimal request.at.seconds)))
      by true = keeps
      by false = get-set_at_apart after modified (Some (decimal request.at.seconds)) (codes "mask") refl ∙ keeps

  masks_kept : (sign : Sign) → sign_of request.command ≡ Some sign → EachIs (Keeps (codes "mask") before) u made_of
  masks_kept sign signs =
      each_is (Keeps (codes "mask") before) (effect_in request old) (selected_in request old)
      (λ after e. mask_stamped after (kept_by (codes "mask") after (effect_in request old before) e (mask_kept request.command sign (scene_in request old) request.line request.at before signs)))

  abbrev middle : TasksValue
  middle = changed_all old.tasks made_of

  -- what agrees after another mask agreed before it
  unsigned : (task after : TaskValue) → Keeps (codes "mask") before task → IsButMask (Some task) (Some after) → IsSameButModified before after → IsSameButModified before task
  unsigned task after keeps marked others = λ p apart. by p apart (same_bytes p (codes "mask")) refl
    where
      by : (p : List ℕ) → same_bytes p modified ≡ false → (b : Bool) → same_bytes p (codes "mask") ≡ b → get task p ≡ get before p
      by p apart true is_mask = subst (λ (q : List ℕ). get task q ≡ get before q) (sym (same_bytes_exact p (codes "mask") is_mask)) keeps
      by p apart false no_mask = sym (marked.others p no_mask) ∙ others p apart

  -- a template whose mask is changed, after the changes of the selected tasks
  signed_is : (o : Option TaskValue) (after : TaskValue) → IsIf Is o → IsIf (Keeps (codes "mask") before) o → IsButMask o (Some after) → Is (stamped_from request.at o after)
  signed_is None after is keeps marked = let e = marked.there in absurd cc
  signed_is (Some task) after is keeps marked = stamped_exact request.at before task after is (marked.others modified refl) (unsigned task after keeps marked)

  signs_are : (es : List (List ℕ × TaskValue)) → AreMarked middle es → IsIf Is (get middle u) → IsIf (Keeps (codes "mask") before) (get middle u) → EachIs Is u (map (mask_change request.at middle) es)
  signs_are [] all is keeps = tt
  signs_are (e ∷ es) all is keeps = (
    λ same.
        signed_is (get middle e.0) e.1 (subst (λ (v : List ℕ). IsIf Is (get middle v)) same is)
        (subst (λ (v : List ℕ). IsIf (Keeps (codes "mask") before) (get middle v)) same keeps) all.0,
    signs_are es all.1 is keeps,
  )

  first_is : (P : TaskValue → Type 0) → P before → IsIf P (get old.tasks u)
  first_is P is = subst (IsIf P) (sym there) is

  marks_are : (o : Option Sign) → sign_of request.command ≡ o → EachIs Is u (mask_changes request.at middle (marks_with o old.tasks made_of))
  marks_are None signs = no_masks (IsIf Is) u request.at middle
  marks_are (Some sign) signs =
      let marks : List Mark = marks_by sign old.tasks made_of in
      signs_are (entries (mark_all middle empty marks)) (all_marked middle empty marks (none_marked middle))
      (left_so (IsIf Is) u made_of old.tasks edits_are (first_is Is (inl refl)))
      (left_so (IsIf (Keeps (codes "mask") before)) u made_of old.tasks (masks_kept sign signs) (first_is (Keeps (codes "mask") before) refl))

  acting_is : (d : Deed) (changes : List Change) (marks : List Mark) → EachIs Is u (changes ++ mask_changes request.at (changed_all old.tasks changes) marks) → IsPlan (acting d changes marks)
  acting_is d [] marks is = tt
  acting_is d (c ∷ cs) marks is = is

  editing_is : (d : Deed) → IsPlan (editing d request old)
  editing_is d =
      acting_is d made_of (marks_of request.command old.tasks made_of)
      (both_leave (IsIf Is) u made_of (mask_changes request.at middle (marks_of request.command old.tasks made_of)) edits_are (marks_are (sign_of request.command) refl))

  -- ---- commands that make tasks

  making_is : (show : Show) (v : List ℕ) (task : TaskValue) (o : Option TaskValue) → get old.tasks v ≡ o → IsPlan (making show v task o)
  making_is show v task None none = (λ same. absurd (not_new old.tasks u before there v none same), no_masks (IsIf Is) u request.at (changed_all old.tasks (record { uuid = v; task = Some task } ∷ [])))
  making_is show v task (Some x) found = tt

  duplicating_is : (es : List (List ℕ × TaskValue)) → EachIs Is u (map change_of es) → IsPlan (duplicating es)
  duplicating_is [] is = tt
  duplicating_is (e ∷ es) is = both_leave (IsIf Is) u (map change_of (e ∷ es)) (mask_changes request.at (changed_all old.tasks (map change_of (e ∷ es))) []) is (no_masks (IsIf Is) u request.at (changed_all old.tasks (map change_of (e ∷ es))))

  duplicated_is : (made : Result TasksValue Refusal) → AreNew old made → IsPlan (duplicated made)
  duplicated_is (Err refusal) new = tt
  duplicated_is (Ok made) new = duplicating_is (entries made) (new_leave old.tasks u before there (IsIf Is) made (entries made) new (entries_found made))

  -- ---- reports

  shorter : (n : ℕ) → nat_lt n n ≡ false
  shorter n = le-ltb n n (omega arith)

  -- a template whose mask has become longer
  longer_is : (mask : List ℕ) → nat_lt (length (mask_of before)) (length mask) ≡ true → Is (with_mask before mask request.at.seconds)
  longer_is mask longer = inr (record {
    moment = get-set_at_here (insert before (codes "mask") mask) modified (Some (decimal request.at.seconds));
    other = λ others.
        let new : get (with_mask before mask request.at.seconds) (codes "mask") ≡ Some mask =
        get-set_at_apart (insert before (codes "mask") mask) modified (Some (decimal request.at.seconds)) (codes "mask") refl ∙ get-set_at_here before (codes "mask") (Some mask) in
        let same : mask_of before ≡ mask = ap (λ (o : Option (List ℕ)). unwrap_or o []) (sym (others (codes "mask") refl) ∙ new) in
        let no : nat_lt (length (mask_of before)) (length mask) ≡ false = ap (λ (m : List ℕ). nat_lt (length (mask_of before)) (length m)) (sym same) ∙ shorter (length (mask_of before)) in
        absurd cc;
  })

  reporting_is : (r : AnyReport) → IsPlan (Ok (reporting r request old))
  reporting_is r =
      both_leave (IsIf Is) u (instances_in request old) (mask_changes request.at (changed_all old.tasks (instances_in request old)) [])
      (reporting_leaves request old u before there (IsIf Is) longer_is) (no_masks (IsIf Is) u request.at (changed_all old.tasks (instances_in request old)))

  -- ---- commands that look

  looks : EachIs Is u (mask_changes request.at old.tasks [])
  looks = no_masks (IsIf Is) u request.at old.tasks

  information_is : (us : List (List ℕ)) → IsPlan (information_on us request old)
  information_is [] = tt
  information_is (v ∷ us) = looks

  -- ---- all of them

  plan_is : (c : Command) (ids : IdWords) → brings_moments c ≡ false → IsPlan (plan_by c request ids old)
  plan_is command.Add ids own =
      making_is (Created (drawn ids)) (drawn ids) (added (words_in request old) request.at) (get old.tasks (drawn ids)) refl
  plan_is command.Log ids own = making_is Logged (drawn ids) (logged (words_in request old) request.at) (get old.tasks (drawn ids)) refl
  plan_is command.Modify ids own = editing_is deed.Modified
  plan_is command.Append ids own = editing_is deed.Modified
  plan_is command.Prepend ids own = editing_is deed.Modified
  plan_is command.Annotate ids own = editing_is deed.Annotated
  plan_is command.Denotate ids own = editing_is deed.Denotated
  plan_is command.Done ids own = editing_is deed.Completed
  plan_is command.Delete ids own = editing_is deed.Deleted
  plan_is command.Purge ids own = editing_is deed.Purged
  plan_is command.Start ids own = editing_is deed.Started
  plan_is command.Stop ids own = editing_is deed.Stopped
  plan_is command.Duplicate ids own =
      duplicated_is (copies_in request ids old).made (copies_new old (copied (words_in request old) request.at) (selected_in request old) ids empty (nothing_new old))
  plan_is command.Undo ids own = absurd cc
  plan_is command.Import ids own = absurd cc
  plan_is command.Count ids own = looks
  plan_is command.Ids ids own = looks
  plan_is command.Uuids ids own = looks
  plan_is command.Export ids own = looks
  plan_is command.Information ids own = information_is (selected_in request old)
  plan_is command.Projects ids own = looks
  plan_is command.Tags ids own = looks
  plan_is command.List ids own = reporting_is report.List
  plan_is command.Next ids own = reporting_is report.Next
  plan_is command.All ids own = reporting_is report.All
  plan_is command.Completed ids own = reporting_is report.Completed
  plan_is command.Waiting ids own = reporting_is report.Waiting
  plan_is command.Blocked ids own = reporting_is report.Blocked

  named_is : (o : Option BadWord) (planned : Result Plan Refusal) → IsPlan planned → IsPlan (unless_bad o planned)
  named_is None planned is = is
  named_is (Some bad) planned is = tt

  work_is : (work : Work) (new : State) → IsWork work → applied old (step_in request.at old work) ≡ Some new → IsIf Is (get new.tasks u)
  work_is (Changes renumber changes marks) new is applies =
      let all : List Change = changes ++ mask_changes request.at (changed_all old.tasks changes) marks in
      subst (λ (t : TasksValue). IsIf Is (get t u)) (sym (tasks_are renumber all request.at old new applies)) (left_so (IsIf Is) u all old.tasks is (first_is Is (inl refl)))
  work_is TakeBack new is applies = absurd is

  after_is : (planned : Result Plan Refusal) (c : Carried) → IsPlan planned → carried_by request old planned ≡ Ok c → IsIf Is (get c.new.tasks u)
  after_is (Err refusal) c is e = absurd cc
  after_is (Ok plan) c is e = work_is plan.work c.new is (by_plan request old plan c e)

pub modified_exactly : ModifiedMovesExactly
modified_exactly request ids answers old c u before after carried shown own there left =
    let planned = plan_of request ids old in
    let is = named_is request old u before there (first_bad (scene_in request old) request.line) (plan_by request.command request ids old) (plan_is request old u before there request.command ids own) in
    exactly request.at before after
    (subst (IsIf (IsExact request.at before)) left (after_is request old u before there planned c is (sym (as_shown request ids old answers shown) ∙ carried)))
