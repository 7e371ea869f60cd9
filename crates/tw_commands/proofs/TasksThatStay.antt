-- The tasks that were there before a command that acts on no selected ones.
use Rattle.std.proofs.Common.{◌≡◌, ◌∙◌, ap, sym, refl, subst, ℕ, ◌||◌, Bool, true, false, cond, List, [], ◌∷◌, ◌++◌, length, map, Option, Some, None, Result, Ok, Err, codes, is_some}
use Rattle.std.proofs.lemmas.List.{nil_from_length}
use Rattle.std.specs.Fmt.{decimal}
use Rattle.std.specs.FinMap.{get, insert, empty, entries}
use Rattle.tw_world.specs.declared.ids.IdWords.{IdWords}
use Rattle.tw_model.specs.Ops.{TaskValue, TasksValue}
use Rattle.tw_model.specs.Places.{has_uuid}
use Rattle.tw_model.specs.Changes.{changed_all}
use Rattle.tw_model.specs.declared.Change.{Change}
use Rattle.tw_model.proofs.Maps.{get-set_at_apart}
use Rattle.tw_numbers.proofs.FirstPlaces.{entries_found}
use Rattle.tw_import.specs.Import.{import_of}
use Rattle.tw_import.specs.declared.import.Imported.{Imported}
use Rattle.tw_import.specs.declared.import.ImportError.{ImportError}
use Rattle.tw_recur.specs.Instances.{with_mask}
use Rattle.tw_state.specs.State.{State, applied}
use Rattle.tw_terms.specs.declared.bad_word.BadWord.{BadWord}
use Rattle.tw_report.specs.declared.report.Report.{Report as AnyReport}
use Rattle.tw_report.specs.declared.report.Report.TheVariants as report
use Rattle.tw_words.specs.Readings.{first_bad}
use Rattle.tw_words.specs.declared.command.Command.{Command}
use Rattle.tw_words.specs.declared.command.Command.TheVariants as command
use Rattle.tw_hooks.specs.declared.event.Event.{Event}
use Rattle.tw_settings.specs.Switches.{is_set_on}
use Rattle.tw_changes.specs.Marks.{mask_changes}
use Rattle.tw_changes.specs.declared.marks.Mark.{Mark}
use Rattle.tw_commands.specs.Plan.{Plan, Work, Show, step_in}
use Rattle.tw_commands.specs.Plan.Show.{Created, Logged}
use Rattle.tw_commands.specs.Plan.Work.{Changes, TakeBack}
use Rattle.tw_changes.specs.Request.{drawn, after_draw}
use Rattle.tw_commands.specs.Request.{scene_in, selected_in, words_in}
use Rattle.tw_commands.specs.Makes.{making}
use Rattle.tw_changes.specs.Makes.Add.{added, logged}
use Rattle.tw_changes.specs.Makes.Duplicate.{copied}
use Rattle.tw_commands.specs.Makes.Duplicate.{change_of, duplicating, duplicated, copies_in}
use Rattle.tw_changes.specs.Makes.Import.{Imports, change_to, is_changed, is_taken, stopped, import_as, imports, imports_by}
use Rattle.tw_commands.specs.Makes.Import.{imported}
use Rattle.tw_commands.specs.Reports.{instances_in, reporting}
use Rattle.tw_commands.specs.Commands.{plan_by, plan_of, unless_bad}
use Rattle.tw_commands.specs.Asks.{event_of, event_in, asked_at, answered_all, answered_work, answered_with}
use Rattle.tw_commands.specs.Carried.{Carried, carried_by, asked_by}
use Rattle.tw_commands.specs.Laws.{IsCarriedOut, IsSameButMask, AreAnswers}
use Rattle.tw_commands.specs.Stays.{makes, MakersChangeNone, gives, ImportsChangeWhatTheyGive, is_report, ReportsChangeMasks}
use Rattle.tw_changes.specs.declared.request.Request.{Request}
use Rattle.tw_changes.specs.declared.refusal.Refusal.{Refusal}
use Rattle.tw_commands.proofs.Applied.{by_plan}
use Rattle.tw_commands.proofs.AnsweredPlans.{answered_is}
use Rattle.tw_commands.proofs.OtherTasks.{tasks_are}
use Rattle.tw_commands.proofs.WhatChangesLeave.{EachLeaves, AreApart, both_leave, left_so, answered_leave, is_apart, no_masks, no_task, not_new, new_leave}
use Rattle.tw_commands.proofs.CopiesAreNew.{AreNew, copies_new, nothing_new}
use Rattle.tw_commands.proofs.GrownTasks.{reporting_leaves}

neither : (a b : Bool) → (a || b) ≡ false → (a ≡ false) × (b ≡ false)
neither true b e = absurd cc
neither false b e = (refl, e)

-- ---- the plan of each command

module _ (request : Request) (old : State) (u : List ℕ) (before : TaskValue) (there : get old.tasks u ≡ Some before) where
  -- its changes are apart from the task, and it marks none
  abbrev WorkSpares : Work → Type 0
  WorkSpares (Changes renumber changes marks) = AreApart u changes × (marks ≡ [])
  WorkSpares TakeBack = ⊥

  abbrev PlanSpares : Result Plan Refusal → Type 0
  PlanSpares (Err refusal) = Unit {0}
  PlanSpares (Ok plan) = WorkSpares plan.work

  -- ---- commands that make tasks

  making_spares : (show : Show) (v : List ℕ) (task : TaskValue) (o : Option TaskValue) → get old.tasks v ≡ o → PlanSpares (making show v task o)
  making_spares show v task None none = ((not_new old.tasks u before there v none, tt), refl)
  making_spares show v task (Some x) found = tt

  duplicating_spares : (es : List (List ℕ × TaskValue)) → AreApart u (map change_of es) → PlanSpares (duplicating es)
  duplicating_spares [] each = tt
  duplicating_spares (e ∷ es) each = (each, refl)

  duplicated_spares : (made : Result TasksValue Refusal) → AreNew old made → PlanSpares (duplicated made)
  duplicated_spares (Err refusal) new = tt
  duplicated_spares (Ok made) new = duplicating_spares (entries made) (new_leave old.tasks u before there (λ o. ⊥) made (entries made) new (entries_found made))

  makers_spare : (c : Command) (ids : IdWords) → makes c ≡ true → PlanSpares (plan_by c request ids old)
  makers_spare command.Add ids is =
      making_spares (Created (drawn ids)) (drawn ids) (added (words_in request old) request.at) (get old.tasks (drawn ids)) refl
  makers_spare command.Log ids is = making_spares Logged (drawn ids) (logged (words_in request old) request.at) (get old.tasks (drawn ids)) refl
  makers_spare command.Duplicate ids is =
      duplicated_spares (copies_in request ids old).made
      (copies_new old (copied (words_in request old) request.at) (selected_in request old) ids empty (nothing_new old))
  makers_spare command.Modify ids is = absurd cc
  makers_spare command.Append ids is = absurd cc
  makers_spare command.Prepend ids is = absurd cc
  makers_spare command.Annotate ids is = absurd cc
  makers_spare command.Denotate ids is = absurd cc
  makers_spare command.Done ids is = absurd cc
  makers_spare command.Delete ids is = absurd cc
  makers_spare command.Purge ids is = absurd cc
  makers_spare command.Start ids is = absurd cc
  makers_spare command.Stop ids is = absurd cc
  makers_spare command.Undo ids is = absurd cc
  makers_spare command.Import ids is = absurd cc
  makers_spare command.Count ids is = absurd cc
  makers_spare command.Ids ids is = absurd cc
  makers_spare command.Uuids ids is = absurd cc
  makers_spare command.Export ids is = absurd cc
  makers_spare command.Information ids is = absurd cc
  makers_spare command.Projects ids is = absurd cc
  makers_spare command.Tags ids is = absurd cc
  makers_spare command.List ids is = absurd cc
  makers_spare command.Next ids is = absurd cc
  makers_spare command.All ids is = absurd cc
  makers_spare command.Completed ids is = absurd cc
  makers_spare command.Waiting ids is = absurd cc
  makers_spare command.Blocked ids is = absurd cc

  -- ---- imports

  abbrev ImportsSpare : Imports → Type 0
  ImportsSpare i = PlanSpares (imported i.changes)

  one_more : (done : List Change) (v : List ℕ) (task : TaskValue) → AreApart u done → (u ≡ v → ⊥) → AreApart u (done ++ change_to v task ∷ [])
  one_more done v task so_far apart = both_leave (λ o. ⊥) u done (change_to v task ∷ []) so_far (apart, tt)

  drawn_spares : (ids : IdWords) (done : List Change) (task : TaskValue) (next : IdWords → List Change → Imports) (taken : Bool) → is_taken old.tasks done (drawn ids) ≡ taken
      → AreApart u done → ((left : IdWords) (more : List Change) → AreApart u more → ImportsSpare (next left more))
      → ImportsSpare (cond taken (stopped (drawn ids) (after_draw ids)) (next (after_draw ids) (done ++ change_to (drawn ids) task ∷ [])))
  drawn_spares ids done task next true taken so_far on = tt
  drawn_spares ids done task next false free so_far on =
      let none : get old.tasks (drawn ids) ≡ None = no_task (get old.tasks (drawn ids)) (neither (is_some (get old.tasks (drawn ids))) (is_changed done (drawn ids)) free).0 in
      on (after_draw ids) (done ++ change_to (drawn ids) task ∷ []) (one_more done (drawn ids) task so_far (not_new old.tasks u before there (drawn ids) none))

  one_import : (o : Option (List ℕ)) (ids : IdWords) (done : List Change) (task : TaskValue) (next : IdWords → List Change → Imports) → has_uuid u o ≡ false
      → AreApart u done → ((left : IdWords) (more : List Change) → AreApart u more → ImportsSpare (next left more)) → ImportsSpare (import_as o task ids old.tasks done next)
  one_import (Some v) ids done task next apart so_far on = on ids (done ++ change_to v task ∷ []) (one_more done v task so_far (is_apart u v apart))
  one_import None ids done task next apart so_far on = drawn_spares ids done task next (is_taken old.tasks done (drawn ids)) refl so_far on

  imports_spare : (es : List Imported) (ids : IdWords) (done : List Change) → gives es u ≡ false → AreApart u done → ImportsSpare (imports ids old.tasks done es)
  imports_spare [] ids done apart so_far = (so_far, refl)
  imports_spare (e ∷ es) ids done apart so_far =
      let parts = neither (has_uuid u e.uuid) (gives es u) apart in
      one_import e.uuid ids done e.map (λ left more. imports left old.tasks more es) parts.0 so_far (λ left more each. imports_spare es left more parts.1 each)

  import_spares : (elements : List Imported) (ids : IdWords) → import_of request.input request.at.seconds ≡ Ok elements → gives elements u ≡ false → PlanSpares (plan_by command.Import request ids old)
  import_spares elements ids reads apart = subst (λ (read : Result (List Imported) ImportError). ImportsSpare (imports_by ids old.tasks read)) (sym reads) (imports_spare elements ids [] apart tt)

-- ---- the tasks after it

module _ (request : Request) (old : State) (u : List ℕ) (before : TaskValue) (there : get old.tasks u ≡ Some before) (P : Option TaskValue → Type 0) (first : P (Some before)) where
  abbrev WorkLeaves : Work → Type 0
  WorkLeaves (Changes renumber changes marks) = EachLeaves P u (changes ++ mask_changes request.at (changed_all old.tasks changes) marks)
  WorkLeaves TakeBack = ⊥

  abbrev PlanLeaves : Result Plan Refusal → Type 0
  PlanLeaves (Err refusal) = Unit {0}
  PlanLeaves (Ok plan) = WorkLeaves plan.work

  alone : (changes : List Change) → EachLeaves P u changes → EachLeaves P u (changes ++ mask_changes request.at (changed_all old.tasks changes) [])
  alone changes each = both_leave P u changes (mask_changes request.at (changed_all old.tasks changes) []) each (no_masks P u request.at (changed_all old.tasks changes))

  -- a plan that spares the task leaves it so, whatever hooks answer
  spared_work : (answers : List TaskValue) (work : Work) → WorkSpares request old u before there work → WorkLeaves (answered_work answers old.tasks work)
  spared_work answers (Changes renumber changes marks) spares =
      let made : List Change = answered_all answers old.tasks changes in
      both_leave P u made (mask_changes request.at (changed_all old.tasks made) marks) (answered_leave P u answers old.tasks changes spares.0)
      (subst (λ (m : List Mark). EachLeaves P u (mask_changes request.at (changed_all old.tasks made) m)) (sym spares.1) (no_masks P u request.at (changed_all old.tasks made)))
  spared_work answers TakeBack spares = absurd spares

  spared_leaves : (answers : List TaskValue) (planned : Result Plan Refusal) → PlanSpares request old u before there planned → PlanLeaves (answered_with answers old.tasks planned)
  spared_leaves [] (Err refusal) spares = tt
  spared_leaves (answer ∷ answers) (Err refusal) spares = tt
  spared_leaves answers (Ok plan) spares = subst PlanLeaves (sym (answered_is answers old.tasks plan)) (spared_work answers plan.work spares)

  -- reports

  module _ (masked : (mask : List ℕ) (now : ℕ) → P (Some (with_mask before mask now))) where
    report_leaves : (r : AnyReport) → PlanLeaves (Ok (reporting r request old))
    report_leaves r = alone (instances_in request old) (reporting_leaves request old u before there P (λ mask longer. masked mask request.at.seconds))

    reports_leave : (c : Command) (ids : IdWords) → is_report c ≡ true → PlanLeaves (plan_by c request ids old)
    reports_leave command.List ids is = report_leaves report.List
    reports_leave command.Next ids is = report_leaves report.Next
    reports_leave command.All ids is = report_leaves report.All
    reports_leave command.Completed ids is = report_leaves report.Completed
    reports_leave command.Waiting ids is = report_leaves report.Waiting
    reports_leave command.Blocked ids is = report_leaves report.Blocked
    reports_leave command.Add ids is = absurd cc
    reports_leave command.Log ids is = absurd cc
    reports_leave command.Modify ids is = absurd cc
    reports_leave command.Append ids is = absurd cc
    reports_leave command.Prepend ids is = absurd cc
    reports_leave command.Annotate ids is = absurd cc
    reports_leave command.Denotate ids is = absurd cc
    reports_leave command.Done ids is = absurd cc
    reports_leave command.Delete ids is = absurd cc
    reports_leave command.Purge ids is = absurd cc
    reports_leave command.Start ids is = absurd cc
    reports_leave command.Stop ids is = absurd cc
    reports_leave command.Duplicate ids is = absurd cc
    reports_leave command.Undo ids is = absurd cc
    reports_leave command.Import ids is = absurd cc
    reports_leave command.Count ids is = absurd cc
    reports_leave command.Ids ids is = absurd cc
    reports_leave command.Uuids ids is = absurd cc
    reports_leave command.Export ids is = absurd cc
    reports_leave command.Information ids is = absurd cc
    reports_leave command.Projects ids is = absurd cc
    reports_leave command.Tags ids is = absurd cc

  -- what is carried out

  named_spares : (o : Option BadWord) (planned : Result Plan Refusal) → PlanSpares request old u before there planned → PlanSpares request old u before there (unless_bad o planned)
  named_spares None planned spares = spares
  named_spares (Some bad) planned spares = tt

  named_leaves : (o : Option BadWord) (planned : Result Plan Refusal) → PlanLeaves planned → PlanLeaves (unless_bad o planned)
  named_leaves None planned leaves = leaves
  named_leaves (Some bad) planned leaves = tt

  work_leaves : (work : Work) (new : State) → WorkLeaves work → applied old (step_in request.at old work) ≡ Some new → P (get new.tasks u)
  work_leaves (Changes renumber changes marks) new leaves applies =
      let all : List Change = changes ++ mask_changes request.at (changed_all old.tasks changes) marks in
      subst (λ (t : TasksValue). P (get t u)) (sym (tasks_are renumber all request.at old new applies)) (left_so P u all old.tasks leaves (subst P (sym there) first))
  work_leaves TakeBack new leaves applies = absurd leaves

  by_planned : (planned : Result Plan Refusal) (c : Carried) → PlanLeaves planned → carried_by request old planned ≡ Ok c → P (get c.new.tasks u)
  by_planned (Err refusal) c leaves e = absurd cc
  by_planned (Ok plan) c leaves e = work_leaves plan.work c.new leaves (by_plan request old plan c e)

  carried_leaves : (ids : IdWords) (c : Carried) → PlanLeaves (plan_by request.command request ids old) → carried_by request old (plan_of request ids old) ≡ Ok c → P (get c.new.tasks u)
  carried_leaves ids c leaves carried =
      by_planned (plan_of request ids old) c (named_leaves (first_bad (scene_in request old) request.line) (plan_by request.command request ids old) leaves) carried

  carried_spares : (ids : IdWords) (answers : List TaskValue) (c : Carried) → PlanSpares request old u before there (plan_by request.command request ids old) → IsCarriedOut request ids answers old c
      → P (get c.new.tasks u)
  carried_spares ids answers c spares carried =
      by_planned (answered_with answers old.tasks (plan_of request ids old)) c
      (spared_leaves answers (plan_of request ids old) (named_spares (first_bad (scene_in request old) request.line) (plan_by request.command request ids old) spares)) carried

-- ---- the laws

pub makers_change_none : MakersChangeNone
makers_change_none request ids answers old c u task carried makes_some there =
    carried_spares request old u task there (λ (o : Option TaskValue). o ≡ Some task) refl ids answers c (makers_spare request old u task there request.command ids makes_some) carried

pub imports_change_theirs : ImportsChangeWhatTheyGive
imports_change_theirs request ids answers old c elements u task carried is reads apart there =
    carried_spares request old u task there (λ (o : Option TaskValue). o ≡ Some task) refl ids answers c
    (subst (λ (k : Command). PlanSpares request old u task there (plan_by k request ids old)) (sym is) (import_spares request old u task there elements ids reads apart)) carried

masked_same : (task : TaskValue) (mask : List ℕ) (now : ℕ) → IsSameButMask (Some task) (Some (with_mask task mask now))
masked_same task mask now = record {
  there = refl;
  others = λ p not_mask not_moved.
      get-set_at_apart (insert task (codes "mask") mask) (codes "modified") (Some (decimal now)) p not_moved ∙ get-set_at_apart task (codes "mask") (Some mask) p not_mask;
}

-- a report asks nothing
no_event : (c : Command) → is_report c ≡ true → event_of c ≡ None
no_event command.Add is = absurd cc
no_event command.Log is = absurd cc
no_event command.Modify is = absurd cc
no_event command.Append is = absurd cc
no_event command.Prepend is = absurd cc
no_event command.Annotate is = absurd cc
no_event command.Denotate is = absurd cc
no_event command.Done is = absurd cc
no_event command.Delete is = absurd cc
no_event command.Purge is = absurd cc
no_event command.Start is = absurd cc
no_event command.Stop is = absurd cc
no_event command.Duplicate is = absurd cc
no_event command.Import is = absurd cc
no_event command.Undo is = absurd cc
no_event command.Count is = absurd cc
no_event command.Ids is = absurd cc
no_event command.Uuids is = absurd cc
no_event command.Export is = absurd cc
no_event command.Information is = absurd cc
no_event command.Projects is = absurd cc
no_event command.Tags is = absurd cc
no_event command.List is = refl
no_event command.Next is = refl
no_event command.All is = refl
no_event command.Completed is = refl
no_event command.Waiting is = refl
no_event command.Blocked is = refl

either_none : (on : Bool) (event : Option Event) → event ≡ None → cond on event None ≡ None
either_none true event none = none
either_none false event none = refl

none_asked : (request : Request) (old : State) (planned : Result Plan Refusal) → event_in request ≡ None → asked_by request old planned ≡ []
none_asked request old (Err refusal) none = refl
none_asked request old (Ok plan) none = ap (λ (event : Option Event). asked_at event old.tasks plan.work) none

unanswered : (request : Request) (ids : IdWords) (old : State) (answers : List TaskValue) → AreAnswers request ids old answers → is_report request.command ≡ true → answers ≡ []
unanswered request ids old answers as_many reports =
    let none = either_none (is_set_on (codes "hooks") request.settings) (event_of request.command) (no_event request.command reports) in
    nil_from_length answers (as_many ∙ ap length (none_asked request old (plan_of request ids old) none))

pub reports_change_masks : ReportsChangeMasks
reports_change_masks request ids answers old c u task answered as_many reports there =
    let carried : IsCarriedOut request ids [] old c = subst (λ (l : List TaskValue). IsCarriedOut request ids l old c) (unanswered request ids old answers as_many reports) answered in
    let P = λ (o : Option TaskValue). IsSameButMask (Some task) o in
    let same : IsSameButMask (Some task) (Some task) = record { there = refl; others = λ p mask moved. refl } in
    carried_leaves request old u task there P same ids c (reports_leave request old u task there P same (masked_same task) request.command ids reports) carried
