-- What the instances that a report makes leave at the uuid of a task.
use Rattle.std.proofs.Common.{◌≡◌, ◌∙◌, ap, sym, refl, subst, ℕ, Bool, true, false, cond, List, [], ◌∷◌, ◌++◌, length, Option, Some, None, codes}
use Rattle.std.specs.Prelude.{nat_lt, chars}
use Rattle.std.proofs.lemmas.Option.{same_Some}
use Rattle.std.specs.FinMap.{get, empty, entries}
use Rattle.tw_model.specs.Ops.{TaskValue}
use Rattle.tw_model.specs.declared.Change.{Change}
use Rattle.tw_numbers.proofs.FirstPlaces.{AreFound, entries_found}
use Rattle.tw_recur.specs.Recurrence.{recurrence_of, mask_of}
use Rattle.tw_recur.specs.Instances.{Asked, Making, grown, with_mask, mask_change as grown_change, with_recurrence, with_parent, with_parents, made_changes, instance_changes}
use Rattle.tw_recur.proofs.Once.{making_step}
use Rattle.tw_state.specs.State.{State}
use Rattle.tw_settings.specs.Switches.{is_set_on, recurrence_limit}
use Rattle.tw_commands.specs.Reports.{instances_in}
use Rattle.tw_changes.specs.declared.request.Request.{Request}
use Rattle.tw_commands.proofs.WhatChangesLeave.{EachLeaves, both_leave, instances_leave}

module _ (request : Request) (old : State) (u : List ℕ) (before : TaskValue) (there : get old.tasks u ≡ Some before) (P : Option TaskValue → Type 0)
    (masked : (mask : List ℕ) → nat_lt (length (mask_of before)) (length mask) ≡ true → P (Some (with_mask before mask request.at.seconds))) where
  parent_leaves : (e : List ℕ × TaskValue) → get old.tasks e.0 ≡ Some e.1 → (mask : List ℕ) (parents : List Change) → EachLeaves P u parents
      → EachLeaves P u (parents ++ grown_change e.0 e.1 request.at.seconds mask)
  parent_leaves e found mask parents so_far = both_leave P u parents (grown_change e.0 e.1 request.at.seconds mask) so_far (by (nat_lt (length (mask_of e.1)) (length mask)) refl)
    where
      by : (b : Bool) → nat_lt (length (mask_of e.1)) (length mask) ≡ b → EachLeaves P u (cond b (record { uuid = e.0; task = Some (with_mask e.1 mask request.at.seconds) } ∷ []) [])
      by false shorter = tt
      by true longer = (
        λ same.
            let one : before ≡ e.1 = same_Some before e.1 (sym there ∙ ap (get old.tasks) same ∙ found) in
            subst (λ (t : TaskValue). P (Some (with_mask t mask request.at.seconds))) one
            (masked mask (ap (λ (t : TaskValue). nat_lt (length (mask_of t)) (length mask)) one ∙ longer)),
        tt,
      )

  module _ (a : Asked) (at : request.at.seconds ≡ a.now) where
    grown_leaves : (e : List ℕ × TaskValue) → get old.tasks e.0 ≡ Some e.1 → (m : Making) → EachLeaves P u m.parents → EachLeaves P u (with_parent a e.0 e.1 m).parents
    unfolding with_parent
    grown_leaves e found m so_far =
        elim (recurrence_of e.1) as (λ r. EachLeaves P u (with_recurrence a e.0 e.1 m r).parents) [
          | None ↦ so_far
          | Some r ↦
              let mask : List ℕ = (grown a e.0 e.1 r (length (chars (mask_of e.1))) 1000 (record { made = m.made; mask = mask_of e.1 })).mask in
              subst (λ (now : ℕ). EachLeaves P u (m.parents ++ grown_change e.0 e.1 now mask)) at (parent_leaves e found mask m.parents so_far)
        ]

    parents_leave : (es : List (List ℕ × TaskValue)) (m : Making) → AreFound old.tasks es → EachLeaves P u m.parents → EachLeaves P u (with_parents a m es).parents
    parents_leave [] m found so_far = so_far
    parents_leave (e ∷ es) m found so_far = parents_leave es (with_parent a e.0 e.1 m) found.1 (grown_leaves e found.0 m so_far)

  abbrev asking : Asked
  asking = record { tasks = old.tasks; zone = request.zone.now; now = request.at.seconds; limit = recurrence_limit request.settings }

  grows_leave : EachLeaves P u (instance_changes old.tasks request.at.seconds request.zone.now (recurrence_limit request.settings))
  unfolding instance_changes
  grows_leave =
      let grows : Making = with_parents asking (record { made = empty; parents = [] }) (entries old.tasks) in
      both_leave P u (made_changes (entries grows.made)) grows.parents
      (instances_leave old.tasks u before there P grows.made (entries grows.made) (making_step asking).new (entries_found grows.made))
      (parents_leave asking refl (entries old.tasks) (record { made = empty; parents = [] }) (entries_found old.tasks) tt)

  pub reporting_leaves : EachLeaves P u (instances_in request old)
  reporting_leaves = by (is_set_on (codes "recurrence") request.settings)
    where
      by : (on : Bool) → EachLeaves P u (cond on (instance_changes old.tasks request.at.seconds request.zone.now (recurrence_limit request.settings)) [])
      by true = grows_leave
      by false = tt
