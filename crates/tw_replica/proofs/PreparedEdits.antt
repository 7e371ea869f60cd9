-- Changes that were made in memory are a step of the replica.
use Rattle.std.proofs.Common.{◌≡◌, ◌∙◌, ap, refl, sym, subst, Bool, true, false, List, ◌++◌, Some}
use Rattle.std.specs.List.{AllByRecursion}
use Rattle.tw_world.specs.declared.Moment.{Moment}
use Rattle.tw_model.specs.Ops.{TasksValue}
use Rattle.tw_model.specs.declared.Op.{Op}
use Rattle.tw_model.specs.Changes.{changed_all, ops_of_all, group_of}
use Rattle.tw_model.specs.declared.Change.{Change}
use Rattle.tw_model.proofs.Leading.{changed_all-append, ops_of_all-append}
use Rattle.tw_bodies.specs.Body.{IsOp, is_group, IsStep}
use Rattle.tw_bodies.specs.Body.Step.{Commit}
use Rattle.tw_numbers.specs.Numbering.{assigned}
use Rattle.tw_numbers.specs.Assigned.{IsAssignedIn, IsAssignedExcept}
use Rattle.tw_state.specs.State.{is_idle, packed_if, committed, is_sound}
use Rattle.tw_state.specs.Core.{state_of}
use Rattle.tw_replica.specs.Prepared.{IsEditing, ChangedAmong}
use Rattle.tw_state.specs.declared.state.Core.{Core}
use Rattle.tw_replica.specs.declared.step.edit.Editing.{Editing}
use Rattle.tw_replica.specs.declared.replica.Replica.{Replica}
use Rattle.tw_state.proofs.Soundness.{step_sound, held_assigned}
use Rattle.tw_state.proofs.CommittedChanges.{no_ops, changes_are_group, idle_is_committed, changes_are_committed}

-- a step without operations is one of the program
nothing_is : (renumber : Bool) (ops : List Op) → is_idle renumber (group_of ops) ≡ true → is_group (group_of ops) ≡ true → IsStep (Commit renumber (group_of ops))
nothing_is renumber ops idle group = (subst (λ o. AllByRecursion IsOp (group_of o)) (sym (no_ops renumber ops idle)) tt, group)

module _ (old : Replica) (made : List Change) (at : Moment) (editing : Editing) (is : IsEditing old made at editing) where
  pub editing_ready : IsAssignedExcept editing.core.numbers.items editing.core.tasks editing.touched.keys
  editing_ready = record { before = old.core.tasks; assigned = subst (λ ps. IsAssignedIn ps old.core.tasks) (sym is.numbers) (held_assigned old.core old.sound); same = is.among }

  module _ (renumber : Bool) (core : Core) (base : core.base ≡ editing.core.base) (tasks : core.tasks ≡ editing.core.tasks)
      (idle : is_idle renumber (group_of editing.ops.items) ≡ true → core ≡ editing.core)
      (pending : is_idle renumber (group_of editing.ops.items) ≡ false → core.pending ≡ editing.core.pending ++ group_of editing.ops.items)
      (numbers : is_idle renumber (group_of editing.ops.items) ≡ false → IsAssignedExcept editing.core.numbers.items editing.core.tasks editing.touched.keys → core.numbers.items ≡ packed_if renumber (assigned editing.core.numbers.items editing.core.tasks)) where
    -- the operations, as the step has them
    ops_are : group_of editing.ops.items ≡ group_of (ops_of_all old.core.tasks made at)
    ops_are = ap group_of is.ops

    to : core.tasks ≡ changed_all old.core.tasks made
    to = tasks ∙ is.tasks

    places : is_idle renumber (group_of editing.ops.items) ≡ false → core.numbers.items ≡ packed_if renumber (assigned old.core.numbers.items (changed_all old.core.tasks made))
    places busy = numbers busy editing_ready ∙ ap (λ ps. packed_if renumber (assigned ps editing.core.tasks)) is.numbers ∙ ap (λ ts. packed_if renumber (assigned old.core.numbers.items ts)) is.tasks

    pub edited_leads : committed renumber (group_of (ops_of_all old.core.tasks made at)) (state_of old.core) ≡ Some (state_of core)
    edited_leads = by (is_idle renumber (group_of editing.ops.items)) refl
      where
        by : (b : Bool) → is_idle renumber (group_of editing.ops.items) ≡ b → committed renumber (group_of (ops_of_all old.core.tasks made at)) (state_of old.core) ≡ Some (state_of core)
        by true e =
            let same = idle e in
            idle_is_committed renumber made at (state_of old.core) (state_of core) (ap (is_idle renumber) (sym ops_are) ∙ e) (base ∙ is.base) (ap (λ (c : Core). c.pending) same ∙ is.pending) to (ap (λ (c : Core). c.numbers.items) same ∙ is.numbers)
        by false e =
            changes_are_committed renumber made at (state_of old.core) (state_of core) (ap (is_idle renumber) (sym ops_are) ∙ e) (base ∙ is.base)
            (pending e ∙ ap (λ ps. ps ++ group_of editing.ops.items) is.pending ∙ ap (λ ops. old.core.pending ++ ops) ops_are) to (places e)

    pub edited_sound : is_sound (state_of core) ≡ true
    edited_sound = step_sound (Commit renumber (group_of (ops_of_all old.core.tasks made at))) (state_of old.core) (state_of core) (changes_are_group old.core.tasks made at) old.sound edited_leads

    pub edited_is : (is_idle renumber (group_of editing.ops.items) ≡ false → AllByRecursion IsOp (group_of editing.ops.items)) → IsStep (Commit renumber (group_of (ops_of_all old.core.tasks made at)))
    edited_is all = subst (λ ops. IsStep (Commit renumber ops)) ops_are (by (is_idle renumber (group_of editing.ops.items)) refl)
      where
        group : is_group (group_of editing.ops.items) ≡ true
        group = ap is_group ops_are ∙ changes_are_group old.core.tasks made at

        by : (b : Bool) → is_idle renumber (group_of editing.ops.items) ≡ b → IsStep (Commit renumber (group_of editing.ops.items))
        by true e = nothing_is renumber editing.ops.items e group
        by false e = (all e, group)

-- more changes were made
pub made_more : (old : Replica) (made changes : List Change) (at : Moment) (before after : Editing) → after.journal ≡ before.journal → after.core.base ≡ before.core.base → after.core.pending ≡ before.core.pending → after.core.numbers.items ≡ before.core.numbers.items
    → after.core.tasks ≡ changed_all before.core.tasks changes → after.ops.items ≡ before.ops.items ++ ops_of_all before.core.tasks changes at
    → ((first : TasksValue) → ChangedAmong before.touched.keys first before.core.tasks → ChangedAmong after.touched.keys first after.core.tasks) → IsEditing old made at before → IsEditing old (made ++ changes) at after
made_more old made changes at before after journal base pending numbers tasks ops among is = record {
  journal = journal ∙ is.journal;
  base = base ∙ is.base;
  pending = pending ∙ is.pending;
  numbers = numbers ∙ is.numbers;
  tasks = tasks ∙ ap (λ t. changed_all t changes) is.tasks ∙ sym (changed_all-append old.core.tasks made changes);
  ops = ops ∙ ap (λ o. o ++ ops_of_all before.core.tasks changes at) is.ops ∙ ap (λ t. ops_of_all old.core.tasks made at ++ ops_of_all t changes at) is.tasks ∙ sym (ops_of_all-append old.core.tasks made changes at);
  among = among old.core.tasks is.among;
}
