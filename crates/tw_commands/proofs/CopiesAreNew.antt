-- The copies of tasks have uuids that had no task.
use Rattle.std.proofs.Common.{◌≡◌, ◌∙◌, ap, sym, refl, ℕ, ◌||◌, Bool, true, false, cond, List, [], ◌∷◌, Option, Some, None, Result, Ok, Err, is_some}
use Rattle.std.specs.FinMap.{get, insert, empty, get-empty}
use Rattle.tw_world.specs.declared.ids.IdWords.{IdWords}
use Rattle.tw_model.specs.Maps.{bytes_cmp, same_bytes}
use Rattle.tw_model.specs.Ops.{TaskValue, TasksValue}
use Rattle.tw_model.proofs.Maps.{same_bytes_exact, get-set_at_apart}
use Rattle.tw_recur.proofs.Once.{IsNew}
use Rattle.tw_state.specs.State.{State}
use Rattle.tw_changes.specs.Request.{drawn, after_draw}
use Rattle.tw_changes.specs.Makes.Duplicate.{Copies, is_taken, stopped, where_there, copies_of}
use Rattle.tw_changes.specs.declared.refusal.Refusal.{Refusal}
use Rattle.tw_commands.proofs.WhatChangesLeave.{no_task}

module _ (old : State) where
  abbrev pub AreNew : Result TasksValue Refusal → Type 0
  AreNew (Ok made) = IsNew old.tasks made
  AreNew (Err refusal) = Unit {0}

  free : (a b : Bool) → (a || b) ≡ false → a ≡ false
  free true b e = e
  free false b e = refl

  one_more : (made : TasksValue) (v : List ℕ) (task : TaskValue) → get old.tasks v ≡ None → IsNew old.tasks made → IsNew old.tasks (insert made v task)
  one_more made v task none new = λ w is. by w is (same_bytes w v) refl
    where
      by : (w : List ℕ) → is_some (get (insert made v task) w) ≡ true → (b : Bool) → same_bytes w v ≡ b → get old.tasks w ≡ None
      by w is true same = ap (get old.tasks) (same_bytes_exact w v same) ∙ none
      by w is false apart = new w (ap is_some (sym (get-set_at_apart made v (Some task) w apart)) ∙ is)

  module _ (copy : TaskValue → TaskValue) (us : List (List ℕ)) (next : (ids : IdWords) (made : TasksValue) → IsNew old.tasks made → AreNew (copies_of copy ids old.tasks made us).made) where
    abbrev one_drawn : IdWords → TasksValue → TaskValue → Bool → Copies
    one_drawn ids made task b = cond b (stopped (drawn ids) (after_draw ids)) (copies_of copy (after_draw ids) old.tasks (insert made (drawn ids) (copy task)) us)

    drawn_new : (ids : IdWords) (made : TasksValue) (task : TaskValue) (b : Bool) → is_taken old.tasks made (drawn ids) ≡ b → IsNew old.tasks made → AreNew (one_drawn ids made task b).made
    drawn_new ids made task true taken new = tt
    drawn_new ids made task false fresh new =
        next (after_draw ids) (insert made (drawn ids) (copy task))
        (one_more made (drawn ids) (copy task) (no_task (get old.tasks (drawn ids)) (free (is_some (get old.tasks (drawn ids))) (is_some (get made (drawn ids))) fresh)) new)

    copy_new : (ids : IdWords) (made : TasksValue) (o : Option TaskValue) → IsNew old.tasks made
        → AreNew (where_there o (λ task. one_drawn ids made task (is_taken old.tasks made (drawn ids))) (copies_of copy ids old.tasks made us)).made
    copy_new ids made None new = next ids made new
    copy_new ids made (Some task) new = drawn_new ids made task (is_taken old.tasks made (drawn ids)) refl new

  pub copies_new : (copy : TaskValue → TaskValue) (us : List (List ℕ)) (ids : IdWords) (made : TasksValue) → IsNew old.tasks made → AreNew (copies_of copy ids old.tasks made us).made
  copies_new copy [] ids made new = new
  copies_new copy (v ∷ us) ids made new = copy_new copy us (copies_new copy us) ids made (get old.tasks v) new

  pub nothing_new : IsNew old.tasks empty
  nothing_new v is = absurd (let no : is_some (get {X = TaskValue} {R = bytes_cmp} empty v) ≡ false = ap is_some (get-empty bytes_cmp v) in cc)
