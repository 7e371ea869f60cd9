-- Copies of tasks, one after another.
use Rattle.std.proofs.Common.{◌≡◌, ◌∙◌, ap, ℕ, Bool, true, false, cond, List, ◌∷◌, Some}
use Rattle.std.specs.FinMap.{get, insert}
use Rattle.tw_world.specs.declared.ids.IdWords.{IdWords}
use Rattle.tw_model.specs.Ops.{TaskValue, TasksValue}
use Rattle.tw_changes.specs.Request.{drawn, after_draw}
use Rattle.tw_changes.specs.Makes.Duplicate.{Copies, is_taken, stopped, where_there, copies_of}

module _ (copy : TaskValue → TaskValue) (ids : IdWords) (tasks made : TasksValue) (u : List ℕ) (task : TaskValue) (there : get tasks u ≡ Some task) (us : List (List ℕ)) where
  chosen : TaskValue → Bool → Copies
  chosen t taken = cond taken (stopped (drawn ids) (after_draw ids)) (copies_of copy (after_draw ids) tasks (insert made (drawn ids) (copy t)) us)

  one : copies_of copy ids tasks made (u ∷ us) ≡ chosen task (is_taken tasks made (drawn ids))
  unfolding chosen
  one = ap (λ o. where_there o (λ t. chosen t (is_taken tasks made (drawn ids))) (copies_of copy ids tasks made us)) there

  pub copied_one : is_taken tasks made (drawn ids) ≡ false → copies_of copy ids tasks made (u ∷ us) ≡ copies_of copy (after_draw ids) tasks (insert made (drawn ids) (copy task)) us
  unfolding chosen
  copied_one free = one ∙ ap (chosen task) free

  pub stopped_one : is_taken tasks made (drawn ids) ≡ true → copies_of copy ids tasks made (u ∷ us) ≡ stopped (drawn ids) (after_draw ids)
  unfolding chosen
  stopped_one taken = one ∙ ap (chosen task) taken
