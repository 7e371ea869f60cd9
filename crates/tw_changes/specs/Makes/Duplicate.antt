-- `duplicate`: copies of tasks, each of a drawn uuid.
use Rattle.std.specs.Prelude.{ℕ, ◌||◌, Bool, cond, is_some, List, [], ◌∷◌, Option, Some, None, Result, Ok, Err, codes}
use Rattle.std.specs.FinMap.{get, insert}
use Rattle.tw_world.specs.declared.Moment.{Moment}
use Rattle.tw_world.specs.declared.ids.IdWords.{IdWords}
use Rattle.tw_model.specs.Maps.{set_at}
use Rattle.tw_model.specs.Ops.{TaskValue, TasksValue}
use Rattle.tw_words.specs.Changed.{applied}
use Rattle.tw_words.specs.declared.changes.modification.Modification.{Modification}
use Rattle.tw_changes.specs.Request.{drawn, after_draw}
use Rattle.tw_changes.specs.Makes.{made_task}
use Rattle.tw_changes.specs.declared.refusal.Refusal.{Refusal}
use Rattle.tw_changes.specs.declared.refusal.Refusal.TheVariants.{IdTaken}

-- a task without these properties
abbrev pub without : List (List ℕ) → TaskValue → TaskValue
without [] task = task
without (p ∷ ps) task = without ps (set_at task p None)

-- what a copy does not take over
abbrev pub left_off : List (List ℕ)
left_off = codes "start" ∷ codes "end" ∷ codes "mask" ∷ codes "imask" ∷ codes "parent" ∷ codes "recur" ∷ []

-- a copy of a task, made at this moment
abbrev pub copied : List Modification → Moment → TaskValue → TaskValue
copied ms now task = applied ms (made_task now (codes "pending") (without left_off task))

-- the copies that were made, or why there are none, and the identifiers that are left
pub record Copies : Type 0 where
  pub made : Result TasksValue Refusal
  pub ids : IdWords

-- a uuid has a task already, or was drawn before
abbrev pub is_taken : (tasks made : TasksValue) → List ℕ → Bool
is_taken tasks made u = is_some (get tasks u) || is_some (get made u)

-- no copies, since this uuid is taken
abbrev pub stopped : List ℕ → IdWords → Copies
stopped u ids = record { made = Err (IdTaken u); ids = ids }

abbrev pub where_there : Option TaskValue → (TaskValue → Copies) → Copies → Copies
where_there None then other = other
where_there (Some task) then other = then task

-- the copies of the tasks of these uuids, each with the next uuid that is drawn, beside those that are made
abbrev pub copies_of : (copy : TaskValue → TaskValue) → IdWords → (tasks made : TasksValue) → List (List ℕ) → Copies
copies_of copy ids tasks made [] = record { made = Ok made; ids = ids }
copies_of copy ids tasks made (u ∷ us) =
    where_there (get tasks u)
    (λ task. cond (is_taken tasks made (drawn ids)) (stopped (drawn ids) (after_draw ids))
    (copies_of copy (after_draw ids) tasks (insert made (drawn ids) (copy task)) us))
    (copies_of copy ids tasks made us)

-- the same of modifications
abbrev pub copies_beside : List Modification → Moment → IdWords → (tasks made : TasksValue) → List (List ℕ) → Copies
copies_beside ms now ids tasks made us = copies_of (copied ms now) ids tasks made us

-- copies, or the uuid that was drawn for one and is taken
abbrev pub taken_or : Result TasksValue (List ℕ) → Result TasksValue Refusal
taken_or (Ok made) = Ok made
taken_or (Err u) = Err (IdTaken u)

abbrev pub copies_view : Result TasksValue (List ℕ) → IdWords → Copies
copies_view made ids = record { made = taken_or made; ids = ids }
