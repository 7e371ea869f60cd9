-- The parents of instances that are done or deleted: each gets a sign in its mask, task(1), under "recur".
use Rattle.std.specs.Prelude.{◌≡◌, ℕ, true, is_some, List, [], ◌∷◌, ◌++◌, map, set, chars, encode_utf8_all, Option, Some, None, codes}
use Rattle.std.specs.List.{AllByRecursion}
use Rattle.std.specs.FinMap.{get, insert, empty, entries}
use Rattle.std.specs.Global.{Vec}
use lib.Utf8.{scalars}
use Rattle.uuid.specs.Text.{parsed}
use Rattle.tw_world.specs.declared.Moment.{Moment}
use Rattle.tw_text.specs.Natural.{natural}
use Rattle.tw_model.specs.Ops.{TaskValue, TasksValue}
use Rattle.tw_model.specs.declared.changes.Change.{Change}
use Rattle.tw_words.specs.declared.command.Command.{Command}
use Rattle.tw_words.specs.declared.command.Command.TheVariants as command
use Rattle.tw_changes.specs.Stamps.{stamped}
use Rattle.tw_changes.specs.declared.marks.Mark.{Mark}
use Rattle.tw_changes.specs.declared.marks.Sign.{Sign}
use Rattle.tw_changes.specs.declared.marks.Sign.TheVariants.{Completed, Deleted}

-- ---- a mask

-- the character of a sign: `+` for an instance that is done, and `X` for one that is deleted
abbrev pub code_of : Sign → ℕ
code_of Completed = 43
code_of Deleted = 88

-- a mask with a sign at an index, if it is that long
abbrev pub with_sign : (index : ℕ) → Sign → List ℕ → List ℕ
with_sign index sign mask = encode_utf8_all (set (chars mask) index (code_of sign))

abbrev pub with_mark_in : Mark → TaskValue → Option (List ℕ) → TaskValue
with_mark_in mark task None = task
with_mark_in mark task (Some mask) = insert task (codes "mask") (with_sign mark.index mark.sign mask)

-- a task with a mark in its mask
abbrev pub with_mark : Mark → TaskValue → TaskValue
with_mark mark task = with_mark_in mark task (get task (codes "mask"))

-- ---- the marks of a command

abbrev pub mark_on : Sign → Option (List ℕ) → Option ℕ → List Mark
mark_on sign (Some parent) (Some index) = record { parent = parent; index = index; sign = sign } ∷ []
mark_on sign _ _ = []

abbrev pub number_in : Option (List ℕ) → Option ℕ
number_in None = None
number_in (Some text) = natural text

abbrev pub uuid_in : Option (List ℕ) → Option (List ℕ)
uuid_in None = None
uuid_in (Some text) = parsed text

-- the mark that an instance leaves at its parent
abbrev pub mark_by : Sign → Option TaskValue → List Mark
mark_by sign None = []
mark_by sign (Some task) = mark_on sign (uuid_in (get task (codes "parent"))) (number_in (get task (codes "imask")))

-- the marks of the tasks that are changed
abbrev pub marks_by : Sign → TasksValue → List Change → List Mark
marks_by sign tasks [] = []
marks_by sign tasks (change ∷ changes) = mark_by sign (get tasks change.uuid) ++ marks_by sign tasks changes

abbrev pub marks_with : Option Sign → TasksValue → List Change → List Mark
marks_with None tasks changes = []
marks_with (Some sign) tasks changes = marks_by sign tasks changes

-- the sign that a command leaves
abbrev pub sign_of : Command → Option Sign
sign_of command.Done = Some Completed
sign_of command.Delete = Some Deleted
sign_of _ = None

-- the marks of a command that changes these tasks
abbrev pub marks_of : Command → TasksValue → List Change → List Mark
marks_of command tasks changes = marks_with (sign_of command) tasks changes

-- ---- the parents

-- the first of two tasks that is there
abbrev pub first_there : Option TaskValue → Option TaskValue → Option TaskValue
first_there None other = other
first_there (Some task) other = Some task

abbrev pub put_marked : TasksValue → Mark → Option TaskValue → TasksValue
put_marked marked mark None = marked
put_marked marked mark (Some task) = insert marked mark.parent (with_mark mark task)

-- the parents that are marked, with a further mark
abbrev pub mark_one : (tasks marked : TasksValue) → Mark → TasksValue
mark_one tasks marked mark = put_marked marked mark (first_there (get marked mark.parent) (get tasks mark.parent))

abbrev pub mark_all : (tasks marked : TasksValue) → List Mark → TasksValue
mark_all tasks marked [] = marked
mark_all tasks marked (mark ∷ marks) = mark_all tasks (mark_one tasks marked mark) marks

abbrev pub stamped_from : Moment → Option TaskValue → TaskValue → TaskValue
stamped_from now None after = after
stamped_from now (Some before) after = stamped now before after

abbrev pub mask_change : Moment → TasksValue → List ℕ × TaskValue → Change
mask_change now tasks entry = record { uuid = entry.0; task = Some (stamped_from now (get tasks entry.0) entry.1) }

-- the changes of the parents, in byte order of their uuids
abbrev pub mask_changes : Moment → TasksValue → List Mark → List Change
mask_changes now tasks marks = map (mask_change now tasks) (entries (mark_all tasks empty marks))

-- ---- the same, as it is held: each mask is read once

-- the signs in the mask of a task
abbrev pub signs_in : Option (List ℕ) → List ℕ
signs_in None = []
signs_in (Some mask) = chars mask

abbrev pub signs_of : TaskValue → List ℕ
signs_of task = signs_in (get task (codes "mask"))

-- the signs that are held, or else those in the mask of a task
abbrev pub signs_or : Option (Vec ℕ) → TaskValue → List ℕ
signs_or None task = signs_of task
signs_or (Some signs) task = signs.items

abbrev pub with_signs_in : (signs : List ℕ) → TaskValue → Option (List ℕ) → TaskValue
with_signs_in signs task None = task
with_signs_in signs task (Some mask) = insert task (codes "mask") (encode_utf8_all signs)

-- a task with these signs for its mask, if it has one
abbrev pub with_signs : (signs : List ℕ) → TaskValue → TaskValue
with_signs signs task = with_signs_in signs task (get task (codes "mask"))

abbrev pub held_by : (signs : List ℕ) → Option TaskValue → TaskValue
held_by signs None = empty
held_by signs (Some task) = with_signs signs task

-- a parent with the signs that are held for it
abbrev pub held_task : TasksValue → List ℕ × Vec ℕ → List ℕ × TaskValue
held_task tasks e = (e.0, held_by e.1.items (get tasks e.0))

-- signs are held for a task that is there
abbrev pub IsHeld : TasksValue → List ℕ × Vec ℕ → Type 0
IsHeld tasks e = (is_some (get tasks e.0) ≡ true) × (scalars e.1.items ≡ true)

-- the signs that are held make these marked tasks
pub record AreHeld (tasks marked : TasksValue) (held : List (List ℕ × Vec ℕ)) : Type 0 where
  pub same : entries marked ≡ map (held_task tasks) held
  pub each : AllByRecursion (IsHeld tasks) held

-- the change of a parent, by the signs that are held for it
abbrev pub held_change : Moment → List ℕ → (signs : List ℕ) → Option TaskValue → List Change
held_change now u signs None = []
held_change now u signs (Some before) = record { uuid = u; task = Some (stamped now before (with_signs signs before)) } ∷ []

abbrev pub held_changes : Moment → TasksValue → List (List ℕ × Vec ℕ) → List Change
held_changes now tasks [] = []
held_changes now tasks (e ∷ es) = held_change now e.0 e.1.items (get tasks e.0) ++ held_changes now tasks es
