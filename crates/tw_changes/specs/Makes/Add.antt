-- `add` and `log`: the task that they make.
use Rattle.std.specs.Prelude.{List, Bool, cond, is_some, codes}
use Rattle.std.specs.Fmt.{decimal}
use Rattle.std.specs.FinMap.{get, insert, empty}
use Rattle.tw_world.specs.declared.Moment.{Moment}
use Rattle.tw_model.specs.Ops.{TaskValue}
use Rattle.tw_words.specs.Changed.{applied}
use Rattle.tw_words.specs.declared.changes.modification.Modification.{Modification}
use Rattle.tw_changes.specs.Makes.{made_task}

-- whether a task recurs
abbrev pub recurs : TaskValue → Bool
recurs task = is_some (get task (codes "recur"))

-- a task that recurs is a template
abbrev pub as_template : TaskValue → TaskValue
as_template task = cond (recurs task) (insert task (codes "status") (codes "recurring")) task

-- the task that `add` makes: a pending one, or a template
abbrev pub added : List Modification → Moment → TaskValue
added ms now = as_template (applied ms (made_task now (codes "pending") empty))

-- the task that `log` makes: a completed one
abbrev pub logged : List Modification → Moment → TaskValue
logged ms now = applied ms (insert (made_task now (codes "completed") empty) (codes "end") (decimal now.seconds))
