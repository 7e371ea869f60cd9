-- The task of an element, as it is made.
use Rattle.std.specs.Prelude.{◌≡◌, ℕ, ⊤, List, Result, Ok, Err}
use Rattle.tw_import.specs.declared.task_of_fields.NoTask.{NoTask}
use Rattle.tw_import.specs.declared.task_of_fields.NoTask.TheVariants as no_task
use Rattle.tw_import.specs.declared.import.Imported.{Imported}

-- an answer is this task, or this name. No memory says nothing
abbrev pub IsMade : Result Imported NoTask → Result Imported (List ℕ) → Type 0
IsMade (Ok one) made = made ≡ Ok one
IsMade (Err (no_task.Key name)) made = made ≡ Err name
IsMade (Err no_task.Memory) made = ⊤
