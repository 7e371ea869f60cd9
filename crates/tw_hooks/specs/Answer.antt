-- What a hook is given, and what it answers.
use Rattle.std.specs.Prelude.{ℕ, ◌==◌, nat_le, cond, List, [], ◌∷◌, ◌++◌, length, Option, Some, None, Result, Ok}
use Rattle.tw_model.specs.Maps.{same_bytes}
use Rattle.tw_model.specs.Ops.{TaskValue}
use Rattle.tw_export.specs.Export.{task_text}
use Rattle.tw_import.specs.Import.{import_of}
use Rattle.tw_import.specs.declared.import.Imported.{Imported}
use Rattle.tw_import.specs.declared.import.ImportError.{ImportError}
use Rattle.tw_hooks.specs.declared.event.Event.{Event}
use Rattle.tw_hooks.specs.declared.event.Event.TheVariants.{Add, Modify}

-- the line of a task: its JSON without the urgency, and a newline
abbrev pub line_of : List ℕ → (now : ℕ) → TaskValue → List ℕ
line_of u now task = task_text u task now None ++ 10 ∷ []

-- what a hook is given: the task as it is so far, after the one before if it is changed
abbrev pub given : Event → List ℕ → (now : ℕ) → (before so_far : TaskValue) → List ℕ
given Add u now before so_far = line_of u now so_far
given Modify u now before so_far = line_of u now before ++ line_of u now so_far

-- the bytes up to the first newline, or all
abbrev pub first_line : List ℕ → List ℕ
first_line [] = []
first_line (b ∷ bytes) = cond (b == 10) [] (b ∷ first_line bytes)

-- the task, if it has this uuid
abbrev pub of_uuid : List ℕ → Option (List ℕ) → TaskValue → Option TaskValue
of_uuid u None task = None
of_uuid u (Some v) task = cond (same_bytes v u) (Some task) None

-- the one task that was read, if it has the uuid
abbrev pub only_of : List ℕ → Result (List Imported) ImportError → Option TaskValue
only_of u (Ok (one ∷ [])) = of_uuid u one.uuid one.map
only_of u _ = None

-- most bytes that a hook may write
abbrev pub output_limit : ℕ
output_limit = 16_777_216

-- the task that an output answers: its first line is the one element of an import, and has the uuid
abbrev pub answered : List ℕ → (now : ℕ) → (output : List ℕ) → Option TaskValue
answered u now output = cond (nat_le (length output) output_limit) (only_of u (import_of (91 ∷ first_line output ++ 93 ∷ []) now)) None
