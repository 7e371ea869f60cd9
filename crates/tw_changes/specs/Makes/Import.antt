-- `import`: each element of the input acts on what those before it leave.
use Rattle.std.specs.Prelude.{ℕ, ◌||◌, Bool, cond, is_some, List, [], ◌∷◌, ◌++◌, Option, Some, None, Result, Ok, Err}
use Rattle.std.specs.List.{list_any}
use Rattle.std.specs.FinMap.{get}
use Rattle.std.specs.Global.{Vec}
use Rattle.tw_world.specs.declared.ids.IdWords.{IdWords}
use Rattle.tw_model.specs.Maps.{same_bytes}
use Rattle.tw_model.specs.Ops.{TaskValue, TasksValue}
use Rattle.tw_model.specs.declared.changes.Change.{Change}
use Rattle.tw_import.specs.Import.{import_of}
use Rattle.tw_import.specs.declared.import.Imported.{Imported}
use Rattle.tw_import.specs.declared.import.ImportError.{ImportError}
use Rattle.tw_import.specs.declared.import.ImportError.TheVariants.{Task}
use Rattle.tw_changes.specs.Request.{drawn, after_draw}
use Rattle.tw_changes.specs.declared.request.Request.{Request}
use Rattle.tw_changes.specs.declared.refusal.Refusal.{Refusal}
use Rattle.tw_changes.specs.declared.refusal.Refusal.TheVariants.{IdTaken, BadInput}

-- the changes of elements, or why there are none, and the identifiers that are left
pub record Imports : Type 0 where
  pub changes : Result (List Change) Refusal
  pub ids : IdWords

-- the task of a uuid becomes exactly this one
abbrev pub change_to : List ℕ → TaskValue → Change
change_to u task = record { uuid = u; task = Some task }

-- whether one of these changes is of the task of a uuid
abbrev pub is_changed : List Change → List ℕ → Bool
is_changed changes u = list_any (λ (change : Change). same_bytes u change.uuid) changes

-- a uuid has a task already, or an element before has it
abbrev pub is_taken : TasksValue → (before : List Change) → List ℕ → Bool
is_taken tasks before u = is_some (get tasks u) || is_changed before u

-- no changes, since this uuid was drawn and is taken
abbrev pub stopped : List ℕ → IdWords → Imports
stopped u ids = record { changes = Err (IdTaken u); ids = ids }

-- an element after changes, with its uuid or one that is drawn for it, and then what follows
abbrev pub import_as : Option (List ℕ) → TaskValue → IdWords → TasksValue → (before : List Change) → (IdWords → List Change → Imports) → Imports
import_as (Some u) task ids tasks before next = next ids (before ++ change_to u task ∷ [])
import_as None task ids tasks before next =
    cond (is_taken tasks before (drawn ids)) (stopped (drawn ids) (after_draw ids)) (next (after_draw ids) (before ++ change_to (drawn ids) task ∷ []))

-- the changes of elements, after those of the elements before them
abbrev pub imports : IdWords → TasksValue → (before : List Change) → List Imported → Imports
imports ids tasks before [] = record { changes = Ok before; ids = ids }
imports ids tasks before (e ∷ es) = import_as e.uuid e.map ids tasks before (λ left more. imports left tasks more es)

-- an input that is no JSON array has no element, and is named as its first one
abbrev pub bad_input : ImportError → Refusal
bad_input (Task index name) = BadInput index name
bad_input _ = BadInput 0 []

abbrev pub imports_by : IdWords → TasksValue → Result (List Imported) ImportError → Imports
imports_by ids tasks (Err e) = record { changes = Err (bad_input e); ids = ids }
imports_by ids tasks (Ok elements) = imports ids tasks [] elements

-- the changes of the elements of a request's input
abbrev pub imports_in : Request → IdWords → TasksValue → Imports
imports_in request ids tasks = imports_by ids tasks (import_of request.input request.at.seconds)

-- the same of what the code holds
abbrev pub changes_view : Result (Vec Change) Refusal → Result (List Change) Refusal
changes_view (Ok changes) = Ok changes.items
changes_view (Err refusal) = Err refusal

abbrev pub imports_view : Result (Vec Change) Refusal → IdWords → Imports
imports_view changes ids = record { changes = changes_view changes; ids = ids }
