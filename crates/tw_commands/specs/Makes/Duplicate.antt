-- `duplicate`: the copies of the tasks that are selected.
use Rattle.std.specs.Prelude.{ℕ, false, List, [], ◌∷◌, length, map, Some, Result, Ok, Err}
use Rattle.std.specs.FinMap.{empty, entries}
use Rattle.tw_world.specs.declared.ids.IdWords.{IdWords}
use Rattle.tw_model.specs.Ops.{TaskValue, TasksValue}
use Rattle.tw_model.specs.declared.changes.Change.{Change}
use Rattle.tw_state.specs.State.{State}
use Rattle.tw_changes.specs.Makes.Duplicate.{Copies, copies_beside}
use Rattle.tw_changes.specs.declared.request.Request.{Request}
use Rattle.tw_changes.specs.declared.refusal.Refusal.{Refusal}
use Rattle.tw_changes.specs.declared.refusal.Refusal.TheVariants.{NoMatch}
use Rattle.tw_commands.specs.Request.{selected_in, words_in}
use Rattle.tw_commands.specs.Plan.{Plan}
use Rattle.tw_commands.specs.Plan.Work.{Changes}
use Rattle.tw_commands.specs.Plan.Show.{Counted}
use Rattle.tw_commands.specs.declared.plan.Deed.TheVariants.{Duplicated}

abbrev pub change_of : List ℕ × TaskValue → Change
change_of entry = record { uuid = entry.0; task = Some entry.1 }

-- the copies are made in byte order of their uuids; it needs one
abbrev pub duplicating : List (List ℕ × TaskValue) → Result Plan Refusal
duplicating [] = Err NoMatch
duplicating (entry ∷ entries) = Ok (record { work = Changes false (map change_of (entry ∷ entries)) []; show = Counted Duplicated (length (entry ∷ entries)) })

abbrev pub duplicated : Result TasksValue Refusal → Result Plan Refusal
duplicated (Err refusal) = Err refusal
duplicated (Ok made) = duplicating (entries made)

-- the copies of the tasks that a request selects
abbrev pub copies_in : Request → IdWords → State → Copies
copies_in request ids state = copies_beside (words_in request state) request.at ids state.tasks empty (selected_in request state)

-- what `duplicate` is to do
abbrev pub copying : Request → IdWords → State → Result Plan Refusal
copying request ids state = duplicated (copies_in request ids state).made
