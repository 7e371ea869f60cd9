-- Laws on the tasks that were there before a command that acts on no selected ones.
use Rattle.std.specs.Prelude.{◌≡◌, ℕ, Bool, true, false, List, Some, Ok}
use Rattle.std.specs.List.{list_any}
use Rattle.std.specs.FinMap.{get}
use Rattle.tw_world.specs.declared.ids.IdWords.{IdWords}
use Rattle.tw_model.specs.Ops.{TaskValue}
use Rattle.tw_model.specs.Places.{has_uuid}
use Rattle.tw_import.specs.Import.{import_of}
use Rattle.tw_import.specs.declared.import.Imported.{Imported}
use Rattle.tw_state.specs.State.{State}
use Rattle.tw_words.specs.declared.command.Command.{Command}
use Rattle.tw_words.specs.declared.command.Command.TheVariants as command
use Rattle.tw_commands.specs.Carried.{Carried}
use Rattle.tw_commands.specs.Laws.{IsCarriedOut, IsSameButMask, AreAnswers}
use Rattle.tw_changes.specs.declared.request.Request.{Request}

-- commands that only make tasks
abbrev pub makes : Command → Bool
makes command.Add = true
makes command.Log = true
makes command.Duplicate = true
makes _ = false

-- such a command leaves each task that was there as it was
abbrev pub MakersChangeNone : Type 0
MakersChangeNone = (request : Request) (ids : IdWords) (answers : List TaskValue) (old : State) (carried : Carried) (u : List ℕ) (task : TaskValue)
    → IsCarriedOut request ids answers old carried → makes request.command ≡ true → get old.tasks u ≡ Some task → get carried.new.tasks u ≡ Some task

-- whether one of these elements gives a uuid
abbrev pub gives : List Imported → List ℕ → Bool
gives elements u = list_any (λ (e : Imported). has_uuid u e.uuid) elements

-- an import leaves each task that was there as it was, unless its input gives the uuid
abbrev pub ImportsChangeWhatTheyGive : Type 0
ImportsChangeWhatTheyGive = (request : Request) (ids : IdWords) (answers : List TaskValue) (old : State) (carried : Carried) (elements : List Imported) (u : List ℕ) (task : TaskValue)
    → IsCarriedOut request ids answers old carried → request.command ≡ command.Import → import_of request.input request.at.seconds ≡ Ok elements
    → gives elements u ≡ false → get old.tasks u ≡ Some task → get carried.new.tasks u ≡ Some task

-- reports, which make instances
abbrev pub is_report : Command → Bool
is_report command.List = true
is_report command.Next = true
is_report command.All = true
is_report command.Completed = true
is_report command.Waiting = true
is_report command.Blocked = true
is_report _ = false

-- a report leaves each task that was there as it was, but for the masks of templates
abbrev pub ReportsChangeMasks : Type 0
ReportsChangeMasks = (request : Request) (ids : IdWords) (answers : List TaskValue) (old : State) (carried : Carried) (u : List ℕ) (task : TaskValue)
    → IsCarriedOut request ids answers old carried → AreAnswers request ids old answers → is_report request.command ≡ true → get old.tasks u ≡ Some task
    → IsSameButMask (Some task) (get carried.new.tasks u)
