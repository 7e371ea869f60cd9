-- What each command is to do, and how many uuids it draws.
use Rattle.std.specs.Prelude.{◌≡◌, ◌⊎◌, false, List, [], ◌∷◌, length, Option, Some, None, Result, Ok, Err}
use Rattle.tw_world.specs.declared.ids.IdWords.{IdWords}
use Rattle.tw_model.specs.Ops.{TaskValue}
use Rattle.tw_model.specs.declared.changes.Change.{Change}
use Rattle.tw_state.specs.State.{State}
use Rattle.tw_terms.specs.declared.bad_word.BadWord.{BadWord}
use Rattle.tw_report.specs.declared.report.Report.TheVariants as report
use Rattle.tw_words.specs.Readings.{first_bad}
use Rattle.tw_words.specs.declared.command.Command.{Command}
use Rattle.tw_words.specs.declared.command.Command.TheVariants as command
use Rattle.tw_changes.specs.Request.{after_draw}
use Rattle.tw_commands.specs.Request.{scene_in, selected_in, words_in}
use Rattle.tw_commands.specs.Plan.{Plan}
use Rattle.tw_commands.specs.Plan.Work.{Changes, TakeBack}
use Rattle.tw_commands.specs.Plan.Show.{Counted, TakenBack}
use Rattle.tw_changes.specs.Marks.{marks_of}
use Rattle.tw_changes.specs.Editing.{effect_by}
use Rattle.tw_changes.specs.Effects.{changes_by}
use Rattle.tw_commands.specs.Makes.Add.{adding, logging}
use Rattle.tw_commands.specs.Makes.Duplicate.{copies_in, copying}
use Rattle.tw_changes.specs.Makes.Import.{imports_in}
use Rattle.tw_commands.specs.Makes.Import.{importing}
use Rattle.tw_commands.specs.Looks.Count.{counting}
use Rattle.tw_commands.specs.Looks.Ids.{numbering, naming}
use Rattle.tw_commands.specs.Looks.Export.{exporting}
use Rattle.tw_commands.specs.Looks.Information.{informing}
use Rattle.tw_commands.specs.Looks.Projects.{projecting, tagging}
use Rattle.tw_commands.specs.Reports.{reporting}
use Rattle.tw_changes.specs.declared.effects.Effect.{Effect}
use Rattle.tw_changes.specs.declared.marks.Mark.{Mark}
use Rattle.tw_commands.specs.declared.plan.Deed.{Deed}
use Rattle.tw_commands.specs.declared.plan.Deed.TheVariants as deed
use Rattle.tw_changes.specs.declared.request.Request.{Request}
use Rattle.tw_changes.specs.declared.refusal.Refusal.{Refusal}
use Rattle.tw_changes.specs.declared.refusal.Refusal.TheVariants.{BadWords, NoMatch}

-- what a request makes of a task in a replica of this state
abbrev pub effect_in : Request → State → TaskValue → Effect
effect_in request state task = effect_by request (words_in request state) task

-- a command that made these changes, and leaves these marks; it needs a task on which it acts
abbrev pub acting : Deed → List Change → List Mark → Result Plan Refusal
acting deed [] marks = Err NoMatch
acting deed (change ∷ changes) marks = Ok (record { work = Changes false (change ∷ changes) marks; show = Counted deed (length (change ∷ changes)) })

-- what a command that acts on selected tasks is to do
abbrev pub editing : Deed → Request → State → Result Plan Refusal
editing deed request state =
    let changes = changes_by (effect_in request state) request.at state.tasks (selected_in request state) in
    acting deed changes (marks_of request.command state.tasks changes)

-- what `undo` is to do
abbrev pub undoing : Plan
undoing = record { work = TakeBack; show = TakenBack }

-- what a command is to do
abbrev pub plan_by : Command → Request → IdWords → State → Result Plan Refusal
plan_by command.Add request ids state = adding request ids state
plan_by command.Log request ids state = logging request ids state
plan_by command.Modify request ids state = editing deed.Modified request state
plan_by command.Append request ids state = editing deed.Modified request state
plan_by command.Prepend request ids state = editing deed.Modified request state
plan_by command.Annotate request ids state = editing deed.Annotated request state
plan_by command.Denotate request ids state = editing deed.Denotated request state
plan_by command.Done request ids state = editing deed.Completed request state
plan_by command.Delete request ids state = editing deed.Deleted request state
plan_by command.Purge request ids state = editing deed.Purged request state
plan_by command.Start request ids state = editing deed.Started request state
plan_by command.Stop request ids state = editing deed.Stopped request state
plan_by command.Duplicate request ids state = copying request ids state
plan_by command.Import request ids state = importing request ids state
plan_by command.Undo request ids state = Ok undoing
plan_by command.Count request ids state = Ok (counting request state)
plan_by command.Ids request ids state = Ok (numbering request state)
plan_by command.Uuids request ids state = Ok (naming request state)
plan_by command.Export request ids state = Ok (exporting request state)
plan_by command.Information request ids state = informing request state
plan_by command.Projects request ids state = Ok (projecting request state)
plan_by command.Tags request ids state = Ok (tagging request state)
plan_by command.List request ids state = Ok (reporting report.List request state)
plan_by command.Next request ids state = Ok (reporting report.Next request state)
plan_by command.All request ids state = Ok (reporting report.All request state)
plan_by command.Completed request ids state = Ok (reporting report.Completed request state)
plan_by command.Waiting request ids state = Ok (reporting report.Waiting request state)
plan_by command.Blocked request ids state = Ok (reporting report.Blocked request state)

abbrev pub unless_bad : Option BadWord → Result Plan Refusal → Result Plan Refusal
unless_bad None plan = plan
unless_bad (Some bad) plan = Err (BadWords bad.word bad.kind)

-- what a request is to do with a replica in this state, or why it does nothing; a modification word that is wrong, as one that names no task, comes first
abbrev pub plan_of : Request → IdWords → State → Result Plan Refusal
plan_of request ids state =
    unless_bad (first_bad (scene_in request state) request.line) (plan_by request.command request ids state)

-- the identifiers once a command is decided on
abbrev pub ids_by : Command → Request → IdWords → State → IdWords
ids_by command.Add request ids state = after_draw ids
ids_by command.Log request ids state = after_draw ids
ids_by command.Duplicate request ids state = (copies_in request ids state).ids
ids_by command.Import request ids state = (imports_in request ids state.tasks).ids
ids_by _ request ids state = ids

abbrev pub ids_unless : Option BadWord → (old left : IdWords) → IdWords
ids_unless None old left = left
ids_unless (Some bad) old left = old

abbrev pub ids_after : Request → IdWords → State → IdWords
ids_after request ids state =
    ids_unless (first_bad (scene_in request state) request.line) ids (ids_by request.command request ids state)

-- no identifier was drawn yet, or all were
abbrev pub DrewNoneOr : (all old new : IdWords) → Type 0
DrewNoneOr all old new = (new ≡ old) ⊎ (new ≡ all)

abbrev pub MayHaveDrawn : Request → (old new : IdWords) → State → Type 0
MayHaveDrawn request old new state = DrewNoneOr (ids_after request old state) old new
