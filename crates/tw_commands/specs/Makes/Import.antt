-- `import`: the changes of the elements of its input.
use Rattle.std.specs.Prelude.{false, List, [], length, Result, Ok, Err}
use Rattle.tw_world.specs.declared.ids.IdWords.{IdWords}
use Rattle.tw_model.specs.declared.changes.Change.{Change}
use Rattle.tw_state.specs.State.{State}
use Rattle.tw_changes.specs.Makes.Import.{imports_in}
use Rattle.tw_changes.specs.declared.request.Request.{Request}
use Rattle.tw_changes.specs.declared.refusal.Refusal.{Refusal}
use Rattle.tw_commands.specs.Plan.{Plan}
use Rattle.tw_commands.specs.Plan.Work.{Changes}
use Rattle.tw_commands.specs.Plan.Show.{Counted}
use Rattle.tw_commands.specs.declared.plan.Deed.TheVariants as deed

-- the changes are made, one for each element
abbrev pub imported : Result (List Change) Refusal → Result Plan Refusal
imported (Err refusal) = Err refusal
imported (Ok changes) = Ok (record { work = Changes false changes []; show = Counted deed.Imported (length changes) })

-- what `import` is to do
abbrev pub importing : Request → IdWords → State → Result Plan Refusal
importing request ids state = imported (imports_in request ids state.tasks).changes
