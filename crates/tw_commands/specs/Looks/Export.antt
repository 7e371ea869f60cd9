-- `export`: the tasks as JSON.
use Rattle.tw_state.specs.State.{State}
use Rattle.tw_export.specs.Export.{export_text}
use Rattle.tw_settings.specs.Weights.{weights}
use Rattle.tw_commands.specs.Request.{selected_in}
use Rattle.tw_commands.specs.Plan.{Plan}
use Rattle.tw_commands.specs.Looks.{looking}
use Rattle.tw_changes.specs.declared.request.Request.{Request}

-- what `export` is to do: urgency is weighed as the settings say
abbrev pub exporting : Request → State → Plan
exporting request state = looking (export_text (selected_in request state) state.tasks request.at.seconds (weights request.settings))
