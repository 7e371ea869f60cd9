-- `projects` and `tags`: the names that pending tasks have.
use Rattle.std.specs.Prelude.{ℕ, List}
use Rattle.tw_state.specs.State.{State}
use Rattle.tw_report.specs.Texts.{projects_text, tags_text}
use Rattle.tw_report.specs.declared.report.Report.TheVariants as report
use Rattle.tw_commands.specs.Request.{selected_in}
use Rattle.tw_commands.specs.Plan.{Plan}
use Rattle.tw_commands.specs.Looks.{looking}
use Rattle.tw_commands.specs.Reports.{rows_of}
use Rattle.tw_changes.specs.declared.request.Request.{Request}

-- those of the selected tasks that are pending
abbrev pub pending_in : Request → State → List (List ℕ)
pending_in request state = rows_of report.List state.tasks request.at.seconds (selected_in request state)

-- what `projects` and `tags` are to do
abbrev pub projecting : Request → State → Plan
projecting request state = looking (projects_text (pending_in request state) state.tasks)

abbrev pub tagging : Request → State → Plan
tagging request state = looking (tags_text (pending_in request state) state.tasks)
