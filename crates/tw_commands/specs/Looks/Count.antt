-- `count`: how many tasks are selected.
use Rattle.std.specs.Prelude.{length}
use Rattle.tw_state.specs.State.{State}
use Rattle.tw_commands.specs.Request.{selected_in}
use Rattle.tw_commands.specs.Plan.{Plan}
use Rattle.tw_commands.specs.Looks.{looking}
use Rattle.tw_commands.specs.Texts.{count_text}
use Rattle.tw_changes.specs.declared.request.Request.{Request}

-- what `count` is to do
abbrev pub counting : Request → State → Plan
counting request state = looking (count_text (length (selected_in request state)))
