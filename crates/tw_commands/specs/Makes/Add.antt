-- `add` and `log`: a task of a drawn uuid.
use Rattle.std.specs.Prelude.{Result}
use Rattle.std.specs.FinMap.{get}
use Rattle.tw_world.specs.declared.ids.IdWords.{IdWords}
use Rattle.tw_state.specs.State.{State}
use Rattle.tw_changes.specs.Request.{drawn}
use Rattle.tw_changes.specs.Makes.Add.{added, logged}
use Rattle.tw_changes.specs.declared.request.Request.{Request}
use Rattle.tw_changes.specs.declared.refusal.Refusal.{Refusal}
use Rattle.tw_commands.specs.Request.{words_in}
use Rattle.tw_commands.specs.Plan.{Plan}
use Rattle.tw_commands.specs.Plan.Show.{Created, Logged}
use Rattle.tw_commands.specs.Makes.{making}

-- what they are to do
abbrev pub adding : Request → IdWords → State → Result Plan Refusal
adding request ids state =
    making (Created (drawn ids)) (drawn ids) (added (words_in request state) request.at) (get state.tasks (drawn ids))

abbrev pub logging : Request → IdWords → State → Result Plan Refusal
logging request ids state =
    making Logged (drawn ids) (logged (words_in request state) request.at) (get state.tasks (drawn ids))
