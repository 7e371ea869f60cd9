-- `information`: all that is known of tasks.
use Rattle.std.specs.Prelude.{ℕ, List, [], ◌∷◌, Result, Ok, Err}
use Rattle.tw_state.specs.State.{State}
use Rattle.tw_report.specs.Texts.{information_text}
use Rattle.tw_commands.specs.Request.{selected_in}
use Rattle.tw_commands.specs.Plan.{Plan}
use Rattle.tw_commands.specs.Looks.{looking}
use Rattle.tw_commands.specs.Reports.{sight_in}
use Rattle.tw_changes.specs.declared.request.Request.{Request}
use Rattle.tw_changes.specs.declared.refusal.Refusal.{Refusal}
use Rattle.tw_changes.specs.declared.refusal.Refusal.TheVariants.{NoMatch}

-- `information` needs a task
abbrev pub information_on : List (List ℕ) → Request → State → Result Plan Refusal
information_on [] request state = Err NoMatch
information_on (u ∷ us) request state = Ok (looking (information_text (u ∷ us) (sight_in request state)))

-- what `information` is to do
abbrev pub informing : Request → State → Result Plan Refusal
informing request state = information_on (selected_in request state) request state
