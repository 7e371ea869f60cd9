-- Commands that change nothing.
use Rattle.std.specs.Prelude.{ℕ, false, List, []}
use Rattle.tw_commands.specs.Plan.{Plan}
use Rattle.tw_commands.specs.Plan.Work.{Changes}
use Rattle.tw_commands.specs.Plan.Show.{Text}
pub mod Count
pub mod Ids
pub mod Export
pub mod Information
pub mod Projects

-- nothing is changed, and a text is printed
abbrev pub looking : List ℕ → Plan
looking text = record { work = Changes false [] []; show = Text text }
