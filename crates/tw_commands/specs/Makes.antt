-- Commands that make tasks of drawn uuids.
use Rattle.std.specs.Prelude.{ℕ, false, List, [], ◌∷◌, Option, Some, None, Result, Ok, Err}
use Rattle.tw_model.specs.Ops.{TaskValue}
use Rattle.tw_changes.specs.declared.refusal.Refusal.{Refusal}
use Rattle.tw_changes.specs.declared.refusal.Refusal.TheVariants.{IdTaken}
use Rattle.tw_commands.specs.Plan.{Plan, Show}
use Rattle.tw_commands.specs.Plan.Work.{Changes}
pub mod Add
pub mod Duplicate
pub mod Import

-- a task of a uuid that has none
abbrev pub making : Show → List ℕ → TaskValue → Option TaskValue → Result Plan Refusal
making show u task None = Ok (record { work = Changes false (record { uuid = u; task = Some task } ∷ []) []; show = show })
making show u task (Some there) = Err (IdTaken u)
