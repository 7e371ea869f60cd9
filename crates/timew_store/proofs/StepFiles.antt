-- The files of the step of a body.
use Rattle.std.proofs.Common.{◌≡◌, refl, arith}
use Rattle.timew_month.specs.declared.body.Record.{Record}
use Rattle.timew_month.specs.declared.body.Record.TheVariants.{Change, Undo}
use Rattle.timew_store.specs.Loading.{files_in}
use Rattle.timew_month.specs.Records.{changes_of, step_in, files_held}

pub files_of_step : (held : Record) → files_in (step_in held) ≡ changes_of (files_held held)
files_of_step (Change files) = refl
files_of_step (Undo files) = refl
