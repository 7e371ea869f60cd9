-- A step that was read, without where it lies in memory.
use Rattle.std.specs.Prelude.{◌≡◌, Option, Some, Result, Ok, Err}
use Rattle.tw_bodies.specs.Body.{Step}
use Rattle.tw_bodies.specs.Body.Step.{Commit, Undo}
use Rattle.tw_bodies.specs.Reading.{sync_in, carried_in, partial_in, checkpoint_in}
use Rattle.tw_fields.specs.Reading.{Fails}
use Rattle.tw_fields.specs.declared.read.ReadError.{ReadError}
use Rattle.tw_bodies.specs.declared.step.Read.{Read}
use Rattle.tw_bodies.specs.declared.step.Read.TheVariants as read

-- the step, if what is still to be read gives one
abbrev pub step_view : Read → Option Step
step_view (read.Commit renumber ops) = Some (Commit renumber ops.items)
step_view read.Undo = Some Undo
step_view (read.Sync base count ops) = sync_in base count ops.now
step_view (read.Carried base count ops) = carried_in base count ops.now
step_view (read.Partial base count ops) = partial_in base count ops.now
step_view (read.Checkpoint base places tasks count ops) = checkpoint_in base places.items tasks count ops.now

-- what was read is what a body gives, unless memory ran out
abbrev pub IsRead : Result Read ReadError → Option Step → Type 0
IsRead (Ok r) given = given ≡ step_view r
IsRead (Err e) given = Fails e given
